use Rattle.std.proofs.Common.{rules}
use Rattle.std.proofs.lemmas.List.Sorted.{IsPartitionPoint-from_clause}
use Rattle.blot_places.specs.Slots.{is_below}
use Rattle.blot_places.proofs.PointLemmas.{front_passes}
use Rattle.blot_places.proofs.around.places_below.Goals as goal

pub returns : goal.returns
returns g c =
    let test = is_below g.T.Numbered.number_of c.args.number c.args.slots.now in
    front_passes test c.args.stack.now c.partition_point-count.result
    (IsPartitionPoint-from_clause test c.args.stack.now c.partition_point-count.result c.partition_point-count.ensures.partitioned c.requires (λ a r q k. search rules))
