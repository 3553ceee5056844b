use Rattle.std.proofs.Common.{rules}
use Rattle.std.proofs.lemmas.List.Sorted.{IsPartitionPoint-from_clause}
use Rattle.blot_places.specs.Slots.{is_up_to}
use Rattle.blot_places.proofs.PointLemmas.{back_fails}
use Rattle.blot_places.proofs.around.places_above.Goals as goal

pub returns : goal.returns
returns g c =
    let test = is_up_to g.T.Numbered.number_of c.args.number c.args.slots.now in
    back_fails test c.args.stack.now c.partition_point-count.result
    (IsPartitionPoint-from_clause test c.args.stack.now c.partition_point-count.result c.partition_point-count.ensures.partitioned c.requires (λ a r q k. search rules))
