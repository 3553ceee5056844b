use Rattle.std.proofs.Common.{rules, arith, ltb, ltb-true, ltb-false}
use Rattle.std.proofs.lemmas.List.Sorted.{IsPartitionPoint-from_clause, IsPartitionedBy-ltb}
use Rattle.blot_places.proofs.SearchLemmas.{rising}
use Rattle.blot_places.proofs.slots.place_of.Goals as goal

pub returns-clause-below : goal.returns-clause-below
returns-clause-below g c =
    let number_of = g.T.Numbered.number_of in
    let parted = IsPartitionedBy-ltb (λ slot. number_of slot.item) c.args.slots.now c.args.number (rising number_of c.args.slots.now c.requires) in
    let point = IsPartitionPoint-from_clause (λ slot. ltb (number_of slot.item) c.args.number) _ _ c.partition_point.ensures.partitioned parted (λ a r q k. search rules) in
    λ k d h. ltb-true _ _ (point.0 k d (omega arith) h)

pub returns-clause-above : goal.returns-clause-above
returns-clause-above g c =
    let number_of = g.T.Numbered.number_of in
    let parted = IsPartitionedBy-ltb (λ slot. number_of slot.item) c.args.slots.now c.args.number (rising number_of c.args.slots.now c.requires) in
    let point = IsPartitionPoint-from_clause (λ slot. ltb (number_of slot.item) c.args.number) _ _ c.partition_point.ensures.partitioned parted (λ a r q k. search rules) in
    λ k d h l. ltb-false _ _ (point.1 k d h l)
