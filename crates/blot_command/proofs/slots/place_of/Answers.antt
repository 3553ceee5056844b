use Rattle.std.proofs.Common.{rules, arith, ltb, ltb-true, ltb-false}
use Rattle.std.proofs.lemmas.List.Sorted.{IsPartitionPoint-from_clause, IsPartitionedBy-ltb}
use Rattle.blot_types.specs.declared.command.Entry.{Entry}
use Rattle.blot_places.specs.declared.slots.Slot.{Slot}
use Rattle.blot_places.proofs.SearchLemmas.{rising}
use Rattle.blot_command.specs.Book.{entry_number}
use Rattle.blot_command.proofs.slots.place_of.Goals as goal

pub returns-clause-below : goal.returns-clause-below
returns-clause-below c =
    let parted = IsPartitionedBy-ltb (λ (slot : Slot Entry). slot.item.number) c.args.slots.now c.args.number (rising entry_number c.args.slots.now c.requires) in
    let point = IsPartitionPoint-from_clause (λ (slot : Slot Entry). ltb slot.item.number c.args.number) _ _ c.partition_point.ensures.partitioned parted (λ a r q k. search rules) in
    λ k d h. ltb-true _ _ (point.0 k d (omega arith) h)

pub returns-clause-above : goal.returns-clause-above
returns-clause-above c =
    let parted = IsPartitionedBy-ltb (λ (slot : Slot Entry). slot.item.number) c.args.slots.now c.args.number (rising entry_number c.args.slots.now c.requires) in
    let point = IsPartitionPoint-from_clause (λ (slot : Slot Entry). ltb slot.item.number c.args.number) _ _ c.partition_point.ensures.partitioned parted (λ a r q k. search rules) in
    λ k d h l. ltb-false _ _ (point.1 k d h l)
