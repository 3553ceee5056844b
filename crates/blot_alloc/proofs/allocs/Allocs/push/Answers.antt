use Rattle.std.proofs.Common.{◌≡◌, ◌∷◌, [], ◌++◌, true, ap, sym, subst, ◌∙◌, reverse, length}
use Rattle.std.proofs.lemmas.List.{length-reverse}
use Rattle.blot_types.specs.declared.allocation.Instruction.{Instruction}
use Rattle.blot_types.specs.Instructions.{is_above_instructions, may_follow}
use Rattle.blot_places.specs.declared.slots.Slot.{Slot}
use Rattle.blot_alloc.proofs.HoldsLemmas.{held-push}
use Rattle.blot_alloc.proofs.allocs.Allocs.push.Goals as goal

pub invariant_of-self-2 : goal.invariant_of-self-2
invariant_of-self-2 c =
    let slots = c.self.inside.slots.items in
    let item : Instruction = record { number = c.args.number; key = c.args.key.now; role = c.args.role; roots = c.args.roots } in
    let slot : Slot Instruction = record { item = item; is_live = true } in
    let holds = c.self.invariant in
    held-push c.self.inside.index c.push.new.self slots c.push_reserved.new.self.items item holds
    (c.push_reserved.ensures.items ∙ ap (λ items. items ++ slot ∷ []) c.reserve.ensures.items)
    (c.push.ensures (reverse slots) (c.in_ok-make_room.ensures.same (reverse slots) holds.indexed)
    (c.len-place.ensures ∙ c.reserve.new.self.ok.0 ∙ ap length c.reserve.ensures.items ∙ sym (length-reverse slots)))
    (subst (λ shown. may_follow shown.list c.args.key.now c.args.role c.args.roots ≡ true) (sym c.self.view_is) c.requires.accepted)
    (subst (λ shown. is_above_instructions c.args.number shown.list ≡ true) (sym c.self.view_is) c.requires.above)
    (subst (λ shown. is_above_instructions c.args.number shown.kept ≡ true) (sym c.self.view_is) c.requires.above_kept)
