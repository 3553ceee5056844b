use Rattle.std.proofs.Common.{◌≡◌, ◌<◌, ◌+◌, length, Some, None, sym, ap, subst, ◌∙◌, option_copied, if◌then◌else◌, ltb-true}
use Rattle.std.specs.List.{last_or}
use Rattle.blot_types.specs.Legal.{is_above_entries}
use Rattle.blot_types.proofs.OrderLemmas.{last_or-push}
use Rattle.blot_command.specs.Book.{Shown}
use Rattle.blot_command.proofs.LastSlotLemmas.{EndsIn, IsLast, ends_in, last-slot}
use Rattle.blot_command.proofs.live.LiveList.last.Goals as goal
use Rattle.blot_command.proofs.live.LiveList.last.Goals.{In-Some}

-- the last slot
ends : (c : In-Some) → EndsIn c.self.inside.slots.items c.in-Some.slot.now
ends c =
    let slot = c.in-Some.slot.now in
    let some : 0 < length c.deref.result.now = ltb-true 0 (length c.deref.result.now) (sym c.in-Some.ensures.item.0) in
    subst (λ slots. EndsIn slots slot) c.deref.ensures.value (ends_in c.deref.result.now slot some c.in-Some.ensures.item.1)

-- its entry is the last one
last : (c : In-Some) → IsLast (ends c).front c.in-Some.slot.now c.requires.entry
last c =
    last-slot c.self.inside.slots.items (ends c).front c.in-Some.slot.now c.requires.rest c.requires.entry c.self.invariant.numbered (ends c).is (ap (λ (shown : Shown). shown.list) c.self.view_is ∙ c.requires.is)
    (ap (λ (shown : Shown). is_above_entries (c.requires.entry.number + 1) shown.kept) c.self.view_is ∙ c.requires.above)

pub unreachable-requires-in_default-entry : goal.unreachable-requires-in_default-entry
unreachable-requires-in_default-entry c =
    let it = last (goal.at.unreachable-requires-in_default-entry c).In-Some in
    let none : None ≡ Some c.in-Some.slot.now.item =
    sym (ap option_copied c.in_default-entry.is) ∙ c.entry.ensures ∙ ap (λ b. if b then Some c.in-Some.slot.now.item else None) it.there in
    cc

pub returns-clause-last : goal.returns-clause-last
returns-clause-last c =
    let it = last (goal.at.returns-clause-last c).In-Some in
    let some : Some c.in-Some-entry.entry.now ≡ Some c.in-Some.slot.now.item =
    sym (ap option_copied c.in-Some-entry.is) ∙ c.entry.ensures ∙ ap (λ b. if b then Some c.in-Some.slot.now.item else None) it.there in
    ap (last_or None) c.requires.is ∙ last_or-push None c.requires.rest c.requires.entry ∙ ap Some (sym it.own) ∙ sym some
