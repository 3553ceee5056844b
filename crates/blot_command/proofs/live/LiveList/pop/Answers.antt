use Rattle.std.proofs.Common.{◌≡◌, ◌++◌, ◌∷◌, [], ◌+◌, true, Some, None, sym, ap, subst, ◌∙◌, if◌then◌else◌}
use Rattle.blot_types.specs.declared.command.Entry.{Entry}
use Rattle.blot_types.specs.Chains.{is_above_links}
use Rattle.blot_types.specs.Instructions.{is_above_instructions}
use Rattle.blot_types.specs.Legal.{is_above_entries}
use Rattle.blot_command.specs.Book.{Shown}
use Rattle.blot_command.specs.Linking.{IsLinkedLast, without_link, without_instruction}
use Rattle.blot_command.specs.Slots.{entries_in, left_in}
use Rattle.blot_command.proofs.LastSlotLemmas.{IsLast, above-kept-instructions, above-kept-links, holds-popped, last-slot}
use Rattle.blot_command.proofs.LiveLemmas.{holds-more, linked-last}
use Rattle.blot_command.proofs.TurnLemmas.{kept-push, list-push}
use Rattle.blot_command.proofs.live.LiveList.pop.Goals as goal
use Rattle.blot_command.proofs.live.LiveList.pop.Goals.{After-into_entry, In-Some-into_entry}

-- the last slot's entry is the last one
last : (c : After-into_entry) → IsLast c.pop.new.self.items c.in-Some.slot c.requires.entry
last c =
    last-slot c.self.inside.slots.items c.pop.new.self.items c.in-Some.slot c.requires.rest c.requires.entry c.self.invariant.numbered c.in-Some.ensures.items
    (ap (λ (shown : Shown). shown.list) c.self.view_is ∙ c.requires.is)
    (ap (λ (shown : Shown). is_above_entries (c.requires.entry.number + 1) shown.kept) c.self.view_is ∙ c.requires.above)

pub unreachable-requires-in_default-into_entry : goal.unreachable-requires-in_default-into_entry
unreachable-requires-in_default-into_entry c =
    let it = last (goal.at.unreachable-requires-in_default-into_entry c).After-into_entry in
    let none : None ≡ Some c.in-Some.slot.item = sym c.in_default-into_entry.is ∙ c.into_entry.ensures ∙ ap (λ b. if b then Some c.in-Some.slot.item else None) it.there in
    cc

-- the slots end in that of the entry
whole : (c : In-Some-into_entry) → c.self.inside.slots.items ≡ c.pop.new.self.items ++ record { item = c.in-Some-into_entry.entry; is_live = true } ∷ []
whole c =
    let it = last (goal.at.In-Some-into_entry c).After-into_entry in
    let some : Some c.in-Some-into_entry.entry ≡ Some c.in-Some.slot.item = sym c.in-Some-into_entry.is ∙ c.into_entry.ensures ∙ ap (λ b. if b then Some c.in-Some.slot.item else None) it.there in
    let same : c.in-Some-into_entry.entry ≡ c.in-Some.slot.item = cc in
    c.in-Some.ensures.items ∙ (λ i. c.pop.new.self.items ++ record { item = sym same i; is_live = it.there i } ∷ [])

-- its number is above those that are kept
above : (c : In-Some-into_entry) → is_above_entries c.in-Some-into_entry.entry.number (left_in c.pop.new.self.items) ≡ true
above c =
    let it = last (goal.at.In-Some-into_entry c).After-into_entry in
    let some : Some c.in-Some-into_entry.entry ≡ Some c.in-Some.slot.item = sym c.in-Some-into_entry.is ∙ c.into_entry.ensures ∙ ap (λ b. if b then Some c.in-Some.slot.item else None) it.there in
    let same : c.in-Some-into_entry.entry ≡ c.in-Some.slot.item = cc in
    ap (λ (e : Entry). is_above_entries e.number (left_in c.pop.new.self.items)) (same ∙ it.own) ∙ it.above

above-whole : (c : In-Some-into_entry) → is_above_entries c.in-Some-into_entry.entry.number (left_in c.self.inside.slots.items) ≡ true
above-whole c = ap (λ s. is_above_entries c.in-Some-into_entry.entry.number (left_in s)) (whole c) ∙ ap (is_above_entries c.in-Some-into_entry.entry.number) (kept-push c.pop.new.self.items c.in-Some-into_entry.entry) ∙ above c

pub unlink_entry-requires-clause-last : goal.unlink_entry-requires-clause-last
unlink_entry-requires-clause-last c =
    let v = c.self.inside in
    let at = (goal.at.unlink_entry-requires-clause-last c).In-Some-into_entry in
    let entry = c.in-Some-into_entry.entry in
    let front = c.pop.new.self.items in
    subst (λ e. IsLinkedLast e v.chains.list v.allocs.list) (sym c.as_entry-inner.ensures)
    (linked-last (entries_in front) entry v.chains.list v.allocs.list
    (holds-more (entries_in v.slots.items) (entries_in front) entry v.chains.list v.allocs.list c.self.invariant.holds (ap entries_in (whole at) ∙ list-push front entry)))

pub unlink_entry-requires-clause-above : goal.unlink_entry-requires-clause-above
unlink_entry-requires-clause-above c =
    let v = c.self.inside in
    ap (λ (e : Entry). is_above_links e.number v.chains.kept) c.as_entry-inner.ensures
    ∙ above-kept-links v.slots.items c.in-Some-into_entry.entry.number v.chains v.allocs c.self.invariant (above-whole (goal.at.unlink_entry-requires-clause-above c).In-Some-into_entry)

pub unlink_entry-requires-clause-above_instructions : goal.unlink_entry-requires-clause-above_instructions
unlink_entry-requires-clause-above_instructions c =
    let v = c.self.inside in
    ap (λ (e : Entry). is_above_instructions e.number v.allocs.kept) c.as_entry-inner.ensures
    ∙ above-kept-instructions v.slots.items c.in-Some-into_entry.entry.number v.chains v.allocs c.self.invariant (above-whole (goal.at.unlink_entry-requires-clause-above_instructions c).In-Some-into_entry)

pub invariant_of-self : goal.invariant_of-self
invariant_of-self c =
    let v = c.self.inside in
    let e = c.unlink_entry.ensures in
    holds-popped v.slots.items c.pop.new.self.items c.in-Some-into_entry.entry v.chains c.unlink_entry.new.chains v.allocs c.unlink_entry.new.allocs c.self.invariant
    (whole (goal.at.invariant_of-self c).In-Some-into_entry) (e.chains ∙ ap (λ (e : Entry). without_link e.command v.chains.list) c.as_entry-inner.ensures) e.kept
    (e.allocs ∙ ap (λ (e : Entry). without_instruction e.command v.allocs.list) c.as_entry-inner.ensures) e.kept_instructions

pub returns-clause-above : goal.returns-clause-above
returns-clause-above c = above (goal.at.returns-clause-above c).In-Some-into_entry

pub returns-clause-rest : goal.returns-clause-rest
returns-clause-rest c =
    let entry = c.in-Some-into_entry.entry in
    let front = c.pop.new.self.items in
    sym c.self.view_is
    ∙ ap (λ s. record { list = entries_in s; kept = left_in s }) (whole (goal.at.returns-clause-rest c).In-Some-into_entry)
    ∙ (λ i. record { list = list-push front entry i; kept = kept-push front entry i })
