use Rattle.std.proofs.Common.{◌≡◌, ◌++◌, ◌∷◌, [], true, ap, sym, subst, ◌∙◌}
use Rattle.std.specs.List.{cons_option}
use Rattle.blot_types.specs.declared.command.Entry.{Entry}
use Rattle.blot_types.specs.Allocations.{instruction_by}
use Rattle.blot_types.specs.Legal.{is_above_entries, is_book}
use Rattle.blot_types.specs.Survivors.{link_of}
use Rattle.blot_command.specs.Book.{Shown}
use Rattle.blot_command.specs.Linking.{CanLink, HoldsLive}
use Rattle.blot_command.specs.Slots.{entries_in, left_in}
use Rattle.blot_command.specs.Withdrawing.{with_entry}
use Rattle.blot_command.proofs.LastSlotLemmas.{above-kept-instructions, above-kept-links, can-push, holds-pushed}
use Rattle.blot_command.proofs.TurnLemmas.{kept-push, list-push}
use Rattle.blot_command.proofs.live.LiveList.push.Goals as goal
use Rattle.blot_command.proofs.live.LiveList.push.Goals.{After-as_entry, After-push_reserved}

same : (c : After-as_entry) → c.as_entry.result.now ≡ c.args.entry
same c = c.as_entry.ensures

above : (c : After-as_entry) → is_above_entries c.as_entry.result.now.number (left_in c.self.inside.slots.items) ≡ true
above c =
    ap (λ (e : Entry). is_above_entries e.number (left_in c.self.inside.slots.items)) (same c)
    ∙ ap (λ (shown : Shown). is_above_entries c.args.entry.number shown.kept) c.self.view_is ∙ c.requires.above

pub link_entry-requires-clause-next : goal.link_entry-requires-clause-next
link_entry-requires-clause-next c =
    let v = c.self.inside in
    subst (λ (entry : Entry). CanLink entry v.chains.list v.allocs.list) (sym (same (goal.at.link_entry-requires-clause-next c).After-as_entry))
    (can-push v.slots.items c.args.entry v.chains v.allocs c.self.invariant (ap (λ (shown : Shown). is_book (shown.list ++ c.args.entry ∷ [])) c.self.view_is ∙ c.requires.book))

pub link_entry-requires-clause-above : goal.link_entry-requires-clause-above
link_entry-requires-clause-above c =
    let v = c.self.inside in
    above-kept-links v.slots.items c.as_entry.result.now.number v.chains v.allocs c.self.invariant (above (goal.at.link_entry-requires-clause-above c).After-as_entry)

pub link_entry-requires-clause-above_instructions : goal.link_entry-requires-clause-above_instructions
link_entry-requires-clause-above_instructions c =
    let v = c.self.inside in
    above-kept-instructions v.slots.items c.as_entry.result.now.number v.chains v.allocs c.self.invariant (above (goal.at.link_entry-requires-clause-above_instructions c).After-as_entry)

-- the slots with that of the entry after them
pushed : (c : After-push_reserved) → c.push_reserved.new.self.items ≡ c.self.inside.slots.items ++ record { item = c.args.entry; is_live = true } ∷ []
pushed c =
    c.push_reserved.ensures.items
    ∙ (λ i. c.reserve.ensures.items i ++ c.new.ensures i ∷ [])

pub invariant_of-self-2 : goal.invariant_of-self-2
invariant_of-self-2 c =
    let v = c.self.inside in
    let linked = c.in-Ok-link_entry.ensures in
    let own = same (goal.at.invariant_of-self-2 c).After-as_entry in
    subst (λ slots. HoldsLive slots c.link_entry.new.chains c.link_entry.new.allocs) (sym (pushed (goal.at.invariant_of-self-2 c).After-push_reserved))
    (holds-pushed v.slots.items c.args.entry v.chains c.link_entry.new.chains v.allocs c.link_entry.new.allocs c.self.invariant
    (ap (λ (shown : Shown). is_book (shown.list ++ c.args.entry ∷ [])) c.self.view_is ∙ c.requires.book)
    (ap (λ (shown : Shown). is_above_entries c.args.entry.number shown.kept) c.self.view_is ∙ c.requires.above)
    (linked.chains ∙ ap (λ (entry : Entry). cons_option (link_of entry) v.chains.list) own) linked.kept
    (linked.allocs ∙ ap (λ (entry : Entry). cons_option (instruction_by v.chains.list entry.number entry.command) v.allocs.list) own) linked.kept_instructions)

pub returns-clause-ok : goal.returns-clause-ok
returns-clause-ok c =
    let v = c.self.inside in
    ap (λ slots. record { list = entries_in slots; kept = left_in slots }) (pushed (goal.at.returns-clause-ok c).After-push_reserved)
    ∙ (λ i. record { list = list-push v.slots.items c.args.entry i; kept = kept-push v.slots.items c.args.entry i })
    ∙ ap (with_entry c.args.entry) c.self.view_is
