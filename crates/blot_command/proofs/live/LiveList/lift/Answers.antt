use Rattle.std.proofs.Common.{◌≡◌, false, length, ap, sym, subst, ◌∙◌, find, if◌then◌else◌}
use Rattle.std.specs.Vec.{with_items}
use Rattle.std.proofs.lemmas.List.{with_items_is}
use Rattle.blot_types.specs.declared.command.Entry.{Entry}
use Rattle.blot_types.specs.Legal.{is_book, without}
use Rattle.blot_places.specs.Slots.{marked}
use Rattle.blot_chain.specs.Steps.{lifted_out as lifted_link}
use Rattle.blot_alloc.specs.Allocs.{lifted_out as lifted_instruction}
use Rattle.blot_command.specs.Book.{Shown, entry_number, has_number}
use Rattle.blot_command.specs.Linking.{CanLift, is_instruction, is_link}
use Rattle.blot_command.specs.Slots.{entries_in}
use Rattle.blot_command.specs.Withdrawing.{lifted}
use Rattle.blot_command.proofs.LiveLiftLemmas.{TakesOut, takes-out}
use Rattle.blot_command.proofs.live.LiveList.lift.Goals as goal
use Rattle.blot_command.proofs.live.LiveList.lift.Goals.{After-take_out-entry}

-- the entry goes from these slots
taken : (c : After-take_out-entry) → TakesOut c.self.inside.slots.items c.args.number c.take_out-entry.result c.self.inside.chains c.self.inside.allocs
taken c =
    let v = c.self.inside in
    takes-out v.slots.items c.args.number c.take_out-entry.result v.chains v.allocs c.self.invariant
    (ap (λ all. find (has_number c.args.number) (entries_in all)) (sym c.deref_mut.ensures.value) ∙ c.take_out-entry.ensures.entry)
    (ap (λ (shown : Shown). is_book (without c.args.number shown.list)) c.self.view_is ∙ c.requires.rest)

-- the slots after that
emptied : (c : After-take_out-entry) → (with_items c.self.inside.slots c.take_out-entry.new.slots).items ≡ marked entry_number c.args.number false c.self.inside.slots.items
emptied c =
    with_items_is c.self.inside.slots c.take_out-entry.new.slots (c.take_out-entry.auto.slots ∙ ap length c.deref_mut.ensures.value ∙ sym c.self.inside.slots.ok.0)
    ∙ c.take_out-entry.ensures.taken ∙ ap (marked entry_number c.args.number false) c.deref_mut.ensures.value

pub lift_entry-requires : goal.lift_entry-requires
lift_entry-requires c =
    subst (λ (entry : Entry). CanLift entry c.self.inside.chains c.self.inside.allocs) (sym c.as_entry.ensures) (taken (goal.at.lift_entry-requires c).After-take_out-entry).can

pub invariant_of-self : goal.invariant_of-self
invariant_of-self c =
    let v = c.self.inside in
    let at = (goal.at.invariant_of-self c).After-take_out-entry in
    (taken at).holds (with_items v.slots c.take_out-entry.new.slots).items c.lift_entry.new.chains c.lift_entry.new.allocs (emptied at)
    (subst (λ (entry : Entry). c.lift_entry.new.chains ≡ (if is_link entry.command then lifted_link entry.number v.chains else v.chains)) c.as_entry.ensures c.lift_entry.ensures.chains)
    (subst (λ (entry : Entry). c.lift_entry.new.allocs ≡ (if is_instruction entry.command then lifted_instruction entry.number v.allocs else v.allocs)) c.as_entry.ensures c.lift_entry.ensures.allocs)

pub returns-clause-lifted : goal.returns-clause-lifted
returns-clause-lifted c =
    let v = c.self.inside in
    let at = (goal.at.returns-clause-lifted c).After-take_out-entry in
    (taken at).seen (with_items v.slots c.take_out-entry.new.slots).items (emptied at) ∙ ap (lifted c.take_out-entry.result) c.self.view_is

pub returns-clause-kept : goal.returns-clause-kept
returns-clause-kept c =
    let v = c.self.inside in
    let at = (goal.at.returns-clause-kept c).After-take_out-entry in
    (taken at).returns (with_items v.slots c.take_out-entry.new.slots).items (emptied at)
