use Rattle.std.proofs.Common.{◌≡◌, length, true, ap, sym, subst, ◌∙◌, if◌then◌else◌}
use Rattle.std.specs.Vec.{with_items}
use Rattle.std.proofs.lemmas.List.{with_items_is}
use Rattle.blot_types.specs.declared.command.Entry.{Entry}
use Rattle.blot_places.specs.Slots.{marked}
use Rattle.blot_chain.specs.Steps.{put_back as put_back_link}
use Rattle.blot_alloc.specs.Allocs.{put_back as put_back_instruction}
use Rattle.blot_command.specs.Book.{entry_number}
use Rattle.blot_command.specs.Linking.{CanUnLift, is_instruction, is_link}
use Rattle.blot_command.specs.Withdrawing.{CanReturn, returned}
use Rattle.blot_command.proofs.LiveLiftLemmas.{PutsBack, puts-back}
use Rattle.blot_command.proofs.live.LiveList.un_lift.Goals as goal
use Rattle.blot_command.proofs.live.LiveList.un_lift.Goals.{After-as_entry, After-put_in}

-- the entry comes back to these slots
put : (c : After-as_entry) → PutsBack c.self.inside.slots.items c.args.entry c.self.inside.chains c.self.inside.allocs
put c =
    puts-back c.self.inside.slots.items c.args.entry c.self.inside.chains c.self.inside.allocs c.self.invariant
    (subst (CanReturn c.args.entry) (sym c.self.view_is) (record { kept = c.requires.kept; untaken = c.requires.untaken; book = c.requires.book }))

-- the slots after that
filled : (c : After-put_in) → (with_items c.self.inside.slots c.put_in.new.slots).items ≡ marked entry_number c.args.entry.number true c.self.inside.slots.items
filled c =
    let is = c.put_in.ensures ∙ ap (marked entry_number c.args.entry.number true) c.deref_mut.ensures.value in
    with_items_is c.self.inside.slots c.put_in.new.slots (c.put_in.auto.slots ∙ ap length c.deref_mut.ensures.value ∙ sym c.self.inside.slots.ok.0) ∙ is

pub un_lift_entry-requires : goal.un_lift_entry-requires
un_lift_entry-requires c =
    subst (λ (entry : Entry). CanUnLift entry c.self.inside.chains c.self.inside.allocs) (sym c.as_entry.ensures) (put (goal.at.un_lift_entry-requires c).After-as_entry).can

pub invariant_of-self : goal.invariant_of-self
invariant_of-self c =
    let v = c.self.inside in
    (put (goal.at.invariant_of-self c).After-as_entry).holds (with_items v.slots c.put_in.new.slots).items c.un_lift_entry.new.chains c.un_lift_entry.new.allocs
    (filled (goal.at.invariant_of-self c).After-put_in)
    (subst (λ (entry : Entry). c.un_lift_entry.new.chains ≡ (if is_link entry.command then put_back_link entry.number v.chains else v.chains)) c.as_entry.ensures c.un_lift_entry.ensures.chains)
    (subst (λ (entry : Entry). c.un_lift_entry.new.allocs ≡ (if is_instruction entry.command then put_back_instruction entry.number v.allocs else v.allocs)) c.as_entry.ensures c.un_lift_entry.ensures.allocs)

pub returns-clause-returned : goal.returns-clause-returned
returns-clause-returned c =
    let v = c.self.inside in
    (put (goal.at.returns-clause-returned c).After-as_entry).seen (with_items v.slots c.put_in.new.slots).items (filled (goal.at.returns-clause-returned c).After-put_in)
    ∙ ap (returned c.args.entry) c.self.view_is
