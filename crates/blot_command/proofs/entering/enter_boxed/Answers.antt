use Rattle.std.proofs.Common.{◌≡◌, None, sym, subst, ap, ◌∙◌}
use Rattle.blot_types.specs.declared.command.Entry.{Entry}
use Rattle.blot_types.specs.Legal.{entry_refusal}
use Rattle.blot_types.proofs.LegalLemmas.{is_book-push}
use Rattle.blot_command.specs.Meanings.{entry_meaning}
use Rattle.blot_command.specs.Undoable.{Adds, IsStep}
use Rattle.blot_command.proofs.StepLemmas.{above_list, above_kept, enters, adds}
use Rattle.blot_command.proofs.entering.enter_boxed.Goals as goal

pub record-requires-clause-book : goal.record-requires-clause-book
record-requires-clause-book c =
    let entry = c.args.entry in
    let list = c.args.tables.now.list in
    let accepted : entry_refusal list entry.command ≡ None =
    sym (c.refusal.ensures.refusal ∙ ap (λ (e : Entry). entry_refusal list e.command) c.as_entry-inner.ensures) ∙ c.in_default.is in
    is_book-push list entry c.refusal.ensures.book accepted (above_list entry.number c.args.tables.now c.requires.above) c.requires.within

pub record-requires-clause-above : goal.record-requires-clause-above
record-requires-clause-above c = above_kept c.args.entry.number c.args.tables.now c.requires.above

pub returns-in-Ok-clause-accepted : goal.returns-in-Ok-clause-accepted
returns-in-Ok-clause-accepted c =
    let entry = c.args.entry in
    let list = c.args.tables.now.list in
    let accepted : entry_refusal list entry.command ≡ None =
    sym (c.refusal.ensures.refusal ∙ ap (λ (e : Entry). entry_refusal list e.command) c.as_entry-inner.ensures) ∙ c.in_default.is in
    subst (λ inverse. IsStep entry_meaning list entry.command entry.number inverse c.record.new.self.list) (sym (ap (λ (e : Entry). e.number) c.as_entry-inner.ensures))
    (enters c.args.tables.now c.record.new.self entry.command entry.number c.refusal.ensures.book accepted c.requires.above c.requires.within c.in-Ok.ensures.ok)

pub returns-in-Ok-clause-kept : goal.returns-in-Ok-clause-kept
returns-in-Ok-clause-kept c =
    let entry = c.args.entry in
    subst (λ inverse. Adds entry_meaning entry.number inverse c.args.tables.now c.record.new.self) (sym (ap (λ (e : Entry). e.number) c.as_entry-inner.ensures))
    (subst (λ new. Adds entry_meaning entry.number entry.number c.args.tables.now new) (sym c.in-Ok.ensures.ok) (adds c.args.tables.now entry c.requires.above))
