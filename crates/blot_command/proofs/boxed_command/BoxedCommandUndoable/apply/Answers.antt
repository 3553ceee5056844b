use Rattle.std.proofs.Common.{◌≡◌, sym, ap, ◌∙◌, subst, Some}
use Rattle.blot_types.specs.declared.command.Entry.{Entry}
use Rattle.blot_types.specs.Refusals.{withdrawn_by}
use Rattle.blot_command.specs.Book.{Shown}
use Rattle.blot_command.specs.Boxed.{command_in}
use Rattle.blot_command.specs.declared.inverse.Inverse.TheVariants.{Number}
use Rattle.blot_command.specs.Meanings.{command_meaning}
use Rattle.blot_command.specs.Undoable.{Adds}
use Rattle.blot_command.proofs.StepLemmas.{above_list}
use Rattle.blot_command.proofs.TakenLemmas.{adds_as, withdraw_step, withdraw_adds}
use Rattle.blot_command.proofs.boxed_command.BoxedCommandUndoable.apply.Goals as goal

pub returns-in-Ok-clause-kept : goal.returns-in-Ok-clause-kept
returns-in-Ok-clause-kept c =
    let entry = c.renumbered.result in
    let own : entry.number ≡ c.args.number = ap (λ (e : Entry). e.number) c.renumbered.ensures in
    subst (λ number. Adds command_meaning number (Number c.in-Ok.number) c.args.tables.now c.enter_boxed.new.tables) own
    (adds_as c.args.tables.now c.enter_boxed.new.tables entry.command entry.number c.in-Ok.number c.in-Ok.ensures.entered c.in-Ok.ensures.kept)

pub returns-in-Ok-withdraw-clause-accepted : goal.returns-in-Ok-withdraw-clause-accepted
returns-in-Ok-withdraw-clause-accepted c =
    let is : withdrawn_by c.args.self ≡ Some c.in-Withdraws.taken = ap withdrawn_by (sym c.self.view_is ∙ ap command_in c.in-Withdraws.is) in
    withdraw_step c.args.tables.now.list c.withdraw.new.tables.list c.args.self c.in-Withdraws.taken c.args.number c.in-Ok-withdraw.entry
    is c.in-Ok-withdraw.ensures.book c.in-Ok-withdraw.ensures.accepted c.in-Ok-withdraw.ensures.entry
    c.requires.within (above_list c.args.number c.args.tables.now c.requires.above) (ap (λ (shown : Shown). shown.list) c.in-Ok-withdraw.ensures.lifted)

pub returns-in-Ok-withdraw-clause-kept : goal.returns-in-Ok-withdraw-clause-kept
returns-in-Ok-withdraw-clause-kept c =
    withdraw_adds c.args.tables.now c.withdraw.new.tables c.in-Withdraws.taken c.args.number c.in-Ok-withdraw.entry
    c.in-Ok-withdraw.ensures.book c.in-Ok-withdraw.ensures.entry c.in-Ok-withdraw.ensures.lifted c.in-Ok-withdraw.ensures.kept c.requires.above
