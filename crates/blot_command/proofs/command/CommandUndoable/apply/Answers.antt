use Rattle.std.proofs.Common.{sym, ap, ◌∙◌}
use Rattle.blot_command.specs.Book.{Shown}
use Rattle.blot_command.proofs.StepLemmas.{above_list}
use Rattle.blot_command.proofs.TakenLemmas.{adds_as, withdraw_step, withdraw_adds}
use Rattle.blot_command.proofs.command.CommandUndoable.apply.Goals as goal

pub returns-in-Ok-clause-kept : goal.returns-in-Ok-clause-kept
returns-in-Ok-clause-kept c =
    adds_as c.args.tables.now c.enter.new.tables c.args.self c.args.number c.in-Ok.number c.in-Ok.ensures.entered c.in-Ok.ensures.kept

pub returns-in-Ok-withdraw-clause-accepted : goal.returns-in-Ok-withdraw-clause-accepted
returns-in-Ok-withdraw-clause-accepted c =
    withdraw_step c.args.tables.now.list c.withdraw.new.tables.list c.args.self c.in-Some.taken c.args.number c.in-Ok-withdraw.entry
    (sym c.withdrawn.ensures ∙ c.in-Some.is) c.in-Ok-withdraw.ensures.book c.in-Ok-withdraw.ensures.accepted c.in-Ok-withdraw.ensures.entry
    c.requires.within (above_list c.args.number c.args.tables.now c.requires.above) (ap (λ (shown : Shown). shown.list) c.in-Ok-withdraw.ensures.lifted)

pub returns-in-Ok-withdraw-clause-kept : goal.returns-in-Ok-withdraw-clause-kept
returns-in-Ok-withdraw-clause-kept c =
    withdraw_adds c.args.tables.now c.withdraw.new.tables c.in-Some.taken c.args.number c.in-Ok-withdraw.entry
    c.in-Ok-withdraw.ensures.book c.in-Ok-withdraw.ensures.entry c.in-Ok-withdraw.ensures.lifted c.in-Ok-withdraw.ensures.kept c.requires.above
