use Rattle.std.proofs.Common.{ap}
use Rattle.blot_command.specs.Book.{Shown}
use Rattle.blot_command.proofs.StepLemmas.{above_list}
use Rattle.blot_withdraw.proofs.WithdrawLemmas.{withdraw_step, withdraw_keeps}
use Rattle.blot_withdraw.proofs.withdrawing.WithdrawUndoable.apply.Goals as goal

pub returns-in-Ok-clause-accepted : goal.returns-in-Ok-clause-accepted
returns-in-Ok-clause-accepted c =
    withdraw_step c.args.tables.now.list c.withdraw.new.tables.list c.args.self c.args.number c.in-Ok.entry c.in-Ok.ensures.book c.in-Ok.ensures.accepted c.in-Ok.ensures.entry
    c.requires.within (above_list c.args.number c.args.tables.now c.requires.above) (ap (λ (shown : Shown). shown.list) c.in-Ok.ensures.lifted)

pub returns-in-Ok-clause-kept : goal.returns-in-Ok-clause-kept
returns-in-Ok-clause-kept c =
    withdraw_keeps c.args.tables.now c.withdraw.new.tables c.args.self.0 c.args.number c.in-Ok.entry c.in-Ok.ensures.book c.in-Ok.ensures.entry
    c.in-Ok.ensures.lifted c.in-Ok.ensures.kept
    c.requires.above
