use Rattle.std.proofs.Common.{sym, subst}
use Rattle.blot_command.specs.Meanings.{command_meaning}
use Rattle.blot_command.specs.Undoable.{Undoes, TakesOut}
use Rattle.blot_command.proofs.TakenLemmas.{takes_out_as, returns_taken, puts_back}
use Rattle.blot_command.proofs.boxed_command.BoxedCommandUndoable.revert.Goals as goal

pub un_lift-requires : goal.un_lift-requires
un_lift-requires c =
    returns_taken c.in-Taken.entry c.args.tables.now (subst (λ inverse. Undoes command_meaning inverse c.args.tables.now) c.in-Taken.is c.requires)

pub returns-in-Number-clause-kept : goal.returns-in-Number-clause-kept
returns-in-Number-clause-kept c =
    subst (λ inverse. TakesOut command_meaning inverse c.args.tables.now c.leave_boxed.new.tables) (sym c.in-Number.is)
    (takes_out_as c.args.tables.now c.leave_boxed.new.tables c.in-Number.number c.leave_boxed.ensures.list c.leave_boxed.ensures.left c.leave_boxed.ensures.kept)

pub returns-in-Taken-clause-kept : goal.returns-in-Taken-clause-kept
returns-in-Taken-clause-kept c =
    subst (λ inverse. TakesOut command_meaning inverse c.args.tables.now c.un_lift.new.self) (sym c.in-Taken.is)
    (puts_back c.args.tables.now c.un_lift.new.self c.in-Taken.entry c.un_lift.ensures.returned)
