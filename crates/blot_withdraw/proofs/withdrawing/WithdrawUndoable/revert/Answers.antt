use Rattle.blot_withdraw.proofs.WithdrawLemmas.{can_return, withdraw_returns}
use Rattle.blot_withdraw.proofs.withdrawing.WithdrawUndoable.revert.Goals as goal

pub un_lift-requires : goal.un_lift-requires
un_lift-requires c = can_return c.args.entry c.args.tables.now c.requires

pub returns-clause-kept : goal.returns-clause-kept
returns-clause-kept c = withdraw_returns c.args.tables.now c.un_lift.new.self c.args.entry c.un_lift.ensures.returned
