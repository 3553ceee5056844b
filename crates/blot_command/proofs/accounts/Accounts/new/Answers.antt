use Rattle.blot_command.proofs.PositionLineLemmas.{shows-none}
use Rattle.blot_command.proofs.accounts.Accounts.new.Goals as goal

pub invariant_of-result : goal.invariant_of-result
invariant_of-result c = shows-none _ _ c.new.ensures c.new-2.ensures
