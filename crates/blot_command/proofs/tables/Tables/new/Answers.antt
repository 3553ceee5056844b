use Rattle.blot_command.proofs.ShowLemmas.{shows-empty}
use Rattle.blot_command.proofs.tables.Tables.new.Goals as goal

pub invariant_of-result : goal.invariant_of-result
invariant_of-result c = shows-empty _ _ c.new.ensures c.new-2.ensures
