use Rattle.blot_types.proofs.AllocationLawLemmas.{is_conserving}
use Rattle.blot_command.proofs.tables.Tables.position.Goals as goal

pub returns-clause-conserving : goal.returns-clause-conserving
returns-clause-conserving c = is_conserving _
