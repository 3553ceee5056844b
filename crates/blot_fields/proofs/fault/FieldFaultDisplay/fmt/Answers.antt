-- The number in the text is the reason's.
use Rattle.std.proofs.Common.{append_assoc}
use Rattle.blot_fields.proofs.fault.FieldFaultDisplay.fmt.Goals as goal

pub returns-clause-writes : goal.returns-clause-writes
returns-clause-writes g c = rw append_assoc (rw c.number-reason.ensures at c.write.ensures.writes)
