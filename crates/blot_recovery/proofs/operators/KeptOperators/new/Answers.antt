use Rattle.blot_recovery.proofs.OperatorLemmas.{operators-first}
use Rattle.blot_recovery.proofs.operators.KeptOperators.new.Goals as goal

pub returns-in-None-clause-kept : goal.returns-in-None-clause-kept
returns-in-None-clause-kept g c = operators-first _ c.new.ensures.items c.requires.empty
