use Rattle.blotter_main.proofs.keeping.audit_journal.Goals as goal

pub returns-in-Ok-audit-clause-wrote : goal.returns-in-Ok-audit-clause-wrote
returns-in-Ok-audit-clause-wrote g c = (c.as_slice-capture.result.now, c.in-Ok-audit.ensures.wrote)
