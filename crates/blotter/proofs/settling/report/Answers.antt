use Rattle.blotter.proofs.ServingLemmas.{of-seats, of-some}
use Rattle.blotter.proofs.settling.report.Goals as goal

pub returns-clause-reported : goal.returns-clause-reported
returns-clause-reported g c = of-seats _ _ _ _ _ _ c.in_ok-seats.ensures (of-some _ _ _ _ _ _ _ c.report_kept-reported.ensures.reported)
