use Rattle.std.proofs.Common.{sym, ◌∙◌}
use Rattle.blotter.proofs.ServingLemmas.{is-done, is-kept}
use Rattle.blotter.proofs.settling.report_kept.Goals as goal

pub returns-clause-reported : goal.returns-clause-reported
returns-clause-reported g c =
    is-kept c.report_closed-reported.result g.K.Keeper.IsKept _ _ _ c.args.day _ _ _ c.sync-synced.ensures.events c.close_kept-closed.ensures.kept c.report_closed-reported.ensures.reported

pub returns-clause-durable : goal.returns-clause-durable
returns-clause-durable g c =
    is-done _ c.sync-synced.result c.report_closed-reported.result (sym c.is_err.ensures.value ∙ c.if-is_err.false) c.sync-synced.ensures.durable
