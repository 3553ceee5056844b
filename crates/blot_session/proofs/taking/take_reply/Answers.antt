use Rattle.std.proofs.Common.{None, ap, sym, ◌∙◌}
use Rattle.blot_session.specs.declared.row.End.TheVariants.{Stays}
use Rattle.blot_session.specs.Calls.{row_of_reply}
use Rattle.blot_session.specs.Sending.{numbers_borne}
use Rattle.blot_session.proofs.BearingLemmas.{quiet-none}
use Rattle.blot_session.proofs.InTurnLemmas.{report_counted}
use Rattle.blot_session.proofs.taking.take_reply.Goals as goal

pub returns-then-is_report_taken-clause-bears : goal.returns-then-is_report_taken-clause-bears
returns-then-is_report_taken-clause-bears c =
    let state = c.args.state.now in
    let counted = report_counted state c.args.reply c.args.now (sym c.is_report_taken.ensures ∙ c.if-is_report_taken.true) in
    ap numbers_borne c.new.ensures.items
    ∙ sym (quiet-none state (row_of_reply state c.args.reply) None c.args.now Stays None (ap (λ done. done.actions) (sym counted)))
