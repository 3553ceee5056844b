use Rattle.std.proofs.Common.{sym, ◌∙◌}
use Rattle.blot_session.proofs.StateLemmas.{carried_state}
use Rattle.blot_session.proofs.carrying.take_row.Goals as goal

pub returns-clause-state : goal.returns-clause-state
returns-clause-state c =
    carried_state c.args.state c.args.row c.args.command c.args.now c.in_ok-state-2.state c.in_ok-state-2.actions.items c.requires.within c.requires.fits
    (sym c.is_spent.ensures ∙ c.if-is_spent.false) c.in_ok-state-2.ensures.outcome
