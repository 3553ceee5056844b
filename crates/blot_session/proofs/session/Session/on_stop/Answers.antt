use Rattle.std.proofs.Common.{◌≡◌, sym, subst, refl, ap, ◌∙◌}
use Rattle.blot_session.specs.Calls.{on_stop}
use Rattle.blot_session.specs.States.{IsIdle}
use Rattle.blot_session.proofs.DeliveryLemmas.{stop-idle, stop-peer, behind-call}
use Rattle.blot_session.proofs.session.Session.on_stop.Goals as goal

pub returns-clause-peer : goal.returns-clause-peer
returns-clause-peer c =
    let state = c.self.inside.state in
    behind-call (λ next. next.peer ≡ c.args.self.now.peer) (λ actions. actions.items) (on_stop state c.args.now) c.go_on.result c.take_row-outcome.result
    c.go_on.new.state c.closed-closed.result c.go_on.ensures.ok c.go_on.ensures.err (rw (← c.stop_row-row.ensures) c.take_row-outcome.ensures.outcome)
    (stop-peer state c.args.now (subst IsIdle (sym c.self.view_is) c.requires) ∙ ap (λ was. was.peer) c.self.view_is)
    (ap (λ shut. shut.peer) c.closed-closed.ensures ∙ ap (λ was. was.peer) c.self.view_is)

pub returns-clause-idle : goal.returns-clause-idle
returns-clause-idle c =
    let state = c.self.inside.state in
    behind-call IsIdle (λ actions. actions.items) (on_stop state c.args.now) c.go_on.result c.take_row-outcome.result
    c.go_on.new.state c.closed-closed.result c.go_on.ensures.ok c.go_on.ensures.err (rw (← c.stop_row-row.ensures) c.take_row-outcome.ensures.outcome)
    (stop-idle state c.args.now (subst IsIdle (sym c.self.view_is) c.requires))
    (subst IsIdle (sym c.closed-closed.ensures) refl)
