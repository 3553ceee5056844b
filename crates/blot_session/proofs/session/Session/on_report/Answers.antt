use Rattle.std.proofs.Common.{sym, subst, ap, ◌∙◌}
use Rattle.blot_session.specs.Calls.{command_said}
use Rattle.blot_session.specs.States.{IsIdle}
use Rattle.blot_session.proofs.DeliveryLemmas.{awaits_report}
use Rattle.blot_session.proofs.session.Session.on_report.Goals as goal

pub returns-clause-peer : goal.returns-clause-peer
returns-clause-peer c = ap (λ shut. shut.peer) c.take_report.ensures.rest ∙ ap (λ was. was.peer) c.self.view_is

pub returns-clause-awaits : goal.returns-clause-awaits
returns-clause-awaits c =
    let state = c.self.inside.state in
    awaits_report c.take_report.result state c.take_report.new.state (command_said c.args.said.now state.peer) c.args.said.now c.args.now
    (subst IsIdle (sym c.self.view_is) c.requires.idle) c.take_report.ensures.taken c.take_report.ensures.other
