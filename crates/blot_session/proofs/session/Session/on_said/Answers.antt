use Rattle.std.proofs.Common.{◌≡◌, sym, subst, ap, ◌∙◌}
use Rattle.std.proofs.lemmas.Result.{IfOk-weaker}
use Rattle.blot_session.specs.Calls.{Gives, on_frame}
use Rattle.blot_session.specs.States.{closed, IsIdle}
use Rattle.blot_session.proofs.DeliveryLemmas.{alone-taken, frame-peer, behind-taken}
use Rattle.blot_session.proofs.OwnLemmas.{delivers_own}
use Rattle.blot_session.proofs.session.Session.on_said.Goals as goal

pub returns-clause-peer : goal.returns-clause-peer
returns-clause-peer c =
    let state = c.self.inside.state in
    let said = c.args.said.now in
    behind-taken (λ next. next.peer ≡ c.args.self.now.peer) (λ actions. actions.items) (on_frame state said c.args.now) c.take_said.result
    c.take_said.new.state (closed state) c.take_said.ensures.ok c.take_said.ensures.err
    (frame-peer state said c.args.now (subst IsIdle (sym c.self.view_is) c.requires.idle) ∙ ap (λ was. was.peer) c.self.view_is)
    (ap (λ was. was.peer) c.self.view_is)

pub returns-clause-alone : goal.returns-clause-alone
returns-clause-alone c =
    let state = c.self.inside.state in
    alone-taken (λ actions. actions.items) state c.args.said.now c.args.now c.take_said.result c.take_said.new.state
    (subst IsIdle (sym c.self.view_is) c.requires.idle) c.take_said.ensures.ok

pub returns-clause-own : goal.returns-clause-own
returns-clause-own c text is =
    let state = c.self.inside.state in
    IfOk-weaker c.take_said.result _ _
    (λ actions gives. delivers_own state c.take_said.new.state actions.items text c.args.now (subst (λ said. Gives (on_frame state said c.args.now) c.take_said.new.state actions) is gives)) c.take_said.ensures.ok
