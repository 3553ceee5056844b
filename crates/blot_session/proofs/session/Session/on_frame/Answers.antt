use Rattle.std.proofs.Common.{◌≡◌, sym, subst, ap, ◌∙◌}
use Rattle.std.proofs.lemmas.Result.{IfOk-weaker}
use Rattle.blot_tag.specs.Fields.{fields_of}
use Rattle.blot_tag.specs.Views.{text_of}
use Rattle.blot_fields.specs.Decoding.{decoded}
use Rattle.blot_session.specs.Calls.{on_frame}
use Rattle.blot_session.specs.States.{closed, IsIdle}
use Rattle.blot_session.proofs.DeliveryLemmas.{alone-taken, frame-peer, behind-taken}
use Rattle.blot_session.proofs.OwnLemmas.{delivers_own}
use Rattle.blot_session.proofs.session.Session.on_frame.Goals as goal

pub returns-clause-peer : goal.returns-clause-peer
returns-clause-peer c =
    let state = c.self.inside.state in
    let said = decoded (fields_of (text_of c.args.frame.now)) in
    behind-taken (λ next. next.peer ≡ c.args.self.now.peer) (λ actions. actions.items) (on_frame state said c.args.now) c.take_frame.result
    c.take_frame.new.state (closed state) c.take_frame.ensures.ok c.take_frame.ensures.err
    (frame-peer state said c.args.now (subst IsIdle (sym c.self.view_is) c.requires) ∙ ap (λ was. was.peer) c.self.view_is)
    (ap (λ was. was.peer) c.self.view_is)

pub returns-clause-alone : goal.returns-clause-alone
returns-clause-alone c =
    let state = c.self.inside.state in
    alone-taken (λ actions. actions.items) state (decoded (fields_of (text_of c.args.frame.now))) c.args.now c.take_frame.result c.take_frame.new.state
    (subst IsIdle (sym c.self.view_is) c.requires) c.take_frame.ensures.ok

pub returns-clause-own : goal.returns-clause-own
returns-clause-own c =
    IfOk-weaker c.take_frame.result _ _
    (λ actions gives. delivers_own c.self.inside.state c.take_frame.new.state actions.items (text_of c.args.frame.now) c.args.now gives) c.take_frame.ensures.ok
