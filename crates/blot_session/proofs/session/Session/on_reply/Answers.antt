use Rattle.std.proofs.Common.{◌≡◌, sym, subst, refl, ap, ◌∙◌}
use Rattle.blot_session.specs.Calls.{on_reply, row_of_reply}
use Rattle.blot_session.specs.States.{closed, IsIdle, IsAwaiting}
use Rattle.blot_session.proofs.DeliveryLemmas.{reply-idle, reply-peer, row-peer, behind-taken}
use Rattle.blot_session.proofs.session.Session.on_reply.Goals as goal

pub returns-clause-peer : goal.returns-clause-peer
returns-clause-peer c =
    let state = c.self.inside.state in
    let awaiting = subst IsAwaiting (sym c.self.view_is) c.requires in
    behind-taken (λ next. next.peer ≡ c.args.self.now.peer) (λ actions. actions.items) (on_reply state c.args.reply c.args.now) c.take_reply.result
    c.take_reply.new.state (closed (row_of_reply state c.args.reply).state) c.take_reply.ensures.ok c.take_reply.ensures.err
    (reply-peer state c.args.reply c.args.now awaiting ∙ ap (λ was. was.peer) c.self.view_is)
    (row-peer state c.args.reply awaiting ∙ ap (λ was. was.peer) c.self.view_is)

pub returns-clause-idle : goal.returns-clause-idle
returns-clause-idle c =
    let state = c.self.inside.state in
    behind-taken IsIdle (λ actions. actions.items) (on_reply state c.args.reply c.args.now) c.take_reply.result
    c.take_reply.new.state (closed (row_of_reply state c.args.reply).state) c.take_reply.ensures.ok c.take_reply.ensures.err
    (reply-idle state c.args.reply c.args.now (subst IsAwaiting (sym c.self.view_is) c.requires)) refl
