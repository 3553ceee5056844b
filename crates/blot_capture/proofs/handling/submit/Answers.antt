use Rattle.std.proofs.Common.{[], ◌∷◌, Ok, sym, ap, subst, ◌∙◌}
use Rattle.std.proofs.lemmas.Result.{err_from_is_err_and}
use Rattle.blot_session.specs.Calls.{on_reply}
use Rattle.blot_gateway.specs.Serving.{seen_reply}
use Rattle.blot_capture.specs.Replay.{Stopped}
use Rattle.blot_capture.proofs.DeskLemmas.{stopped-submitted}
use Rattle.blot_capture.proofs.SessionLemmas.{replied}
use Rattle.blot_capture.proofs.handling.submit.Goals as goal

pub returns-in_ok-told-in-Ok-clause-session : goal.returns-in_ok-told-in-Ok-clause-session
returns-in_ok-told-in-Ok-clause-session g c =
    let reply = rw c.in-Ok.is at c.submit-answer.ensures.reply in
    let seen = c.seen_reply.ensures ∙ ap seen_reply c.in-Ok.is in
    c.in_ok-told-in-Ok.ensures.session
    ∙ replied (g.D.TakesCommands.desk_of c.args.desk.now).book c.args.command.now c.in-Ok.reply c.seen_reply.result c.args.session.now c.args.now reply seen

pub returns-in_ok-told-in-Ok-clause-handled : goal.returns-in_ok-told-in-Ok-clause-handled
returns-in_ok-told-in-Ok-clause-handled g c =
    let reply = rw c.in-Ok.is at c.submit-answer.ensures.reply in
    let seen = c.seen_reply.ensures ∙ ap seen_reply (c.in-Ok.is ∙ ap (λ r. Ok r) reply) in
    (reply, c.in_ok-told-in-Ok.ensures.wanted ∙ ap (λ told. (on_reply c.args.session.now told c.args.now).actions) seen)

pub returns-in_err-told-in-Ok-clause-err : goal.returns-in_err-told-in-Ok-clause-err
returns-in_err-told-in-Ok-clause-err g c =
    let exit = err_from_is_err_and c.from_residual.result c.from_residual.ensures.1 in
    let taken = rw c.in-Ok.is at c.submit-answer.ensures.taken in
    let before = g.D.TakesCommands.desk_of c.args.desk.now in
    let after = g.D.TakesCommands.desk_of c.submit-answer.new.self in
    rw (exit.1, exit.2)
    (subst (Stopped before after (c.args.command.now ∷ [])) (sym c.in_err-told-in-Ok.ensures.fault) (stopped-submitted before after c.args.command.now taken))
