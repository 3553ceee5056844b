use Rattle.blot_tag.specs.Views.{text_of}
use Rattle.blot_capture.specs.Sessions.{sessions_of}
use Rattle.blot_capture.specs.Handling.{became_by}
use Rattle.blot_capture.specs.Trace.{session_for}
use Rattle.blot_trail.proofs.TurnLemmas.{can-be-told, handled-as}
use Rattle.blot_trail.proofs.noting.take_noted.Goals as goal

pub note-requires-clause-told : goal.note-requires-clause-told
note-requires-clause-told c =
    let text = text_of c.args.frame.now in
    let session = session_for (sessions_of c.args.sessions.now) text in
    let of = handled-as (sessions_of c.args.sessions.now) (sessions_of c.meets.new.self) c.args.desk.now text c.in-Ok.met c.in-Ok-take.handled
    c.in-Ok.ensures.same c.in-Ok.ensures.met c.in-Ok-take.ensures.handled in
    can-be-told session c.args.desk.now text (became_by c.in-Ok.met c.in-Ok-take.handled) of.became
