use Rattle.std.proofs.Common.{◌++◌, ap, subst}
use Rattle.blot_types.proofs.GeneralLemmas.{if-err}
use Rattle.blot_capture.specs.Replay.{StoppedOn}
use Rattle.blot_capture.specs.Sessions.{taking_of}
use Rattle.blot_capture.proofs.intake.take_piece.Goals as goal

pub returns-in-Ok-clause-err : goal.returns-in-Ok-clause-err
returns-in-Ok-clause-err g c =
    let from = taking_of c.args.sessions.now (g.D.TakesCommands.desk_of c.args.desk.now) in
    if-err (StoppedOn from c.feed.new.self.unread (g.D.TakesCommands.desk_of c.take_frames.new.desk)) (StoppedOn from (c.args.reader.now.unread ++ c.args.piece.now) (g.D.TakesCommands.desk_of c.take_frames.new.desk))
    c.take_frames.result c.take_frames.ensures.err
    (λ fault stopped. subst (λ unread. StoppedOn from unread (g.D.TakesCommands.desk_of c.take_frames.new.desk) fault) (ap (λ reading. reading.unread) c.in-Ok.ensures.ok) stopped)
