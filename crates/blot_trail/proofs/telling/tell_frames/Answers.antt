use Rattle.std.proofs.Common.{◌++◌, ◌∙◌}
use Rattle.blot_tag.specs.Walking.{frames_of}
use Rattle.blot_capture.specs.Sessions.{taking_of}
use Rattle.blot_capture.proofs.DeskLemmas.{stopped-behind}
use Rattle.blot_capture.proofs.StreamLemmas.{came-on}
use Rattle.blot_trail.proofs.telling.tell_frames.Goals as goal

pub loop-fault-preserved : goal.loop-fault-preserved
loop-fault-preserved c =
    let from = taking_of c.args.sessions.now c.args.desk.now in
    let mid = taking_of c.loop-fault.sessions c.loop-fault.desk in
    let now = taking_of c.tell_next.new.sessions c.tell_next.new.desk in
    let told = c.in-Ok-true.ensures.ok in (
      told.step,
      told.read ∙ c.loop-fault.invariant.1,
      λ more. c.loop-fault.invariant.2 more ∙ told.same more,
      λ more.
          came-on from (frames_of (c.args.reader.now.unread ++ more)) mid (frames_of (c.loop-fault.reader.unread ++ more)) now (frames_of (c.tell_next.new.reader.unread ++ more))
          (c.loop-fault.invariant.3 more) (told.came more),
    )

pub returns-in-Ok-false-clause-came : goal.returns-in-Ok-false-clause-came
returns-in-Ok-false-clause-came c =
    let from = taking_of c.args.sessions.now c.args.desk.now in
    let mid = taking_of c.loop-fault.sessions c.loop-fault.desk in
    let now = taking_of c.tell_next.new.sessions c.tell_next.new.desk in
    λ more.
    came-on from (frames_of (c.args.reader.now.unread ++ more)) mid (frames_of (c.loop-fault.reader.unread ++ more)) now (frames_of (c.tell_next.new.reader.unread ++ more))
    (c.loop-fault.invariant.3 more) (c.in-Ok-false.ensures.ok.came more)

pub returns-in-Err-clause-err : goal.returns-in-Err-clause-err
returns-in-Err-clause-err c =
    let from = taking_of c.args.sessions.now c.args.desk.now in
    let mid = taking_of c.loop-fault.sessions c.loop-fault.desk in
    λ more.
    stopped-behind c.in-Err.fault from (frames_of (c.args.reader.now.unread ++ more)) mid (frames_of (c.loop-fault.reader.unread ++ more)) c.tell_next.new.desk
    (c.loop-fault.invariant.3 more) (c.in-Err.ensures.err more)
