use Rattle.std.proofs.Common.{length}
use Rattle.blot_capture.specs.Replay.{CameOn}
use Rattle.blot_capture.specs.Sessions.{taking_of}
use Rattle.blot_capture.proofs.intake.take_frames.Given as goal

abbrev pub invariant-loop-frame : goal.invariant-loop-frame
invariant-loop-frame g l =
    CameOn (taking_of l.initial.sessions (g.D.TakesCommands.desk_of l.initial.desk)) l.initial.reader.unread (taking_of l.sessions (g.D.TakesCommands.desk_of l.desk)) l.reader.unread

abbrev pub decreases-loop-frame : goal.decreases-loop-frame
decreases-loop-frame g l = length l.reader.unread
