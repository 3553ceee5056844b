use Rattle.std.proofs.Common.{◌≡◌, ◌+◌, length}
use Rattle.blot_capture.specs.Replay.{CameOn}
use Rattle.blot_capture.specs.Sessions.{taking_of}
use Rattle.blot_trail.specs.Making.{IsInStep, SameTrailOn, offset_of, telling_of}
use Rattle.blot_trail.proofs.telling.tell_frames.Given as goal

abbrev pub invariant-loop-fault : goal.invariant-loop-fault
invariant-loop-fault l =
    IsInStep l.reader l.trail
    × (offset_of l.trail + length l.reader.unread ≡ offset_of l.initial.trail + length l.initial.reader.unread)
    × SameTrailOn (telling_of l.initial.trail l.initial.sessions l.initial.desk) l.initial.reader.unread (telling_of l.trail l.sessions l.desk) l.reader.unread
    × CameOn (taking_of l.initial.sessions l.initial.desk) l.initial.reader.unread (taking_of l.sessions l.desk) l.reader.unread

abbrev pub decreases-loop-fault : goal.decreases-loop-fault
decreases-loop-fault l = length l.reader.unread
