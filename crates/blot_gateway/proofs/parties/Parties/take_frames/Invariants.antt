use Rattle.std.proofs.Common.{◌≡◌, ◌≤◌, List, [], ◌++◌, length, map}
use Rattle.blot_tag.specs.Walking.{frames_of, rest_of}
use Rattle.blot_session.specs.States.{IsIdle}
use Rattle.blot_gateway.specs.Serving.{Due, Runs}
use Rattle.blot_gateway.specs.Serving.Due.{Came}
use Rattle.blot_gateway.proofs.parties.Parties.take_frames.Given as goal

abbrev pub invariant-loop-frame : goal.invariant-loop-frame
invariant-loop-frame g l =
    ((more : List Due)
    → Runs g.W.Wire.does g.C.Clock.ticks g.S.FrameSink.takes l.initial.self
    (map Came (frames_of l.initial.reader.unread) ++ more) [] (map Came (frames_of l.reader.unread) ++ more) l.self)
    × (rest_of l.reader.unread ≡ rest_of l.initial.reader.unread)
    × IsIdle l.self.session
    × (g.W.Wire.failures l.initial.self.wire ≤ g.W.Wire.failures l.self.wire)

abbrev pub decreases-loop-frame : goal.decreases-loop-frame
decreases-loop-frame g l = length l.reader.unread
