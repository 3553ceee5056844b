use Rattle.std.proofs.Common.{◌≡◌, ◌<◌, [], vec_len}
use Rattle.blot_tag.specs.Walking.{frames_of}
use Rattle.blot_capture.specs.Sessions.{taking_of}
use Rattle.blot_capture.proofs.StreamLemmas.{CameOf}
use Rattle.blot_capture.proofs.capturing.take_all.Given as goal

abbrev pub invariant-loop : goal.invariant-loop
invariant-loop g l =
    CameOf (g.R.Read.remaining l.initial.input) (taking_of l.initial.sessions (g.D.TakesCommands.desk_of l.initial.desk)) (g.R.Read.remaining l.input) l.reader.unread
    (taking_of l.sessions (g.D.TakesCommands.desk_of l.desk))
    × (frames_of l.reader.unread ≡ [])
    × (0 < vec_len l.buffer)
