use Rattle.std.proofs.Common.{◌≡◌, ◌≤◌, ◌+◌, ◌*◌, length, vec_len}
use Rattle.blot_tag.specs.Walking.{stops_at, walk_of}
use Rattle.blot_gateway.specs.declared.piece.TheConstants.{PIECE}
use Rattle.blot_capture.specs.Sessions.{taking_of}
use Rattle.blot_capture.proofs.StreamLemmas.{CameOf}
use Rattle.blot_trail.specs.Making.{IsInStep, none_yet, offset_of, telling_of}
use Rattle.blot_trail.proofs.AuditLemmas.{SameTrailOf}
use Rattle.blot_trail.proofs.auditing.tell_all.Given as goal

abbrev pub invariant-loop : goal.invariant-loop
invariant-loop g l =
    SameTrailOf (g.R.Read.remaining l.initial.input) (telling_of none_yet l.initial.sessions l.initial.desk)
    (g.R.Read.remaining l.input) l.reader.unread (telling_of l.trail l.sessions l.desk)
    × CameOf (g.R.Read.remaining l.initial.input) (taking_of l.initial.sessions l.initial.desk) (g.R.Read.remaining l.input) l.reader.unread
    (taking_of l.sessions l.desk)
    × IsInStep l.reader l.trail
    × (offset_of l.trail + length l.reader.unread ≡ l.total)
    × (l.total ≤ l.counter * PIECE)
    × (walk_of l.reader.unread ≡ stops_at l.reader.unread)
    × (vec_len l.buffer ≡ PIECE)
