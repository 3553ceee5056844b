use Rattle.std.proofs.Common.{◌≡◌, None, take}
use Rattle.blot_capture.specs.Sessions.{session_among}
use Rattle.blot_capture.proofs.sessions.place_out.Given as goal

abbrev pub invariant-loop-place : goal.invariant-loop-place
invariant-loop-place l = session_among l.sender (take l.place l.out) ≡ None
