use Rattle.std.proofs.Common.{◌≡◌}
use Rattle.blot_lanes.proofs.ListingLemmas.{part_resumed}
use Rattle.blot_lanes.proofs.listed_peer.resumed_sessions.Given as goal

abbrev pub invariant-loop-it : goal.invariant-loop-it
invariant-loop-it g l = l.sessions ≡ part_resumed l.own l.listed l.it-index
