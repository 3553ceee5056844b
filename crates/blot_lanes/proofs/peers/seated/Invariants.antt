use Rattle.blot_lanes.specs.Seating.{AreOwnSeats}
use Rattle.blot_lanes.proofs.peers.seated.Given as goal

abbrev pub invariant-loop-it : goal.invariant-loop-it
invariant-loop-it g l = AreOwnSeats l.seated.entries
