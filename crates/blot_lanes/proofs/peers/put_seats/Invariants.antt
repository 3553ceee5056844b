use Rattle.std.proofs.Common.{◌≡◌, true, All}
use Rattle.blot_gateway.specs.AtOnce.{are_submits}
use Rattle.blot_lanes.proofs.peers.put_seats.Given as goal

abbrev pub invariant-loop-peer : goal.invariant-loop-peer
invariant-loop-peer g l = All (λ receipts. are_submits receipts ≡ true) l.seats.items
