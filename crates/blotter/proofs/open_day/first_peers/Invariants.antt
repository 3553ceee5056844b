use Rattle.std.proofs.Common.{◌≡◌, ◌+◌, [], length, map, take, All}
use Rattle.std.specs.Vec.Iter.{into_iter_items, into_iter_len}
use Rattle.blotter.specs.Serving.{begins_as}
use Rattle.blotter.proofs.open_day.first_peers.Given as goal

abbrev pub invariant-loop-peer : goal.invariant-loop-peer
invariant-loop-peer g l =
    (into_iter_len l.seats + l.peer-index ≡ length l.fn.peers) × All (λ receipts. receipts ≡ []) (into_iter_items l.seats)
    × (l.listed.items ≡ map begins_as (take l.peer-index l.fn.peers))
