use Rattle.std.proofs.Common.{◌≡◌, ◌+◌, ◌≤◌, ◌++◌, map, vec_len, vec_capacity}
use Rattle.std.specs.Vec.Iter.{into_iter_items, into_iter_len}
use Rattle.blotter.proofs.rounds.put_seats.Given as goal

abbrev pub invariant-loop-seat : goal.invariant-loop-seat
invariant-loop-seat g l =
    (l.seats.items ++ map (λ ending. ending.1) (into_iter_items l.seat-iterator) ≡ map (λ ending. ending.1) l.fn.endings.items)
    × (vec_len l.seats + into_iter_len l.seat-iterator ≤ vec_capacity l.seats)
