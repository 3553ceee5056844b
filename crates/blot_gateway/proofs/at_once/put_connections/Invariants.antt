use Rattle.std.proofs.Common.{◌≡◌, ◌+◌, ◌≤◌, ◌++◌, map, Some, vec_len, vec_capacity}
use Rattle.std.specs.Vec.Iter.{into_iter_items, into_iter_len}
use Rattle.blot_gateway.proofs.at_once.put_connections.Given as goal

-- the wires, clocks and receipts that are put, with those that are left, are all
abbrev pub invariant-loop-wire : goal.invariant-loop-wire
invariant-loop-wire g l =
    (map (λ connection. connection.wire) l.connections.items ++ map Some (into_iter_items l.wire-iterator) ≡ map Some l.fn.wires.items)
    × (map (λ connection. connection.clock) l.connections.items ++ into_iter_items l.clocks ≡ into_iter_items l.initial.clocks)
    × (map (λ connection. connection.sink) l.connections.items ++ into_iter_items l.seats ≡ into_iter_items l.initial.seats)
    × (into_iter_len l.clocks ≡ into_iter_len l.wire-iterator)
    × (into_iter_len l.seats ≡ into_iter_len l.wire-iterator)
    × (vec_len l.connections + into_iter_len l.wire-iterator ≤ vec_capacity l.connections)
