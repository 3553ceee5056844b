use Rattle.std.proofs.Common.{◌≡◌, ◌+◌, ◌≤◌, ◌++◌, map, vec_len, vec_capacity}
use Rattle.std.specs.Vec.Iter.{into_iter_items, into_iter_len}
use Rattle.blot_gateway.proofs.at_once.put_endings.Given as goal

-- the endings that are put, with those of the connections that are left, are all
abbrev pub invariant-loop-connection : goal.invariant-loop-connection
invariant-loop-connection g l =
    (l.endings.items ++ map (λ connection. (connection.ended, connection.sink)) (into_iter_items l.connection-iterator)
    ≡ map (λ connection. (connection.ended, connection.sink)) l.fn.connections.items)
    × (vec_len l.endings + into_iter_len l.connection-iterator ≤ vec_capacity l.endings)
