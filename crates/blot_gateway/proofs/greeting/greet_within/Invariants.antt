use Rattle.std.proofs.Common.{◌≤◌, ◌<◌, vec_len}
use Rattle.blot_gateway.proofs.GreetingLemmas.{Reads}
use Rattle.blot_gateway.proofs.greeting.greet_within.Given as goal

abbrev pub invariant-loop : goal.invariant-loop
invariant-loop g l =
    Reads g.W.Wire.does l.initial.wire l.initial.reader.unread l.counter l.wire l.reader.unread
    × (g.W.Wire.failures l.initial.wire ≤ g.W.Wire.failures l.wire)
    × (0 < vec_len l.buffer)
