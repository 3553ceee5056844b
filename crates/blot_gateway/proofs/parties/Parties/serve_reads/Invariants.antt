use Rattle.std.proofs.Common.{◌≤◌, ◌<◌, vec_len}
use Rattle.blot_session.specs.States.{IsIdle}
use Rattle.blot_gateway.proofs.ServingLemmas.{Serves}
use Rattle.blot_gateway.proofs.parties.Parties.serve_reads.Given as goal

abbrev pub invariant-loop : goal.invariant-loop
invariant-loop g l =
    Serves g.W.Wire.does g.C.Clock.ticks g.S.FrameSink.takes l.initial.self l.initial.reader.unread l.counter
    l.self l.reader.unread
    × IsIdle l.self.session
    × (g.W.Wire.failures l.initial.self.wire ≤ g.W.Wire.failures l.self.wire)
    × (0 < vec_len l.buffer)
