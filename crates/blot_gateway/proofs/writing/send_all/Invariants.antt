use Rattle.std.proofs.Common.{◌≤◌, take, flat_map}
use Rattle.blot_session.specs.Runs.{bytes_of}
use Rattle.blot_gateway.specs.Sending.{Writes}
use Rattle.blot_gateway.proofs.writing.send_all.Given as goal

abbrev pub invariant-loop-action : goal.invariant-loop-action
invariant-loop-action g l =
    Writes g.W.Wire.does l.initial.wire (flat_map bytes_of (take l.action-index l.actions)) l.wire
    × (g.W.Wire.failures l.initial.wire ≤ g.W.Wire.failures l.wire)
