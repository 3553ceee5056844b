use Rattle.std.proofs.Common.{◌≤◌, ◌-◌, length, take}
use Rattle.blot_gateway.specs.Sending.{Writes}
use Rattle.blot_gateway.proofs.writing.write_text.Given as goal

abbrev pub invariant-loop-written : goal.invariant-loop-written
invariant-loop-written g l =
    (l.written ≤ length l.text)
    × Writes g.W.Wire.does l.initial.wire (take l.written l.text) l.wire
    × (g.W.Wire.failures l.initial.wire ≤ g.W.Wire.failures l.wire)

abbrev pub decreases-loop-written : goal.decreases-loop-written
decreases-loop-written g l = length l.text - l.written
