use Rattle.std.proofs.Common.{◌<◌, List, ℕ, vec_len}
use Rattle.std.specs.Io.KnownBytes.{Consumes}
use Rattle.blot_operator.specs.Dialogue.{HasTold}
use Rattle.blot_operator.proofs.operating.answer_lines.Given as goal

abbrev pub invariant-loop : goal.invariant-loop
invariant-loop g l =
    (bytes : List ℕ)
    × Consumes (g.R.Read.remaining l.initial.input) (g.R.Read.remaining l.input) bytes
    × HasTold g.D.Operated.ways l.initial.state bytes l.line.items l.state (g.W.Write.contents l.initial.output) (g.W.Write.contents l.output)
    × (0 < vec_len l.buffer)
