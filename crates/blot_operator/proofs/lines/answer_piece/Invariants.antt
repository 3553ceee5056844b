use Rattle.std.proofs.Common.{take}
use Rattle.blot_operator.specs.Dialogue.{TellsOn}
use Rattle.blot_operator.proofs.lines.answer_piece.Given as goal

abbrev pub invariant-loop-byte : goal.invariant-loop-byte
invariant-loop-byte g l =
    TellsOn g.D.Operated.ways (take l.byte-index l.piece) l.initial.line.items l.initial.state (g.W.Write.contents l.initial.output)
    l.line.items l.state (g.W.Write.contents l.output)
