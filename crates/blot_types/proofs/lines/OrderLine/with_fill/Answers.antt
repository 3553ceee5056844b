use Rattle.std.proofs.Common.{arith}
use Rattle.std.proofs.lemmas.Int.{ints}
use Rattle.blot_types.proofs.OrderLemmas.{IsWithin-more}
use Rattle.blot_types.proofs.lines.OrderLine.with_fill.Goals as goal

pub returns-clause-grows : goal.returns-clause-grows
returns-clause-grows c =
    λ n within. IsWithin-more n c.args.line _ within
    (omega (arith, ints)) (omega (arith, ints)) (omega (arith, ints)) (omega (arith, ints))
