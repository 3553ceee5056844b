use Rattle.std.proofs.Common.{◌≡◌, ◌*◌, arith, to_z, of_z, pos, ◌+ℤ◌, int_le}
use mir.Syntax.{w128}
use Rattle.std.proofs.lemmas.Int.{ints}
use Rattle.blot_session.proofs.ticks.passed.Goals as goal

pub returns : goal.returns
returns c =
    let due : to_z w128 (of_z w128 (to_z w128 (of_z w128 c.from-since.result) +ℤ to_z w128 (of_z w128 c.from-wait.result))) ≡ c.args.since +ℤ pos (c.args.seconds * 1000) =
    omega (arith, ints, c.from-since.ensures, c.millis.ensures.value, c.millis.type_inv, c.from-wait.ensures, c.requires) in
    let now : to_z w128 (of_z w128 c.from-now.result) ≡ c.args.now = omega (arith, ints, c.from-now.ensures, c.millis-2.ensures.value, c.millis-2.type_inv) in
    λ i. int_le (due i) (now i)
