use Rattle.std.proofs.Common.{◌≡◌, ◌+ℤ◌, arith}
use Rattle.std.proofs.lemmas.Int.{ints}
use Rattle.blot_model.proofs.parts.plus.Goals as goal

pub returns : goal.returns
returns c =
    let first = c.requires.first in
    let second = c.requires.second in
    let qty : c.from_units.result ≡ c.args.first.qty +ℤ c.args.second.qty = omega (arith, ints, c.from_units.ensures, c.units.ensures, c.units-2.ensures, first.qty, second.qty) in
    let value : c.from_units-2.result ≡ c.args.first.value +ℤ c.args.second.value =
    omega (arith, ints, c.from_units-2.ensures, c.units-3.ensures, c.units-4.ensures, first.value, second.value) in
    λ i. record { qty = qty i; value = value i }
