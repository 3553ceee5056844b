use Rattle.std.proofs.Common.{arith, rules, ◌≡◌, ◌<◌, ◌^◌, pos, neg_ℤ, ◌*ℤ◌, unsigned_abs}
use Rattle.std.proofs.lemmas.Int.{ints}
use Rattle.blot_types.proofs.AmountLemmas.{small_value, small_value_neg}
use Rattle.blot_types.proofs.part.amounts.Goals as goal

pub returns-in-Buy-clause-small_value : goal.returns-in-Buy-clause-small_value
returns-in-Buy-clause-small_value c =
    let qty : c.from_units.result ≡ pos c.args.qty = omega (arith, ints, c.from_units.ensures, c.from-size.ensures, c.units.ensures.value) in
    let value : c.from_units-in-Buy.result ≡ pos c.args.qty *ℤ c.args.price =
    omega (arith, ints, c.from_units-in-Buy.ensures, c.units-value.ensures, c.times.ensures.exact, c.times.ensures.range) in
    let bound : unsigned_abs c.args.price < 10 ^ 16 = search rules in
    rw (qty, value) (small_value c.args.qty c.args.price bound)

pub returns-in-Sell-clause-small_value : goal.returns-in-Sell-clause-small_value
returns-in-Sell-clause-small_value c =
    let qty : c.from_units-in-Sell.result ≡ neg_ℤ (pos c.args.qty) =
    omega (arith, ints, c.from_units-in-Sell.ensures, c.from-size.ensures, c.units.ensures.value, c.units.ensures.range) in
    let value : c.from_units-in-Sell-2.result ≡ neg_ℤ (pos c.args.qty *ℤ c.args.price) =
    omega (arith, ints, c.from_units-in-Sell-2.ensures, c.units-value.ensures, c.times.ensures.exact, c.times.ensures.range) in
    let bound : unsigned_abs c.args.price < 10 ^ 16 = search rules in
    rw (qty, value) (small_value_neg c.args.qty c.args.price bound)
