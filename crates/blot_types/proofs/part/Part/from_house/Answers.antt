use Rattle.std.proofs.Common.{◌≡◌, neg_ℤ, arith}
use Rattle.std.proofs.lemmas.Int.{ints}
use Rattle.blot_types.proofs.part.Part.from_house.Goals as goal

pub returns-clause-part : goal.returns-clause-part
returns-clause-part c =
    let qty : c.from_units.result ≡ neg_ℤ c.args.self.now.qty = omega (arith, ints, c.from_units.ensures, c.units.ensures) in
    let value : c.from_units-2.result ≡ neg_ℤ c.args.self.now.value = omega (arith, ints, c.from_units-2.ensures, c.units-2.ensures) in
    λ i. record { account = c.house_account.ensures i; symbol = c.args.self.now.symbol; qty = qty i; value = value i }
