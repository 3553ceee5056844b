use Rattle.std.proofs.Common.{◌^◌, ◌<◌, unsigned_abs, arith, rules}
use Rattle.blot_decimal.proofs.ShortestLemmas.{price_of-printed, printed_is_shortest}
use Rattle.blot_decimal.proofs.price.PriceDisplay.fmt.Goals as goal

pub returns-clause-read_again : goal.returns-clause-read_again
returns-clause-read_again g c =
    let small : unsigned_abs c.args.self.now < 10 ^ 16 = search rules in price_of-printed c.args.self.now small

pub returns-clause-shortest : goal.returns-clause-shortest
returns-clause-shortest g c =
    let small : unsigned_abs c.args.self.now < 10 ^ 16 = search rules in printed_is_shortest 8 c.args.self.now (omega (arith, small))
