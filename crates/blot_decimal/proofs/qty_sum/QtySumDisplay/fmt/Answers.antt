use Rattle.std.proofs.Common.{◌^◌, ◌<◌, unsigned_abs, arith, rules}
use Rattle.blot_decimal.proofs.ShortestLemmas.{exact_of-printed, printed_is_shortest}
use Rattle.blot_decimal.proofs.qty_sum.QtySumDisplay.fmt.Goals as goal

pub returns-clause-read_again : goal.returns-clause-read_again
returns-clause-read_again g c =
    let small : unsigned_abs c.args.self.now < 10 ^ 64 = search rules in exact_of-printed 6 c.args.self.now small

pub returns-clause-shortest : goal.returns-clause-shortest
returns-clause-shortest g c =
    let small : unsigned_abs c.args.self.now < 10 ^ 64 = search rules in printed_is_shortest 6 c.args.self.now (omega (arith, small))
