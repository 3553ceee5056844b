use Rattle.std.proofs.Common.{◌^◌, ◌<◌, pos, arith, rules}
use Rattle.blot_decimal.proofs.ShortestLemmas.{qty_of-printed, printed_is_shortest}
use Rattle.blot_decimal.proofs.qty.QtyDisplay.fmt.Goals as goal

pub returns-clause-read_again : goal.returns-clause-read_again
returns-clause-read_again g c =
    let small : c.args.self.now < 10 ^ 16 = search rules in qty_of-printed c.args.self.now small

pub returns-clause-shortest : goal.returns-clause-shortest
returns-clause-shortest g c =
    let small : c.args.self.now < 10 ^ 16 = search rules in printed_is_shortest 6 (pos c.args.self.now) (omega (arith, small))
