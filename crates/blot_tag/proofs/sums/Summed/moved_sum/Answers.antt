use Rattle.std.proofs.Common.{arith}
use Rattle.blot_tag.proofs.SumLemmas.{sum_joined}
use Rattle.blot_tag.proofs.sums.Summed.moved_sum.Goals as goal

pub returns-then-self-end : goal.returns-then-self-end
returns-then-self-end c =
    let text = c.args.text.now in
    let before = sum_joined text c.args.self.start c.args.start c.args.self.end c.requires.low c.requires.high in
    let after = sum_joined text c.args.start c.args.self.end c.args.end c.requires.high c.if-self-end.true in
    omega (arith, c.requires.known.sum_is, c.sum_of.ensures, c.sum_of-then-self-end.ensures, before, after)

pub returns-else-self-end : goal.returns-else-self-end
returns-else-self-end c =
    let text = c.args.text.now in
    let before = sum_joined text c.args.self.start c.args.start c.args.self.end c.requires.low c.requires.high in
    let after = sum_joined text c.args.start c.args.end c.args.self.end c.requires.order (omega (arith, c.if-self-end.false)) in
    omega (arith, c.requires.known.sum_is, c.sum_of.ensures, c.sum_of-else-self-end.ensures, before, after)
