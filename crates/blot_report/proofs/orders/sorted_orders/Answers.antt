use Rattle.std.proofs.Common.{subst, IsPermutation}
use Rattle.blot_report.proofs.KeyLemmas.{orders-sorted}
use Rattle.blot_report.proofs.orders.sorted_orders.Goals as goal

pub returns : goal.returns
returns c = λ fills are.
    let sorted = c.sort_unstable.new.self.items in
    orders-sorted c.args.lines.now.entries sorted fills c.orders_of.ensures.once
    (subst (λ own. IsPermutation own sorted) c.in_ok-keys.ensures.keys c.sort_unstable.ensures.permutation) c.sort_unstable.ensures.sorted are
