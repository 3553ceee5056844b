use Rattle.std.proofs.Common.{rules, arith}
use Rattle.blot_order.proofs.PlaceLemmas.{reaching-with}
use Rattle.blot_order.proofs.slots.reach.Goals as goal

pub returns-in_ok-resize_with-clause-ok : goal.returns-in_ok-resize_with-clause-ok
returns-in_ok-resize_with-clause-ok c =
    let made = c.in_ok-resize_with.ensures.items in
    let short = c.if-len-index.true in
    let long = c.in_ok-resize_with.ensures.len in
    reaching-with _ c.args.index c.args.slots.now.items c.resize_with.new.self.items made.0 _ _ (λ p q x k. search rules)
    (omega (arith, short)) (omega (arith, long)) made.2 made.3
