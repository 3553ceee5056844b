use Rattle.std.proofs.Common.{◌≡◌, ◌-◌, suc, ap, arith, subst, take, true, ◌∙◌}
use Rattle.blot_order.specs.FillNumbers.{ends_put, numbers_put}
use Rattle.blot_order.proofs.NumberLemmas.{ends-take, put-take}
use Rattle.blot_order.proofs.fill_numbers.end_of_put.Goals as goal

pub loop-end-preserved : goal.loop-end-preserved
loop-end-preserved c =
    let within = c.loop-end.invariant.0 in
    let before : suc (c.loop-end.end - 1) ≡ c.loop-end.end = omega arith in (
      omega arith,
      put-take (c.loop-end.end - 1) c.args.listed.now _ (omega arith) c.if-not-listed-end.true
          ∙ ap (λ n. numbers_put (take n c.args.listed.now)) before ∙ c.loop-end.invariant.1,
    )

pub returns-else-not-listed-end-clause-last : goal.returns-else-not-listed-end-clause-last
returns-else-not-listed-end-clause-last c =
    let within = c.loop-end.invariant.0 in
    let before : suc (c.loop-end.end - 1) ≡ c.loop-end.end = omega arith in
    subst (λ n. ends_put true (take n c.args.listed.now) ≡ true) before (ends-take true (c.loop-end.end - 1) c.args.listed.now _ (omega arith) c.if-not-listed-end.false)
