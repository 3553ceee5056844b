use Rattle.std.proofs.Common.{◌≡◌, ◌+◌, ◌≤◌, ◌++◌, ◌∷◌, [], true, false, take, length, arith, sym, ap, ◌∙◌}
use Rattle.std.proofs.lemmas.List.{take_more}
use Rattle.blot_types.specs.Keys.{same_order}
use Rattle.blot_types.specs.Survivors.{survivors}
use Rattle.blot_types.specs.declared.TheConstants.{EVENTS_MAX}
use Rattle.blot_types.proofs.LegalLemmas.{length_numbered}
use Rattle.blot_types.proofs.SurvivorLemmas.{length-survivors}
use Rattle.blot_types.proofs.OrderLemmas.{IsWithin-weaker, line_of-taken, line_of-passed}
use Rattle.blot_model.proofs.orders.order_of.Goals as goal
use Rattle.blot_model.proofs.orders.order_of.Goals.{then-eq, else-eq}

pub with_fill-requires : goal.with_fill-requires
with_fill-requires c =
    let versions = c.deref-version-items.result.now in
    let index = c.loop-version.version-index in
    let is : versions ≡ survivors c.args.list.now = cc (c.deref-version-items.ensures.value, c.in_ok-survivors.ensures.exact) in
    let few : index ≤ EVENTS_MAX = omega (arith, ap length is, length-survivors c.args.list.now, length_numbered c.args.list.now c.requires, c.loop-version-test.true) in
    record { few = IsWithin-weaker index EVENTS_MAX c.loop-version.line few c.loop-version.invariant.1 }

pub loop-version-preserved : goal.loop-version-preserved
loop-version-preserved c =
    let versions = c.deref-version-items.result.now in
    let version = c.version-item.result in
    let index = c.loop-version.version-index in
    let more : take (index + 1) versions ≡ take index versions ++ version ∷ [] =
    rw c.version-item.is (take_more versions index version c.loop-version-test.true) in
    elim c.if-eq.branch [
      | then-eq w ↦
          let same : same_order version.fill.order c.args.order.now ≡ true = sym c.eq.ensures ∙ w.if-eq.true in
          let line = line_of-taken (take index versions) version c.args.order.now c.loop-version.line c.loop-version.invariant.0 same in
          (rw (w.line-is, more, w.with_fill.ensures.line) line, rw w.line-is (w.with_fill.ensures.grows index c.loop-version.invariant.1))
      | else-eq w ↦
          let other : same_order version.fill.order c.args.order.now ≡ false = sym c.eq.ensures ∙ w.if-eq.false in
          let line = line_of-passed (take index versions) version c.args.order.now c.loop-version.line c.loop-version.invariant.0 other in
          (rw (w.line-is, more) line, rw w.line-is (IsWithin-weaker index (index + 1) c.loop-version.line (omega arith) c.loop-version.invariant.1))
    ]
