use Rattle.std.proofs.Common.{◌≡◌, [], reverse, arith, pos, sym, ◌∙◌, ap}
use Rattle.std.specs.List.{cons_option}
use Rattle.std.proofs.lemmas.Int.{ints}
use Rattle.blot_types.specs.Order.{cum_of}
use Rattle.blot_types.specs.Refusals.{current_fill}
use Rattle.blot_command.proofs.RefusalLemmas.{wanted-more, one_fill}
use Rattle.blot_command.proofs.refusal.wanted.Goals as goal
use Rattle.blot_command.specs.Slots.{entries_in}
use Rattle.blot_command.proofs.refusal.wanted.Goals.{in-Some, in_default}

pub loop-key-preserved : goal.loop-key-preserved
loop-key-preserved c =
    let more = wanted-more (entries_in c.args.slots.now) c.args.execs.now c.loop-key.key-index c.key-item.result c.loop-key.sum c.loop-key-test.true c.key-item.is (sym c.loop-key.sum-is ∙ c.loop-key.invariant.sum) in
    let before = c.loop-key.sum-is in
    let low = c.loop-key.invariant.low in
    let high = c.loop-key.invariant.high in
    elim c.match-current_fill.branch [
      | in-Some w ↦
          let fill : cum_of (cons_option (current_fill (reverse (entries_in c.args.slots.now)) c.key-item.result) []) ≡ pos w.in-Some.fill.now.qty =
          ap (λ found. cum_of (cons_option found [])) (sym w.in-Some.ensures) ∙ one_fill w.in-Some.fill.now in
          let is = w.sum-is in
          let size = w.units.ensures in
          let units = w.from-sum.ensures in
          record { sum = omega (arith, ints, more, fill, is, before, size.value, size.range, units, high); low = omega (arith, ints, is, low, before, size.range, units, high); high = omega (arith, ints, is, high, before, size.range, units) }
      | in_default w ↦
          let none : cum_of (cons_option (current_fill (reverse (entries_in c.args.slots.now)) c.key-item.result) []) ≡ pos 0 =
          ap (λ found. cum_of (cons_option found [])) (sym w.in_default.ensures) in
          let is = w.sum-is in
          record { sum = omega (arith, ints, more, none, is, before); low = omega (arith, ints, is, low, before); high = omega (arith, ints, is, high, before) }
    ]
