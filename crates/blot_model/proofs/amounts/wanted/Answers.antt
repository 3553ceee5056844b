use Rattle.std.proofs.Common.{arith, reverse}
use Rattle.std.proofs.lemmas.Int.{ints}
use Rattle.blot_types.specs.Refusals.{current_fill}
use Rattle.blot_model.proofs.ListLemmas.{cum_of-more}
use Rattle.blot_model.proofs.amounts.wanted.Goals as goal

pub loop-key-preserved : goal.loop-key-preserved
loop-key-preserved c =
    let more = cum_of-more (current_fill (reverse c.args.list.now)) c.args.execs.now c.loop-key.key-index c.key-item.result c.loop-key-test.true c.key-item.is in
    record { sum = omega (arith, ints, more); low = omega (arith, ints); high = omega (arith, ints) }
