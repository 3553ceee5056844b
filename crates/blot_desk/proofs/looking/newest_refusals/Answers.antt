use Rattle.std.proofs.Common.{◌-◌, arith}
use Rattle.blot_desk.proofs.QuestionLemmas.{walk_on}
use Rattle.blot_desk.proofs.looking.newest_refusals.Goals as goal

pub loop-place-preserved : goal.loop-place-preserved
loop-place-preserved c =
    walk_on c.args.history.now c.args.count c.loop-place.place (c.loop-place.place - 1) c.loop-place.rows.items c.put_refusal.new.rows.items c.index-history-place.result c.loop-place.invariant
    (omega (arith, c.loop-place-test.true)) c.index-history-place.is c.in_ok-put_refusal.ensures (omega (arith, c.if-len-from.true, c.len.ensures, c.from.ensures))
