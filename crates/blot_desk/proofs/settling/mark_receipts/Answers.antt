use Rattle.std.proofs.Common.{◌+◌, subst, drop, refl, arith, drop_of_length-le}
use Rattle.blot_desk.proofs.MarkLemmas.{IsMarking, begun, marked_all, marked_more, next_of, not_rising, not_standing, twice}
use Rattle.blot_desk.proofs.settling.mark_receipts.Goals as goal
use Rattle.blot_desk.proofs.settling.mark_receipts.Goals.{then-not-stands-via-then-not-stands, then-not-stands-via-else-not-stands+then-receipt-from, then-not-stands-via-else-not-stands+else-receipt-from+then-marks-receipt}

pub loop-receipt-init : goal.loop-receipt-init
loop-receipt-init c = begun c.args.history.now c.args.marks.now c.args.receipts.now

pub returns-then-not-stands-clause-other : goal.returns-then-not-stands-clause-other
returns-then-not-stands-clause-other c = λ no stand rise.
    let rest = drop (c.loop-receipt.receipt-index + 1) c.args.receipts.now in
    let so = subst (λ left. IsMarking c.args.history.now c.args.marks.now c.loop-receipt.marks c.args.receipts.now left c.loop-receipt.from)
    (next_of c.args.receipts.now c.loop-receipt.receipt-index c.receipt-item.result c.loop-receipt-test.true c.receipt-item.is) c.loop-receipt.invariant in
    elim c.then-not-stands.branch [
      | then-not-stands-via-then-not-stands w ↦ not_standing _ _ _ _ rest c.receipt-item.result _ so (λ stands. (let yes = c.stands.ensures.stands.1 stands in let not = w.if-not-stands.true in cc)) stand
      | then-not-stands-via-else-not-stands+then-receipt-from w ↦ not_rising _ _ _ _ rest c.receipt-item.result _ so w.if-receipt-from.true rise
      | then-not-stands-via-else-not-stands+else-receipt-from+then-marks-receipt w ↦ twice _ _ _ _ rest c.receipt-item.result _ so (c.stands.ensures.within w.if-not-stands.false) (rw w.if-marks-receipt.true refl)
    ]

pub loop-receipt-preserved : goal.loop-receipt-preserved
loop-receipt-preserved c =
    let rest = drop (c.loop-receipt.receipt-index + 1) c.args.receipts.now in
    let so = subst (λ left. IsMarking c.args.history.now c.args.marks.now c.loop-receipt.marks c.args.receipts.now left c.loop-receipt.from)
    (next_of c.args.receipts.now c.loop-receipt.receipt-index c.receipt-item.result c.loop-receipt-test.true c.receipt-item.is) c.loop-receipt.invariant in
    marked_more _ _ _ _ rest c.receipt-item.result _ so (c.stands.ensures.stands.0 c.if-not-stands.false) c.if-receipt-from.false
    (omega (arith, c.stands.ensures.within c.if-not-stands.false, c.loop-receipt.invariant.size, c.requires)) (rw c.if-marks-receipt.false refl)

pub returns-clause-marked : goal.returns-clause-marked
returns-clause-marked c = λ yes.
    marked_all _ _ _ _ c.loop-receipt.from (subst (λ left. IsMarking c.args.history.now c.args.marks.now c.loop-receipt.marks c.args.receipts.now left c.loop-receipt.from)
    (drop_of_length-le c.args.receipts.now (omega (arith, c.loop-receipt-test.false))) c.loop-receipt.invariant)
