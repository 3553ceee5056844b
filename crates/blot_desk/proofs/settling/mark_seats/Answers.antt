use Rattle.std.proofs.Common.{◌+◌, subst, drop}
use Rattle.blot_desk.proofs.MarkLemmas.{IsSeating, seats_begun, seat_other, seated_more, next_of}
use Rattle.blot_desk.proofs.settling.mark_seats.Goals as goal

pub loop-seat-init : goal.loop-seat-init
loop-seat-init g c = seats_begun c.args.history.now c.args.marks.now c.args.seats.now

pub returns-then-not-mark_receipts-clause-other : goal.returns-then-not-mark_receipts-clause-other
returns-then-not-mark_receipts-clause-other g c = λ no stand rise.
    let rest = drop (c.loop-seat.seat-index + 1) c.args.seats.now in
    let so = subst (λ left. IsSeating c.args.history.now c.args.marks.now c.loop-seat.marks c.args.seats.now left)
    (next_of c.args.seats.now c.loop-seat.seat-index c.seat-item.result c.loop-seat-test.true c.seat-item.is) c.loop-seat.invariant in
    seat_other _ _ _ _ rest c.seat-item.result so (rw (← c.receipts.ensures) (c.mark_receipts.ensures.other c.if-not-mark_receipts.true)) stand rise

pub loop-seat-preserved : goal.loop-seat-preserved
loop-seat-preserved g c =
    let rest = drop (c.loop-seat.seat-index + 1) c.args.seats.now in
    let so = subst (λ left. IsSeating c.args.history.now c.args.marks.now c.loop-seat.marks c.args.seats.now left)
    (next_of c.args.seats.now c.loop-seat.seat-index c.seat-item.result c.loop-seat-test.true c.seat-item.is) c.loop-seat.invariant in
    seated_more _ _ _ _ _ rest c.seat-item.result so (rw (← c.receipts.ensures) (c.mark_receipts.ensures.marked c.if-not-mark_receipts.false)) c.mark_receipts.ensures.length
