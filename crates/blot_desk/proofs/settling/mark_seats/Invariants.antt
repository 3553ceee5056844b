use Rattle.std.proofs.Common.{drop}
use Rattle.blot_desk.proofs.MarkLemmas.{IsSeating}
use Rattle.blot_desk.proofs.settling.mark_seats.Given as goal

abbrev pub invariant-loop-seat : goal.invariant-loop-seat
invariant-loop-seat g l = IsSeating l.history l.fn.marks l.marks l.seats (drop l.seat-index l.seats)
