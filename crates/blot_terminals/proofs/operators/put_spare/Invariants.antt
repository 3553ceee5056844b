use Rattle.blot_terminals.specs.Staff.{Grows}
use Rattle.blot_terminals.proofs.operators.put_spare.Given as goal

abbrev pub invariant-loop-seat : goal.invariant-loop-seat
invariant-loop-seat g l = Grows l.fn.others.items l.seats.items
