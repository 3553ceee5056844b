use Rattle.blot_terminals.specs.Staff.{AreOwnSeats}
use Rattle.blot_terminals.proofs.operators.seated.Given as goal

abbrev pub invariant-loop-seat : goal.invariant-loop-seat
invariant-loop-seat g l = AreOwnSeats l.seated.entries
