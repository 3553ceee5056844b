use Rattle.blot_terminals.specs.Naming.{Tells}
use Rattle.blot_terminals.proofs.naming.named_seat.Given as goal

abbrev pub invariant-loop : goal.invariant-loop
invariant-loop g l = Tells (g.O.Write.contents l.fn.output) (g.O.Write.contents l.output)
