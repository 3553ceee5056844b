use Rattle.std.proofs.Common.{◌≡◌, vec_len}
use Rattle.blotter.proofs.rounds.accept_all.Given as goal

abbrev pub invariant-loop : goal.invariant-loop
invariant-loop g l = vec_len l.wires ≡ l.counter
