use Rattle.std.proofs.Common.{◌≡◌, ◌≤◌, vec_len, vec_capacity}
use Rattle.blotter.proofs.rounds.clocks_of.Given as goal

abbrev pub invariant-loop : goal.invariant-loop
invariant-loop g l = (vec_len l.clocks ≡ l.counter) × (l.count ≤ vec_capacity l.clocks)
