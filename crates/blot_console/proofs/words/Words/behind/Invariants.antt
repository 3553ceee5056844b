use Rattle.std.proofs.Common.{◌≡◌, drop}
use Rattle.blot_console.proofs.words.Words.behind.Given as goal

abbrev pub invariant-loop : goal.invariant-loop
invariant-loop l = l.words ≡ drop l.counter l.self
