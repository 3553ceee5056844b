use Rattle.std.proofs.Common.{◌≡◌, ◌+◌, length}
use Rattle.blot_console.proofs.words.Words.count.Given as goal

abbrev pub invariant-loop : goal.invariant-loop
invariant-loop l = l.count + length l.iterator' ≡ length l.self
