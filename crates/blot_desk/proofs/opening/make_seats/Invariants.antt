use Rattle.std.proofs.Common.{◌≡◌, ◌+◌, [], All, length}
use Rattle.blot_desk.proofs.opening.make_seats.Given as goal

abbrev pub invariant-loop : goal.invariant-loop
invariant-loop g l = (l.share.parts + length l.seats.items ≡ l.count) × (l.share.amount ≡ 0) × (length l.seats.items ≡ l.counter) × All (λ receipts. receipts ≡ []) l.seats.items
