use Rattle.std.proofs.Common.{◌≡◌, ℕ, List, drop, map, find}
use Rattle.blot_types.specs.declared.command.Entry.{Entry}
use Rattle.blot_types.specs.Legal.{fails_at}
use Rattle.blot_model.proofs.withdrawal.first_failing.Given as goal

abbrev pub invariant-loop-entry : goal.invariant-loop-entry
invariant-loop-entry l =
    let numbers : List Entry → List ℕ = map (λ (entry : Entry). entry.number) in
    find (fails_at l.list l.withdrawn) (numbers (drop l.entry-index l.list)) ≡ find (fails_at l.list l.withdrawn) (numbers l.list)
