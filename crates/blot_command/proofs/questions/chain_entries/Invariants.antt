use Rattle.std.proofs.Common.{◌≡◌, ◌++◌, ◌+◌, reverse}
use Rattle.std.specs.Option.{option_map_or}
use Rattle.blot_command.specs.Questions.{chain_in}
use Rattle.blot_command.specs.Slots.{entries_in}
use Rattle.blot_command.proofs.ChainEntryLemmas.{from_in}
use Rattle.blot_command.proofs.questions.chain_entries.Given as goal

abbrev pub invariant-loop-next : goal.invariant-loop-next
invariant-loop-next l = l.entries.items ++ from_in l.root (reverse (entries_in l.slots)) l.next ≡ chain_in (reverse (entries_in l.slots)) l.root

abbrev pub decreases-loop-next : goal.decreases-loop-next
decreases-loop-next l = option_map_or (λ n. n + 1) l.next 0
