-- The book as a list of entries: what stands after a command, its inverse, and what stands before.
use Rattle.std.specs.Prelude.{ℕ, ◌==◌, Bool, map, List, [], ◌∷◌, ◌++◌, Option, Some, find, option_map}
use Rattle.std.specs.Option.{option_map_or}
use Rattle.blot_types.specs.declared.{command.Command.Command, command.Command.TheVariants.Withdraw, command.Entry.Entry}
use Rattle.blot_types.specs.Refusals.{withdrawn_by}
use Rattle.blot_types.specs.Legal.{without}
use Rattle.blot_types.specs.Withdrawal.{put_back}
use Rattle.blot_command.specs.declared.inverse.Inverse.{Inverse}
use Rattle.blot_command.specs.declared.inverse.Inverse.TheVariants.{Number, Taken}

-- what a contract sees of the book: its live list, in rising order of number, and the entries that were taken out of its middle
-- and whose slots are kept, newest first
pub record Shown : Type 0 where
  pub list : List Entry
  pub kept : List Entry

-- the number of an entry
abbrev pub entry_number : Entry → ℕ
entry_number entry = entry.number

-- whether an entry bears a number
abbrev pub has_number : ℕ → Entry → Bool
has_number number entry = entry.number == number

-- the numbers of a list of entries
abbrev pub numbers_of : List Entry → List ℕ
numbers_of list = map (λ entry. entry.number) list

-- the list after a command that is an entry: it stands at its end under its number
abbrev pub entered : List Entry → Command → ℕ → List Entry
entered list command number = list ++ record { number = number; command = command } ∷ []

-- the list after a command: a Withdraw takes an entry out
abbrev pub after : List Entry → Command → ℕ → List Entry
after list command number = option_map_or (λ taken. without taken list) (withdrawn_by command) (entered list command number)

-- the inverse of a command that takes out the entry of a number: the entry
abbrev pub taken_of : List Entry → ℕ → Inverse
taken_of list number = option_map_or Taken (find (has_number number) list) (Number number)

-- the inverse of a command: the number of its entry, or the entry that it takes out
abbrev pub inverse_of : List Entry → Command → ℕ → Inverse
inverse_of list command number = option_map_or (taken_of list) (withdrawn_by command) (Number number)

-- the list before: without the entry of that number, or with that entry at its place
abbrev pub before : List Entry → Inverse → List Entry
before list (Number number) = without number list
before list (Taken entry) = put_back entry list

-- the command that stands under a number
abbrev pub command_at : List Entry → ℕ → Option Command
command_at list number = option_map (λ entry. entry.command) (find (has_number number) list)

-- the command that an inverse takes back
abbrev pub command_of : List Entry → Inverse → Option Command
command_of list (Number number) = command_at list number
command_of list (Taken entry) = Some (Withdraw entry.number)
