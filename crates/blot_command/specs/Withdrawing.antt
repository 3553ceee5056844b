-- An entry taken out of the middle of the book, and put back.
use Rattle.std.specs.Prelude.{◌≡◌, ℕ, ◌+◌, ◌<◌, ◌≤◌, ◌⊎◌, Bool, true, false, ◌&&◌, not, nat_lt, List, [], ◌∷◌, ◌++◌, Some, All, Contains}
use Rattle.std.specs.List.{list_all}
use Rattle.std.specs.Option.{option_map_or}
use Rattle.blot_types.specs.declared.{command.Command.Command, command.Entry.Entry, keys.ExecKey.ExecKey}
use Rattle.blot_types.specs.Keys.{same_exec}
use Rattle.blot_types.specs.Legal.{is_above_entries, is_book, without}
use Rattle.blot_types.specs.Refusals.{exec_key}
use Rattle.blot_types.specs.Withdrawal.{put_back}
use Rattle.blot_places.specs.Shown.{item_at, with_item, without as without_item}
use Rattle.blot_command.specs.Book.{Shown, entry_number, numbers_of}

-- the list with one more entry at its end
abbrev pub with_entry : Entry → Shown → Shown
with_entry entry shown = record { list = shown.list ++ entry ∷ []; kept = shown.kept }

-- the same, of a command and the number that it is taken under
abbrev pub with_command : Command → ℕ → Shown → Shown
with_command command number shown = with_entry (record { number = number; command = command }) shown

-- the list has a last entry, and none that is kept came later
pub record HasLast (shown : Shown) : Type 0 where
  pub rest : List Entry
  pub entry : Entry
  pub is : shown.list ≡ rest ++ entry ∷ []
  pub above : is_above_entries (entry.number + 1) shown.kept ≡ true

-- an entry is taken out of the list, and its slot is kept
abbrev pub lifted : Entry → Shown → Shown
lifted entry shown = record { list = without entry.number shown.list; kept = with_item entry_number entry shown.kept }

-- it is put back at its place
abbrev pub returned : Entry → Shown → Shown
returned entry shown = record { list = put_back entry shown.list; kept = without_item entry_number entry.number shown.kept }

-- of the entries that are kept, all but this one stay
abbrev pub StaysBut : Entry → Shown → Shown → Type 0
StaysBut entry old new = without_item entry_number entry.number new.kept ≡ without_item entry_number entry.number old.kept

-- whether an entry takes up the execution of a key
abbrev pub takes_exec : ExecKey → Entry → Bool
takes_exec key entry = option_map_or (λ own. same_exec own key) (exec_key entry.command) false

-- whether two entries take up the same execution
abbrev pub shares_exec : Entry → Entry → Bool
shares_exec entry other = option_map_or (λ key. takes_exec key other) (exec_key entry.command) false

-- an entry can be put back: its slot is kept, no entry that is kept above it takes up its execution, and with it the list is a
-- book
pub record CanReturn (entry : Entry) (shown : Shown) : Type 0 where
  pub kept : item_at entry_number entry.number shown.kept ≡ Some entry
  pub untaken : list_all (λ other. not (nat_lt entry.number other.number && shares_exec entry other)) shown.kept ≡ true
  pub book : is_book (put_back entry shown.list) ≡ true

-- a number isn't both in the list and among those that are kept
abbrev pub StandsOnce : Shown → ℕ → Type 0
StandsOnce shown number = Contains (numbers_of shown.kept) number → Contains (numbers_of shown.list) number → ⊥

-- an entry is in the list, or it is kept
abbrev pub IsThere : Shown → Entry → Type 0
IsThere shown entry = Contains shown.list entry ⊎ (item_at entry_number entry.number shown.kept ≡ Some entry)

-- the book keeps what taking back a step needs that took an entry out under a number: the entry's slot, which came before the
-- step; of the entries that take up its execution, in the list or kept, none came between the two; and the number is free
pub record Keeps (shown : Shown) (number : ℕ) (entry : Entry) : Type 0 where
  pub earlier : entry.number < number
  pub once : StandsOnce shown entry.number
  pub there : IsThere shown entry
  pub untaken :
      All (λ other. shares_exec entry other ≡ true → (other.number ≤ entry.number) ⊎ (number < other.number)) (shown.list ++ shown.kept)
  pub free : Contains (numbers_of shown.kept ++ numbers_of shown.list) number → ⊥
