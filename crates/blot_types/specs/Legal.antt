-- Which commands a list of entries refuses, and which lists are legal. A word that ends in `_in` reads the
-- entries newest first.
use Rattle.std.specs.Prelude.{◌≡◌, ℕ, ◌+◌, ◌==◌, Bool, true, ◌&&◌, not, List, [], ◌∷◌, map, filter, find, reverse, Option, Some, is_none, nat_lt, if◌then◌else◌, option_map}
use Rattle.std.specs.List.{list_all}
use Rattle.std.specs.Option.{option_map_or, option_or}
use Rattle.blot_types.specs.declared.{allocation.Instruction.Instruction, command.Command.Command, command.Entry.Entry, link.Link.Link, refused.Refused.Refused, TheConstants.EVENTS_MAX}
use Rattle.blot_types.specs.declared.refused.Refused.TheVariants.{Needed, NotLive}
use Rattle.blot_types.specs.Allocations.{instructions_of}
use Rattle.blot_types.specs.Refusals.{withdrawn_by, never_entry, is_live, duplicate_exec, duplicate_alloc, unknown_alloc, dead_alloc, unknown_exec, busted_exec, repeated_exec, exec_taken, instrument, quantity}
use Rattle.blot_types.specs.Survivors.{links_of}

-- whether a number is above those of the entries
abbrev pub is_above_entries : ℕ → List Entry → Bool
is_above_entries number entries = list_all (λ entry. nat_lt entry.number number) entries

-- whether the entries' numbers rise
abbrev pub rises_in : List Entry → Bool
rises_in [] = true
rises_in (entry ∷ earlier) = is_above_entries entry.number earlier && rises_in earlier

abbrev pub numbers_rise : List Entry → Bool
numbers_rise list = rises_in (reverse list)

-- why the entries refuse a command as the next entry: the first rule that applies
abbrev pub refusal_in : List Entry → Command → Option Refused
refusal_in entries command =
    option_or (never_entry command)
    (option_or (duplicate_exec entries command)
    (option_or (duplicate_alloc entries command)
    (option_or (unknown_alloc entries command)
    (option_or (dead_alloc entries command)
    (option_or (unknown_exec entries command)
    (option_or (busted_exec entries command)
    (option_or (repeated_exec entries command)
    (option_or (exec_taken entries command)
    (option_or (instrument entries command)
    (quantity entries command))))))))))

abbrev pub entry_refusal : List Entry → Command → Option Refused
entry_refusal list command = refusal_in (reverse list) command

-- whether each entry is accepted after those before it
abbrev pub legal_in : List Entry → Bool
legal_in [] = true
legal_in (entry ∷ earlier) = is_none (refusal_in earlier entry.command) && legal_in earlier

abbrev pub is_legal : List Entry → Bool
is_legal list = legal_in (reverse list)

-- ---- an entry that is taken out

-- the entries without that of a number
abbrev pub without : ℕ → List Entry → List Entry
without number entries = filter (λ entry. not (entry.number == number)) entries

-- the entries numbered up to a number
abbrev pub up_to : ℕ → List Entry → List Entry
up_to number entries = filter (λ entry. not (nat_lt number entry.number)) entries

-- whether a number is above k, and the entries numbered up to it, without k, aren't legal
abbrev pub fails_at : List Entry → ℕ → ℕ → Bool
fails_at list k number = nat_lt k number && not (is_legal (without k (up_to number list)))

-- the least number in the list at which that is so: that of the first entry that needs k
abbrev pub least_needing : List Entry → ℕ → Option ℕ
least_needing list k = find (fails_at list k) (map (λ entry. entry.number) list)

-- NotLive: the entry that a command takes out isn't there. Needed: the list without it isn't legal; the first entry that needs it
abbrev pub withdrawal_refusal : List Entry → ℕ → Option Refused
withdrawal_refusal list number = if is_live number list then option_map Needed (least_needing list number) else Some (NotLive number)

-- why a list refuses a command: to be its next entry, or to take an entry out of it
abbrev pub refusal_of : List Entry → Command → Option Refused
refusal_of list command = option_map_or (withdrawal_refusal list) (withdrawn_by command) (entry_refusal list command)

-- ---- the book

-- a list of entries: the numbers rise, up to EVENTS_MAX
abbrev pub is_numbered : List Entry → Bool
is_numbered list = numbers_rise list && is_above_entries (EVENTS_MAX + 1) (reverse list)

-- a book: a list of entries that is legal
abbrev pub is_book : List Entry → Bool
is_book list = is_numbered list && is_legal list

-- a list is a book; the chains are those of its executions, the instructions those of its allocations
pub record HoldsList (list : List Entry) (links : List Link) (instructions : List Instruction) : Type 0 where
  pub book : is_book list ≡ true
  pub links_are : links ≡ links_of list
  pub instructions_are : instructions ≡ instructions_of list
