-- What commands mean on the book: those that are entries, by their kind, and those of any kind.
use Rattle.std.specs.Prelude.{◌≡◌, ℕ, true, List, Option, Some, is_none, option_map, option_and_then}
use Rattle.blot_types.specs.declared.{command.Command.Command, command.Entry.Entry}
use Rattle.blot_types.specs.Legal.{is_book, entry_refusal, refusal_of, without}
use Rattle.blot_types.specs.Refusals.{withdrawn_by}
use Rattle.blot_command.specs.declared.{fault.ApplyFault.ApplyFault, inverse.Inverse.Inverse}
use Rattle.blot_command.specs.declared.fault.ApplyFault.TheVariants.{Refused, NoMemory}
use Rattle.blot_command.specs.declared.inverse.Inverse.TheVariants.{Number, Taken}
use Rattle.blot_command.specs.Book.{Shown, numbers_of, entered, after, inverse_of, before, command_at, command_of}
use Rattle.blot_command.specs.Undoable.{Meaning}
use Rattle.blot_command.specs.Withdrawing.{Keeps, StaysBut}

-- the meaning of a command on the book
abbrev pub BookMeaning : Type 0 → Type 0 → Type 1
BookMeaning C I = Meaning Shown (List Entry) C I ApplyFault

-- what a kind of command that is an entry means on the book, seen as a command by `embed` and back by `project`: its inverse is its
-- number, and needs nothing but the list. What is kept beside the list stays as it was
abbrev pub meaning_by : {C : Type 0} → (C → Command) → (Command → Option C) → BookMeaning C ℕ
meaning_by embed project = record {
  list_of = λ book. book.list;
  spare = λ book. numbers_of book.kept;
  kept = λ book number inverse. Unit {0};
  stays = λ inverse old new. new.kept ≡ old.kept;
  is_valid = is_book;
  numbers = numbers_of;
  refused = λ list command. option_map Refused (entry_refusal list (embed command));
  after = λ list command number. entered list (embed command) number;
  inverse_of = λ list command number. number;
  before = λ list number. without number list;
  command_of = λ list number. option_and_then project (command_at list number);
  takes_memory = λ command. true;
  no_memory = NoMemory;
}

-- any command as an entry: a Withdraw is refused
abbrev pub entry_meaning : BookMeaning Command ℕ
entry_meaning = meaning_by (λ command. command) (λ command. Some command)

-- what an inverse needs beside the list: a number nothing, an entry that was taken out its slot
abbrev pub KeepsFor : Shown → ℕ → Inverse → Type 0
KeepsFor book number (Number own) = Unit {0}
KeepsFor book number (Taken entry) = Keeps book number entry

-- what is kept stays as it was; where an entry is taken out or put back, all but that entry does
abbrev pub StaysFor : Inverse → Shown → Shown → Type 0
StaysFor (Number own) old new = new.kept ≡ old.kept
StaysFor (Taken entry) old new = StaysBut entry old new

-- what a command of any kind means on the book
abbrev pub command_meaning : BookMeaning Command Inverse
command_meaning = record {
  list_of = λ book. book.list;
  spare = λ book. numbers_of book.kept;
  kept = KeepsFor;
  stays = StaysFor;
  is_valid = is_book;
  numbers = numbers_of;
  refused = λ list command. option_map Refused (refusal_of list command);
  after = after;
  inverse_of = inverse_of;
  before = before;
  command_of = command_of;
  takes_memory = λ command. is_none (withdrawn_by command);
  no_memory = NoMemory;
}
