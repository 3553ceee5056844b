-- What an operator's connection is answered until it has a name.
use Rattle.std.specs.Prelude.{◌≡◌, ℕ, List, ◌++◌, Option, None, Some, Result, Ok, Err}
use Rattle.std.specs.Io.KnownBytes.{Appends}
use Rattle.blot_console.specs.declared.{fault.LineFault.LineFault, naming.Naming.Naming}
use Rattle.blot_console.specs.declared.naming.Naming.TheVariants as namings
use Rattle.blot_console.specs.Naming.{naming_text}
use Rattle.blot_operator.specs.Seats.{Named}

-- a seat is given, and it is this operator's
pub record IsGiven (name : List ℕ) (given : Option Named) : Type 0 where
  pub seat : Named
  pub given_is : given ≡ Some seat
  pub of_name : seat.name ≡ name

-- the answer to a line, by the name that it gives, and the seat: it is given exactly where the name is told, and is of that name
abbrev pub IsNaming : Result (List ℕ) LineFault → Naming → Option Named → Type 0
IsNaming (Err fault) naming seat = (naming ≡ namings.Bad fault) × (seat ≡ None)
IsNaming (Ok name) (namings.Named told) seat = (told ≡ name) × IsGiven name seat
IsNaming (Ok name) namings.Taken seat = seat ≡ None
IsNaming (Ok name) namings.Full seat = seat ≡ None
IsNaming (Ok name) (namings.Bad fault) seat = ⊥

-- something is told
pub record Tells (before after : Option (List ℕ)) : Type 0 where
  pub front : List ℕ
  pub written : Appends before after front

-- the last that is told is the name
pub record TellsName (name : List ℕ) (before after : Option (List ℕ)) : Type 0 where
  pub front : List ℕ
  pub written : Appends before after (front ++ naming_text (namings.Named name))
