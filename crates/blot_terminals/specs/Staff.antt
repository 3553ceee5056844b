-- The operators of a day, each with a seat.
use Rattle.std.specs.Prelude.{◌≡◌, ◌+◌, ℕ, List, [], ◌++◌, Option, None, Some, IfSome, length, All}
use Rattle.std.specs.Map.{set_value}
use Rattle.indexmap.specs.IndexMap.{insert_entry}
use Rattle.blot_types.specs.Keys.{same_text}
use Rattle.blot_desk.specs.declared.receipt.Receipt.{Receipt}
use Rattle.blot_operator.specs.Seats.{Named}

-- the seats that nobody has yet, and what stands under the name of each operator that came: the seat, where the operator isn't on
pub record Staff : Type 0 where
  pub spare : List (List Receipt)
  pub named : List (List ℕ × Option Named)

-- the seat that stands under a name, where it is in, is that operator's
abbrev pub IsOwnSeat : List ℕ × Option Named → Type 0
IsOwnSeat entry = IfSome entry.1 (λ seat. seat.name ≡ entry.0)

-- each seat that is in stands under its own operator's name
abbrev pub AreOwnSeats : List (List ℕ × Option Named) → Type 0
AreOwnSeats named = All IsOwnSeat named

-- the seat of an operator who comes for the first time: it has no receipts
abbrev pub first_seat : List ℕ → Named
first_seat name = record { name = name; receipts = [] }

-- a seat is an operator's, by what stands under the name
abbrev pub IsSeatOf : List ℕ → Option (Option Named) → Named → Type 0
IsSeatOf name (Some (Some own)) seat = seat ≡ own
IsSeatOf name (Some None) seat = ⊥
IsSeatOf name None seat = seat ≡ first_seat name

-- what the names leave where a seat that was in is taken out; else they stay as they were
abbrev pub Leaves : List ℕ → Option (Option Named) → List (List ℕ × Option Named) → List (List ℕ × Option Named) → Type 0
Leaves name (Some (Some own)) before after = after ≡ set_value (same_text name) before None
Leaves name (Some None) before after = after ≡ before
Leaves name None before after = after ≡ before

-- an operator comes for the first time, and is on: one of the seats that nobody had is handed out
pub record Comes (name : List ℕ) (before after : Staff) : Type 0 where
  pub named : after.named ≡ insert_entry same_text before.named name None
  pub spare : length before.spare ≡ length after.spare + 1

-- the operators when the seat of one was handed out, by what stood under the name
abbrev pub IsOn : List ℕ → Option (Option Named) → Staff → Staff → Type 0
IsOn name (Some found) before after = after ≡ record { spare = before.spare; named = set_value (same_text name) before.named None }
IsOn name None before after = Comes name before after

-- the operators when this seat came back, and all else is as it was
abbrev pub with_seat : Named → Staff → Staff
with_seat seat staff = record { spare = staff.spare; named = set_value (same_text seat.name) staff.named (Some seat) }

-- some seats, and more behind them
pub record Grows (before after : List (List Receipt)) : Type 0 where
  pub more : List (List Receipt)
  pub grown : after ≡ before ++ more
