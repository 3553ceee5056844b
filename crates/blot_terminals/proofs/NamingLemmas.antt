-- What is told until a connection has a name.
use Rattle.std.proofs.Common.{◌≡◌, ℕ, List, [], ◌++◌, Option, Some, Result, Ok, Err, ap, subst, sym, ◌∙◌, OnOk}
use Rattle.std.specs.Io.KnownBytes.{Appends}
use Rattle.std.proofs.KnownBytes.{Appends-nil, Appends-trans}
use Rattle.blot_console.specs.declared.{fault.LineFault.LineFault, naming.Naming.Naming}
use Rattle.blot_console.specs.declared.naming.Naming.TheVariants as namings
use Rattle.blot_console.specs.Naming.{naming_text}
use Rattle.blot_operator.specs.Seats.{Named}
use Rattle.blot_terminals.specs.Naming.{IsNaming, Tells, TellsName}

-- what holds of an Ok
pub ok-is : {T E P : Type 0} (result : Result T E) (value : T) → result ≡ Ok value → OnOk result P → P
ok-is {P = P} result value is holds = subst (λ result. OnOk result P) is holds

pub tells-none : (before : Option (List ℕ)) → Tells before before
tells-none before = record { front = []; written = Appends-nil before }

pub tells-on : (before between after : Option (List ℕ)) (text : List ℕ) → Tells before between → Appends between after text → Tells before after
tells-on before between after text told more = record { front = told.front ++ text; written = Appends-trans before between after told.front text told.written more }

-- a seat is given only where its name is told
told-name : (parsed : Result (List ℕ) LineFault) (naming : Naming) (given : Option Named) (seat : Named) → given ≡ Some seat → IsNaming parsed naming given
    → naming ≡ namings.Named seat.name
told-name (Err fault) naming given seat is holds = absurd cc
told-name (Ok name) (namings.Named told) given seat is holds =
    let its : holds.1.seat ≡ seat = cc in
    ap namings.Named (holds.0 ∙ sym holds.1.of_name ∙ ap (λ (seat : Named). seat.name) its)
told-name (Ok name) namings.Taken given seat is holds = absurd cc
told-name (Ok name) namings.Full given seat is holds = absurd cc
told-name (Ok name) (namings.Bad fault) given seat is holds = absurd holds

pub tells-name : (before between after : Option (List ℕ)) (parsed : Result (List ℕ) LineFault) (naming : Naming) (given : Option Named) (seat : Named) → given ≡ Some seat
    → IsNaming parsed naming given → Tells before between → Appends between after (naming_text naming) → TellsName seat.name before after
tells-name before between after parsed naming given seat is holds told more =
    let named = ap naming_text (told-name parsed naming given seat is holds) in
    record {
      front = told.front;
      written = Appends-trans before between after told.front (naming_text (namings.Named seat.name)) told.written (subst (Appends between after) named more);
    }
