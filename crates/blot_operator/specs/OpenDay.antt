-- Which lines an open day hears: none behind the first that closes it. Every other day hears all lines. Source: this project's rule.
use Rattle.std.specs.Prelude.{◌≡◌, ℕ, Bool, true, false, List, [], ◌∷◌, IfSome, Option, Some, None, Result, Ok, ◌⊎◌, if◌then◌else◌}
use Rattle.std.specs.List.{list_any}
use Rattle.std.specs.Io.KnownBytes.{IsAtEnd}
use Rattle.blot_console.specs.declared.{answer.Answer.Answer, answer.Answer.TheVariants.Closed, fault.LineFault.LineFault, open_day.DayAsk.DayAsk, open_day.DayAsk.TheVariants.Close}
use Rattle.blot_console.specs.OpenDay.{day_parsed}
use Rattle.blot_stream.specs.Texts.{lines_of}

-- whether what a line asks of an open day is that it is closed
abbrev pub is_close : Option (Result DayAsk LineFault) → Bool
is_close (Some (Ok Close)) = true
is_close _ = false

-- whether an answer is that the day is closed
abbrev pub is_closed : Answer → Bool
is_closed Closed = true
is_closed _ = false

-- a line asks something of an open day
abbrev pub AsksDay : Option (Result DayAsk LineFault) → Type 0
AsksDay (Some (Ok ask)) = Unit {0}
AsksDay _ = ⊥

-- whether a line closes an open day
abbrev pub closes : List ℕ → Bool
closes line = is_close (day_parsed line)

-- the lines that an open day hears
abbrev pub heard : List (List ℕ) → List (List ℕ)
heard [] = []
heard (line ∷ lines) = if closes line then line ∷ [] else line ∷ heard lines

-- the same of a day that is open or isn't: what a line asks of it, whether a line closes it, and the lines that it hears
abbrev pub day_ask_by : Bool → List ℕ → Option (Result DayAsk LineFault)
day_ask_by true = day_parsed
day_ask_by false = λ line. None

abbrev pub closes_by : Bool → List ℕ → Bool
closes_by true = closes
closes_by false = λ line. false

abbrev pub heard_by : Bool → List (List ℕ) → List (List ℕ)
heard_by true = heard
heard_by false = λ lines. lines

-- a line of an input closes an open day, where its bytes are known
abbrev pub ClosedOf : Option (List ℕ) → Type 0
ClosedOf known = IfSome known (λ bytes. list_any closes (lines_of bytes) ≡ true)

-- an input is read to its end, or a line of it closes the day
abbrev pub EndsOf : Bool → Option (List ℕ) → Option (List ℕ) → Type 0
EndsOf true known left = IsAtEnd left ⊎ ClosedOf known
EndsOf false known left = IsAtEnd left
