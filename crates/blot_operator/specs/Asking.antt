-- The line by which an operator's event is kept: the one that asks for it, or the withdrawal that `mine` came to. Source: this project's rule.
use Rattle.std.specs.Prelude.{◌≡◌, ◌⊎◌, ℕ, List, ◌++◌, Ok, codes}
use Rattle.blot_types.specs.declared.command.Command.TheVariants.{Withdraw}
use Rattle.blot_desk.specs.declared.{event.Event.Event, event.Event.TheVariants.Submit}
use Rattle.blot_console.specs.declared.ask.Ask.TheVariants.{Step}
use Rattle.blot_console.specs.Parsing.{parsed}
use Rattle.blot_console.specs.Replies.{number_text}

-- the line that withdraws the entry of a number
abbrev pub withdrawal_text : ℕ → List ℕ
withdrawal_text number = codes "withdraw" ++ number_text number

-- an event is the withdrawal that a line spells
pub record IsWithdrawal (line : List ℕ) (event : Event) : Type 0 where
  pub number : ℕ
  pub event_is : event ≡ Submit (Withdraw number)
  pub line_is : line ≡ withdrawal_text number

-- a line asks for an event: it is parsed so, or is the text of its withdrawal
abbrev pub AsksFor : List ℕ → Event → Type 0
AsksFor line event = (parsed line ≡ Ok (Step event)) ⊎ IsWithdrawal line event
