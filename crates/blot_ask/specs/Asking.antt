-- A conversation of a client: a name is said first, and then each line is asked and answered before the next. Source: this project's rule.
use Rattle.std.specs.Prelude.{◌≡◌, ℕ, Bool, true, false, List, [], ◌∷◌, ◌++◌, map, codes, Option, Some, IfSome, if◌then◌else◌, ⊤, flat_map}
use Rattle.std.specs.List.{list_all}
use Rattle.std.specs.Io.KnownBytes.{Appends, Consumes, IsAtEnd, Keeps}
use Rattle.blot_stream.specs.Texts.{lines_of}
use Rattle.blot_ask.specs.declared.fault.AskFault.{AskFault}
use Rattle.blot_ask.specs.declared.fault.AskFault.TheVariants.{Taken, Full, Strange}
use Rattle.blot_ask.specs.Answers.{is_answer, is_complete, is_none}
use Rattle.blot_ask.specs.Lines.{is_blank, text_of, with_end}
use Rattle.blot_ask.specs.Typed.{typed}

-- the line that says a name; a server that lets it in answers by the same line
abbrev pub naming : List ℕ → List ℕ
naming name = codes "operator" ++ 9 ∷ name

-- a line that is read, and the lines of its answer
pub record Turn : Type 0 where
  pub line : List ℕ
  pub answer : List (List ℕ)

-- a line is answered; a blank one is passed over
abbrev pub is_turn : Turn → Bool
is_turn turn = if is_blank turn.line then is_none turn.answer else is_answer (typed turn.line) turn.answer

-- what is sent of a line, of a turn, and of all lines of an input; and behind a name
abbrev pub request_of : List ℕ → List ℕ
request_of line = if is_blank line then [] else with_end (typed line)

abbrev pub sent_of : Turn → List ℕ
sent_of turn = request_of turn.line

abbrev pub requests_of : List ℕ → List ℕ
requests_of bytes = flat_map request_of (lines_of bytes)

abbrev pub sent_by : List ℕ → List ℕ → List ℕ
sent_by name bytes = with_end (naming name) ++ requests_of bytes

-- what comes back
abbrev pub came_of : Turn → List ℕ
came_of turn = text_of turn.answer

-- the prompt before each line, where one is shown, and the LF behind the last
abbrev pub prompt_by : Bool → List ℕ
prompt_by prompts = if prompts then codes "blotter> " else []

abbrev pub close_by : Bool → List ℕ
close_by prompts = if prompts then codes "\n" else []

-- what is shown of a turn, and at the end
abbrev pub shown_of : Bool → Turn → List ℕ
shown_of prompts turn = prompt_by prompts ++ text_of turn.answer

abbrev pub shown_last : Bool → List ℕ
shown_last prompts = prompt_by prompts ++ close_by prompts

-- lines are taken of an input, where its bytes are known, and leave the rest of them
abbrev pub TakesLines : Option (List ℕ) → Option (List ℕ) → List (List ℕ) → Type 0
TakesLines before after lines = IfSome before (λ bytes. (rest : List ℕ) × (after ≡ Some rest) × (lines_of bytes ≡ lines ++ lines_of rest))

-- some turns of a conversation: what they take of the input, what they send, what comes back, and what is told
pub record Talks (prompts : Bool) (turns : List Turn) (input input_after sent sent_after came came_after told told_after : Option (List ℕ)) : Type 0 where
  pub taken : TakesLines input input_after (map (λ turn. turn.line) turns)
  pub answered : list_all is_turn turns ≡ true
  pub asks : Appends sent sent_after (flat_map sent_of turns)
  pub answers : Consumes came came_after (flat_map came_of turns)
  pub shows : Appends told told_after (flat_map (shown_of prompts) turns)

-- a conversation comes to the end of its input: nothing more is sent, and nothing comes
pub record Ends (prompts : Bool) (input input_after sent sent_after came came_after told told_after : Option (List ℕ)) : Type 0 where
  pub over : IsAtEnd input
  pub left : IsAtEnd input_after
  pub asks : Keeps sent sent_after
  pub answers : Consumes came came_after []
  pub shows : Appends told told_after (shown_last prompts)

-- a turn more, or the end
abbrev pub TalksOn : Bool → Bool → Option (List ℕ) → Option (List ℕ) → Option (List ℕ) → Option (List ℕ) → Option (List ℕ) → Option (List ℕ) → Option (List ℕ) → Option (List ℕ) → Type 0
TalksOn true prompts input input_after sent sent_after came came_after told told_after =
    (turn : Turn) × Talks prompts (turn ∷ []) input input_after sent sent_after came came_after told told_after
TalksOn false prompts input input_after sent sent_after came came_after told told_after =
    Ends prompts input input_after sent sent_after came came_after told told_after

-- a line of an answer is told, and whether the answer is complete with it
pub record TellsLine (asked : List ℕ) (is_first is_last : Bool) (came came_after told told_after : Option (List ℕ)) : Type 0 where
  pub line : List ℕ
  pub last : is_last ≡ is_complete asked is_first line
  pub comes : Consumes came came_after (with_end line)
  pub tells : Appends told told_after (with_end line)

-- an answer is told
pub record TellsAnswer (asked : List ℕ) (came came_after told told_after : Option (List ℕ)) : Type 0 where
  pub answer : List (List ℕ)
  pub whole : is_answer asked answer ≡ true
  pub comes : Consumes came came_after (text_of answer)
  pub tells : Appends told told_after (text_of answer)

-- a conversation of which the input is over: each of its lines was asked and answered, and all that came back is told
pub record IsTalked (prompts : Bool) (input sent sent_after came came_after told told_after : Option (List ℕ)) : Type 0 where
  pub turns : List Turn
  pub lines : IfSome input (λ bytes. map (λ turn. turn.line) turns ≡ lines_of bytes)
  pub answered : list_all is_turn turns ≡ true
  pub asks : Appends sent sent_after (flat_map sent_of turns)
  pub answers : Consumes came came_after (flat_map came_of turns)
  pub shows : Appends told told_after (flat_map (shown_of prompts) turns ++ shown_last prompts)

-- the same behind a name that was let in. What may have come behind the last answer is dropped
pub record IsAsked (name : List ℕ) (prompts : Bool) (input sent sent_after came came_after told told_after : Option (List ℕ)) : Type 0 where
  pub turns : List Turn
  pub lines : IfSome input (λ bytes. map (λ turn. turn.line) turns ≡ lines_of bytes)
  pub answered : list_all is_turn turns ≡ true
  pub asks : Appends sent sent_after (with_end (naming name) ++ flat_map sent_of turns)
  pub dropped : List ℕ
  pub answers : Consumes came came_after ((with_end (naming name) ++ flat_map came_of turns) ++ dropped)
  pub shows : Appends told told_after (flat_map (shown_of prompts) turns ++ shown_last prompts)

-- a name is said, and answered by this line
abbrev pub IsAnsweredBy : List ℕ → List ℕ → Option (List ℕ) → Option (List ℕ) → Option (List ℕ) → Option (List ℕ) → Type 0
IsAnsweredBy answer name sent sent_after came came_after = Appends sent sent_after (with_end (naming name)) × Consumes came came_after (with_end answer)

-- the same, where more may have come
abbrev pub IsTurnedAwayBy : List ℕ → List ℕ → Option (List ℕ) → Option (List ℕ) → Option (List ℕ) → Option (List ℕ) → Type 0
IsTurnedAwayBy answer name sent sent_after came came_after =
    Appends sent sent_after (with_end (naming name)) × ((more : List ℕ) × Consumes came came_after (with_end answer ++ more))

-- a fault that a conversation meets behind the name
abbrev pub IsLate : AskFault → Type 0
IsLate Taken = ⊥
IsLate Full = ⊥
IsLate Strange = ⊥
IsLate fault = ⊤
