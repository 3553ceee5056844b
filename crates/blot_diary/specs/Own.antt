-- What a journal's own frames say, by the first field of each tag. Source: this project's rule.
use Rattle.std.specs.Prelude.{ℕ, ℤ, ◌+◌, ◌&&◌, nat_le, List, Option, Some, None, option_map, Result, Ok, if◌then◌else◌, option_and_then}
use Rattle.blot_time.specs.Day.{day_of}
use Rattle.blot_time.specs.declared.fault.TimeFault.{TimeFault}
use Rattle.blot_tag.specs.Bytes.{is_number, number_of}
use Rattle.blot_tag.specs.Fields.{Item}
use Rattle.blot_fields.specs.First.{first_text, first_value}
use Rattle.blot_fields.specs.declared.TheConstants.{SEQUENCE_MAX}
use Rattle.blot_desk.specs.declared.event.Event.{Event}
use Rattle.blot_desk.specs.Keeping.{is_ask}
use Rattle.blot_console.specs.declared.{ask.Ask.Ask, ask.Ask.TheVariants.Step, fault.LineFault.LineFault}
use Rattle.blot_console.specs.Parsing.{parsed}
use Rattle.blot_diary.specs.declared.kept.Content.{Content}
use Rattle.blot_diary.specs.declared.kept.Content.TheVariants as contents

-- ---- UD

-- a day, if it can be read; what the field TradeDate says
abbrev pub beginning_by : Option (Result ℤ TimeFault) → Content
beginning_by (Some (Ok day)) = contents.Beginning day
beginning_by _ = contents.Unclear

abbrev pub beginning_said : List Item → Content
beginning_said items = beginning_by (option_map day_of (first_value 75 items))

-- ---- UR

-- that there is a message; the field RawData has it
abbrev pub wrapped_by : Option (List ℕ) → Content
wrapped_by (Some message) = contents.Wrapped
wrapped_by None = contents.Unclear

abbrev pub wrapped_said : List Item → Content
wrapped_said items = wrapped_by (first_value 96 items)

-- ---- UN

-- digits of a number from 1 to one more than the largest of a message
unfoldable pub next_form : List ℕ → Option ℕ
next_form value =
    if is_number value && nat_le 1 (number_of value) && nat_le (number_of value) (SEQUENCE_MAX + 1) then Some (number_of value) else None

-- the number of the first field of a tag
abbrev pub number_in : ℕ → List Item → Option ℕ
number_in tag items = option_and_then next_form (first_value tag items)

-- the expected number and the next one, if both can be read; they stand in the fields NextExpectedMsgSeqNum and NewSeqNo
abbrev pub numbers_by : Option ℕ → Option ℕ → Content
numbers_by (Some expected) (Some next) = contents.Numbers (record { expected = expected; next = next })
numbers_by _ _ = contents.Unclear

abbrev pub numbers_said : List Item → Content
numbers_said items = numbers_by (number_in 789 items) (number_in 36 items)

-- ---- UL

-- the event that a line asks for, unless it only asks
abbrev pub event_asked : Result Ask LineFault → Option Event
event_asked (Ok (Step event)) = if is_ask event then None else Some event
event_asked ask = None

-- the same of a line of bytes
abbrev pub event_of_line : List ℕ → Option Event
event_of_line line = event_asked (parsed line)

-- an operator's event, if there are both; the operator stands in the field SenderSubID, and the line in Text
abbrev pub asked_by : Option (List ℕ) → Option Event → Content
asked_by (Some operator) (Some event) = contents.Asked operator event
asked_by _ _ = contents.Unclear

abbrev pub asked_said : List Item → Content
asked_said items = asked_by (first_text 50 items) (option_and_then event_of_line (first_value 58 items))
