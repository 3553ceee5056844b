-- What an operator is told at a desk of one's own: each line is answered for itself, and its answer is told before the next line
-- is taken. Source: this project's rule.
use Rattle.std.specs.Prelude.{◌≡◌, ℕ, ◌==◌, List, [], ◌++◌, length, fold, Option, Some, None, option_to_list, Result, Ok, Err, if◌then◌else◌}
use Rattle.std.specs.Io.KnownBytes.{Appends}
use Rattle.blot_types.specs.declared.{command.Command.TheVariants.Withdraw, TheConstants.EVENTS_MAX}
use Rattle.blot_desk.specs.declared.{event.Event.Event, event.Reply.Reply}
use Rattle.blot_desk.specs.declared.event.Event.TheVariants.{Submit, AskOrder, AskPosition}
use Rattle.blot_desk.specs.declared.event.Reply.TheVariants as replies
use Rattle.blot_desk.specs.Desk.{DeskState, newest_entry_of, step_of, recorded_of}
use Rattle.blot_desk.specs.Questions.{found_of}
use Rattle.blot_report.specs.Lines.{day_lines_of, order_lines_of, position_lines_of}
use Rattle.blot_console.specs.declared.{answer.Answer.Answer, ask.Ask.Ask, fault.LineFault.LineFault}
use Rattle.blot_console.specs.declared.answer.Answer.TheVariants as answers
use Rattle.blot_console.specs.declared.ask.Ask.TheVariants as asks
use Rattle.blot_console.specs.Answers.{answer_text}
use Rattle.blot_console.specs.Parsing.{parsed}
use Rattle.blot_stream.specs.Texts.{lines_of}
use Rattle.blot_operator.specs.declared.answering.Asked.{Asked}
use Rattle.blot_operator.specs.declared.answering.Asked.TheVariants as asked

-- what a desk holds, and what its operator was told
pub record Conversation : Type 0 where
  pub desk : DeskState
  pub text : List ℕ

-- what an event asks for by a key
abbrev pub asked_by : Event → Asked
asked_by (AskOrder order) = asked.Order order
asked_by (AskPosition account symbol) = asked.Position account symbol
asked_by _ = asked.Nothing

-- a reply as an answer, with the key that was asked for
abbrev pub with_key : Asked → Reply → Answer
with_key (asked.Order order) (replies.Order line) = answers.Order order line
with_key (asked.Position account symbol) (replies.Position line) = answers.Position account symbol line
with_key _ reply = answers.Replied reply

-- a desk that tells an answer
abbrev pub telling : DeskState → Answer → Conversation
telling desk answer = record { desk = desk; text = answer_text answer }

-- an event: where as many are recorded as a day has, that is told; else it is recorded, and its reply is told
abbrev pub told_event : DeskState → Event → Conversation
told_event desk event =
    if length desk.history == EVENTS_MAX then telling desk answers.Full
    else telling (recorded_of desk event) (with_key (asked_by event) (step_of desk.book event).reply)

-- the newest entry is withdrawn; where there is none, that is told, and it is no event
abbrev pub told_mine : DeskState → Option ℕ → Conversation
told_mine desk (Some newest) = told_event desk (Submit (Withdraw newest))
told_mine desk None = telling desk answers.Nothing

-- what a line asks, or its fault: only an event changes what the desk holds
abbrev pub told_ask : DeskState → Result Ask LineFault → Conversation
told_ask desk (Ok (asks.Step event)) = told_event desk event
told_ask desk (Ok (asks.Report day)) = telling desk (answers.Report (day_lines_of desk.book.list day))
told_ask desk (Ok asks.Mine) = told_mine desk (newest_entry_of desk.book.list)
told_ask desk (Ok (asks.Look question)) = telling desk (answers.Found (found_of desk question))
told_ask desk (Ok (asks.Orders peer)) = telling desk (answers.Orders (order_lines_of desk.book.list peer))
told_ask desk (Ok (asks.Positions account)) = telling desk (answers.Positions (position_lines_of desk.book.list account))
told_ask desk (Err fault) = telling desk (answers.Bad fault)

-- a line
unfoldable pub answer_to : DeskState → List ℕ → Conversation
answer_to desk line = told_ask desk (parsed line)

-- one more line
abbrev pub told_on : Conversation → List ℕ → Conversation
told_on told line = record { desk = (answer_to told.desk line).desk; text = told.text ++ (answer_to told.desk line).text }

-- lines, in their order
abbrev pub told_over : DeskState → List (List ℕ) → Conversation
told_over desk lines = fold told_on (record { desk = desk; text = [] }) lines

-- what its operator is told of an input
abbrev pub answers_of : DeskState → List ℕ → List ℕ
answers_of desk bytes = (told_over desk (lines_of bytes)).text

-- a desk that stopped among lines: so many are answered, at most one more is taken, and a front of its answer is written
pub record StoppedIn (start : DeskState) (lines : List (List ℕ)) (held : DeskState) (before after : Option (List ℕ)) : Type 0 where
  pub answered : List (List ℕ)
  pub taken : Option (List ℕ)
  pub left : List (List ℕ)
  pub lines_are : answered ++ (option_to_list taken ++ left) ≡ lines
  pub desk : held ≡ (told_over start (answered ++ option_to_list taken)).desk
  pub front : List ℕ
  pub back : List ℕ
  pub written : Appends before after ((told_over start answered).text ++ front)
  pub told : ((told_over start answered).text ++ front) ++ back ≡ (told_over start (answered ++ option_to_list taken)).text
