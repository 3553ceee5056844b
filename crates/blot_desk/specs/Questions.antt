-- What a question is answered, from what a desk holds.
use Rattle.std.specs.Prelude.{◌≡◌, ℕ, ◌+◌, List, [], ◌∷◌, find, map, reverse, take, Option, Some, None}
use Rattle.std.specs.List.{cons_option}
use Rattle.std.specs.Option.{option_map_or}
use Rattle.blot_types.specs.declared.{command.Command.Command, command.Entry.Entry}
use Rattle.blot_types.specs.declared.command.Command.TheVariants as commands
use Rattle.blot_types.specs.Legal.{refusal_of}
use Rattle.blot_command.specs.declared.inverse.Inverse.{Inverse}
use Rattle.blot_command.specs.declared.inverse.Inverse.TheVariants.{Number, Taken}
use Rattle.blot_command.specs.Book.{has_number}
use Rattle.blot_command.specs.Questions.{allocation_of, execution_of}
use Rattle.blot_undo.specs.declared.step.Done.{Done}
use Rattle.blot_desk.specs.declared.{event.Event.Event, event.Event.TheVariants.Submit, event.Recorded.Recorded, event.Reply.Reply, event.Reply.TheVariants.Refused, question.CommandKey.CommandKey, question.Found.Found, question.RefusalRow.RefusalRow, question.StepRow.StepRow, question.Question.Question}
use Rattle.blot_desk.specs.declared.question.CommandKey.TheVariants.{Trade, Correct, Bust, AllocNew, AllocReplace, AllocCancel, Withdraw}
use Rattle.blot_desk.specs.declared.question.Found.TheVariants as found
use Rattle.blot_desk.specs.declared.question.Question.TheVariants as questions
use Rattle.blot_desk.specs.declared.question.StepRow.TheVariants as steps
use Rattle.blot_desk.specs.Desk.{DeskBook, IsRun, DeskState}

-- ---- done steps

-- a done step: a withdrawal with the number that it took out, an entry that is live, or the number of one that a later step withdrew
abbrev pub row_by : List Entry → ℕ → Inverse → StepRow
row_by list number (Taken entry) = steps.Withdraw number entry.number
row_by list number (Number own) = option_map_or steps.Entry (find (has_number own) list) (steps.Withdrawn own)

abbrev pub step_row : List Entry → Done Inverse → StepRow
step_row list step = row_by list step.number step.inverse

-- so many of the newest done steps, the newest first
abbrev pub newest_steps : ℕ → DeskBook → List StepRow
newest_steps count book = map (step_row book.list) (take count book.done)

-- ---- refused commands

-- a command by its kind and its own key
abbrev pub key_of : Command → CommandKey
key_of (commands.Trade trade) = Trade trade.key
key_of (commands.Correct correct) = Correct correct.key
key_of (commands.Bust bust) = Bust bust.key
key_of (commands.AllocNew new) = AllocNew new.key
key_of (commands.AllocReplace replace) = AllocReplace replace.key
key_of (commands.AllocCancel cancel) = AllocCancel cancel.key
key_of (commands.Withdraw number) = Withdraw number

-- an event at a place, if it is a command that was refused
abbrev pub refusal_row : ℕ → Event → Reply → Option RefusalRow
refusal_row place (Submit command) (Refused reason) = Some (record { place = place; command = key_of command; reason = reason })
refusal_row place event reply = None

-- the refused commands of a history whose first event stands at a place
abbrev pub refusals_from : ℕ → List Recorded → List RefusalRow
refusals_from place [] = []
refusals_from place (recorded ∷ later) = cons_option (refusal_row place recorded.event recorded.reply) (refusals_from (place + 1) later)

-- so many of the newest refused commands, the newest first; the first event of a history is at place 1
abbrev pub newest_refusals : ℕ → List Recorded → List RefusalRow
newest_refusals count history = take count (reverse (refusals_from 1 history))

-- ---- questions

-- what a question is answered
abbrev pub found_of : DeskState → Question → Found
found_of desk (questions.Entry number) = found.Entry (find (has_number number) desk.book.list)
found_of desk (questions.Execution key) = found.Execution key (execution_of desk.book.list key)
found_of desk (questions.Allocation key) = found.Allocation key (allocation_of desk.book.list key)
found_of desk (questions.Needs number) = found.Needs (refusal_of desk.book.list (commands.Withdraw number))
found_of desk (questions.Steps count) = found.Steps (newest_steps count desk.book)
found_of desk (questions.Refusals count) = found.Refusals (newest_refusals count desk.history)

-- an answer is that of what a desk held after a run of some events
pub record IsFound (question : Question) (answer : Found) : Type 0 where
  pub desk : DeskState
  pub run : IsRun desk
  pub found_is : answer ≡ found_of desk question
