-- What a desk does: one event on the book, and a run of events from the empty book.
use Rattle.std.specs.Prelude.{◌≡◌, ℕ, zero, suc, ◌+◌, ◌≤◌, ◌==◌, List, [], ◌∷◌, ◌++◌, length, map, fold, Option, Some, None, if◌then◌else◌, option_map, unwrap_or}
use Rattle.std.specs.List.{last_or}
use Rattle.blot_types.specs.declared.{command.Command.Command, command.Entry.Entry, refused.Refused.Refused as Reason, TheConstants.EVENTS_MAX}
use Rattle.blot_types.specs.declared.refused.Refused.TheVariants.{NothingToUndo, Moved, NothingToRedo}
use Rattle.blot_types.specs.Legal.{refusal_of}
use Rattle.blot_types.specs.Order.{order_of}
use Rattle.blot_types.specs.Position.{position_of}
use Rattle.blot_command.specs.declared.inverse.Inverse.{Inverse}
use Rattle.blot_command.specs.Book.{Shown}
use Rattle.blot_command.specs.Meanings.{command_meaning}
use Rattle.blot_undo.specs.Laws.{GoesBack}
use Rattle.blot_undo.specs.Book.{Book, Stack, book_of, apply_of, undo_of as undone_book, redo_of as redone_book, newest_done, newest_undone}
use Rattle.blot_desk.specs.declared.{event.Event.Event, event.Recorded.Recorded, event.Reply.Reply}
use Rattle.blot_desk.specs.declared.event.Event.TheVariants.{Submit, Undo, Redo, AskOrder, AskPosition}
use Rattle.blot_desk.specs.declared.event.Reply.TheVariants.{Accepted, Refused, Undone, Redone, Order, Position}

-- the book of a desk: the live list, the done and the undone steps, newest first, and the next number
abbrev pub DeskBook : Type 0
DeskBook = Book (List Entry) Command Inverse

-- that of a desk's steps
abbrev pub desk_book : Stack Shown Command Inverse → DeskBook
desk_book steps = book_of command_meaning steps

-- the number of the newest entry of a live list: its last, which has the greatest number
abbrev pub newest_entry_of : List Entry → Option ℕ
newest_entry_of list = option_map (λ entry. entry.number) (last_or None list)

-- the empty book: the first number is 1
abbrev pub empty_book : DeskBook
empty_book = record { list = []; done = []; undone = []; next = 1 }

-- what an event comes to: the book after it, and the reply
pub record Outcome : Type 0 where
  pub book : DeskBook
  pub reply : Reply

-- the book of a desk's steps, with a reply
abbrev pub outcome_in : Stack Shown Command Inverse → Reply → Outcome
outcome_in steps reply = record { book = desk_book steps; reply = reply }

-- a refused event leaves the book as it is
abbrev pub refused_by : DeskBook → Reason → Outcome
refused_by book reason = record { book = book; reply = Refused reason }

-- a command, by the list's refusal of it: done under the next number where there is none
abbrev pub submit_by : DeskBook → Command → Option Reason → Outcome
submit_by book command None = record { book = apply_of command_meaning book command; reply = Accepted book.next }
submit_by book command (Some reason) = refused_by book reason

-- a command: done where the list accepts it
abbrev pub submit_of : DeskBook → Command → Outcome
submit_of book command = submit_by book command (refusal_of book.list command)

-- undo, by the number of the newest done step: only where it is the one that the caller believes to be newest
abbrev pub undo_by : DeskBook → ℕ → Option ℕ → Outcome
undo_by book newest None = refused_by book NothingToUndo
undo_by book newest (Some number) =
    if number == newest then record { book = undone_book command_meaning book; reply = Undone number } else refused_by book (Moved number)

-- undo of the newest done step
abbrev pub undo_of : DeskBook → ℕ → Outcome
undo_of book newest = undo_by book newest (newest_done book.done)

-- redo, by the number of the step that was undone last, which it keeps
abbrev pub redo_by : DeskBook → Option ℕ → Outcome
redo_by book None = refused_by book NothingToRedo
redo_by book (Some number) = record { book = redone_book command_meaning book; reply = Redone number }

-- redo of the step that was undone last
abbrev pub redo_of : DeskBook → Outcome
redo_of book = redo_by book (newest_undone book.undone)

-- one event; to ask changes nothing
abbrev pub step_of : DeskBook → Event → Outcome
step_of book (Submit command) = submit_of book command
step_of book (Undo newest) = undo_of book newest
step_of book Redo = redo_of book
step_of book (AskOrder order) = record { book = book; reply = Order (order_of book.list order) }
step_of book (AskPosition account symbol) = record { book = book; reply = Position (position_of book.list account symbol) }

-- ---- undos and redos, one after the other

-- the book after an undo that names its newest done step; where no step is done, the undo is refused
abbrev pub undone_once : DeskBook → DeskBook
undone_once book = (step_of book (Undo (unwrap_or (newest_done book.done) 0))).book

-- the book after a count of such undos, and after a count of redos
abbrev pub after_undos : ℕ → DeskBook → DeskBook
after_undos zero book = book
after_undos (suc count) book = undone_once (after_undos count book)

abbrev pub after_redos : ℕ → DeskBook → DeskBook
after_redos zero book = book
after_redos (suc count) book = (step_of (after_redos count book) Redo).book

-- any count of undos leads back to the list that stood so many done steps before; these steps are then undone
abbrev pub UndosGoBack : DeskBook → Type 0
UndosGoBack book = (count : ℕ) → count ≤ length book.done → GoesBack command_meaning count book (after_undos count book)

-- and as many redos after them lead to the book again
abbrev pub RedosReturn : DeskBook → Type 0
RedosReturn book = (count : ℕ) → count ≤ length book.done → after_redos count (after_undos count book) ≡ book

-- ---- a run

-- what a desk holds: the book, and the recorded events with their replies
pub record DeskState : Type 0 where
  pub book : DeskBook
  pub history : List Recorded

-- an empty book without history
abbrev pub empty_desk : DeskState
empty_desk = record { book = empty_book; history = [] }

-- a history with an event and the reply to it at its end
abbrev pub with_recorded : Event → Reply → List Recorded → List Recorded
with_recorded event reply history = history ++ record { event = event; reply = reply } ∷ []

-- what a desk holds after an event: its book, and the history with the event and the reply to it
abbrev pub recorded_of : DeskState → Event → DeskState
recorded_of desk event = record {
  book = (step_of desk.book event).book;
  history = with_recorded event (step_of desk.book event).reply desk.history;
}

-- the run of events: what a desk holds after them, from the empty book on
abbrev pub run_of : List Event → DeskState
run_of events = fold recorded_of empty_desk events

-- the reply to an event, after a run of some events
pub record IsReply (event : Event) (reply : Reply) : Type 0 where
  pub earlier : List Event
  pub reply_is : reply ≡ (step_of (run_of earlier).book event).reply

-- the recorded events
abbrev pub events_of : List Recorded → List Event
events_of history = map (λ recorded. recorded.event) history

-- the live list that their run leads to
abbrev pub list_after : List Recorded → List Entry
list_after history = (run_of (events_of history)).book.list

-- the replies to the events
abbrev pub replies_of : List Recorded → List Reply
replies_of history = map (λ recorded. recorded.reply) history

-- what a desk holds is the run of its events
abbrev pub IsRun : DeskState → Type 0
IsRun desk = run_of (events_of desk.history) ≡ desk

-- what a desk keeps: its book and replies are the run of its events, of which there are at most EVENTS_MAX; no more
-- numbers are given than there are events
pub record IsDeskState (book : DeskBook) (history : List Recorded) : Type 0 where
  pub run : IsRun (record { book = book; history = history })
  pub few : length history ≤ EVENTS_MAX
  pub next : book.next ≤ length history + 1
