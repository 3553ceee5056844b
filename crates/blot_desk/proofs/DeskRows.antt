-- A desk's day with a withdrawal, computed.
use Rattle.std.proofs.Common.{◌≡◌, ℕ, ◌+◌, ◌*◌, ◌^◌, pos, List, [], ◌∷◌, map, Some, None, true, false, refl}
use Rattle.blot_types.specs.declared.{command.Command.Command, fill.Sign.TheVariants.Buy, keys.ExecKey.ExecKey}
use Rattle.blot_types.specs.declared.command.Command.TheVariants.{Trade, Bust, Withdraw}
use Rattle.blot_types.specs.declared.refused.Refused.TheVariants.{DuplicateExec, NotLive, Moved, NothingToRedo}
use Rattle.blot_command.specs.declared.{inverse.Inverse.Inverse, inverse.Inverse.TheVariants.Number}
use Rattle.blot_command.specs.Book.{Shown}
use Rattle.blot_command.specs.Meanings.{command_meaning}
use Rattle.blot_undo.specs.Book.{Stack, book_of, apply_of, undone_of, undo_in, undo_of as undone_book, redo_in, redo_of as redone_book, past, done_number, newest_done, newest_undone}
use Rattle.blot_desk.specs.declared.{event.Event.Event, event.Recorded.Recorded}
use Rattle.blot_desk.specs.declared.event.Event.TheVariants.{Submit, Undo, Redo, AskOrder}
use Rattle.blot_desk.specs.declared.event.Reply.TheVariants.{Accepted, Refused, Undone, Redone, Order}
use Rattle.blot_desk.specs.Desk.{DeskBook, empty_book, refused_by, submit_by, submit_of, undo_by, undo_of, redo_by, redo_of, step_of, undone_once, after_undos, after_redos, run_of, empty_desk, with_recorded, recorded_of, events_of, list_after, replies_of}
use Rattle.blot_desk.specs.Keeping.{is_ask, kept_events}

abbrev exec : ℕ → ExecKey
exec n = record { peer = 66 ∷ []; id = 69 ∷ n ∷ [] }

abbrev trade : ℕ → Command
trade n = Trade (record {
  key = exec n;
  fill = record {
    order = record { peer = 66 ∷ []; id = 79 ∷ [] };
    account = None;
    symbol = 88 ∷ [];
    sign = Buy;
    size = pos (300 * 10 ^ 6);
    qty = 100 * 10 ^ 6;
    price = pos 1;
    day = pos 0;
  };
})

abbrev bust : ℕ → ℕ → Command
bust n reference = Bust (record { key = exec n; reference = exec reference })

-- a trade, its bust, another trade; the bust is withdrawn, twice; that is undone and redone
abbrev events : List Event
events =
    Submit (trade 1) ∷ Submit (bust 4 1) ∷ Submit (trade 2) ∷ Submit (Withdraw 2) ∷ Submit (Withdraw 2) ∷ Undo 4 ∷ Redo ∷ []

replies : replies_of (run_of events).history ≡ Accepted 1 ∷ Accepted 2 ∷ Accepted 3 ∷ Accepted 4 ∷ Refused (NotLive 2) ∷ Undone 4 ∷ Redone 4 ∷ []
replies = refl

live : map (λ entry. entry.number) (run_of events).book.list ≡ 1 ∷ 3 ∷ []
live = refl

-- two undos lead back to the list before the second trade, and two redos to the last again
back : map (λ entry. entry.number) (after_undos 2 (run_of events).book).list ≡ 1 ∷ 2 ∷ []
back = refl

again : map (λ entry. entry.number) (after_redos 2 (after_undos 2 (run_of events).book)).list ≡ 1 ∷ 3 ∷ []
again = refl

-- ---- word by word: that day

-- the book after it
abbrev last : DeskBook
last = (run_of events).book

-- the same with its last step undone
abbrev undone_last : DeskBook
undone_last = undone_book command_meaning last

-- the steps of a desk with that book
abbrev steps : Stack Shown Command Inverse
steps = record { state = record { list = undone_last.list; kept = [] }; done = undone_last.done; undone = undone_last.undone; next = undone_last.next }

seen_book : book_of command_meaning steps ≡ undone_last
seen_book = refl

two_steps_ago : map (λ entry. entry.number) (past command_meaning last.list last.done 2) ≡ 1 ∷ 2 ∷ []
two_steps_ago = refl

steps_undone : map (λ entry. entry.number) (undone_book command_meaning (book_of command_meaning steps)).list ≡ 1 ∷ 2 ∷ []
steps_undone = refl

steps_redone : redone_book command_meaning (book_of command_meaning steps) ≡ last
steps_redone = refl

done_numbers : map done_number last.done ≡ 4 ∷ 3 ∷ 2 ∷ 1 ∷ []
done_numbers = refl

newest_step : map newest_done ([] ∷ last.done ∷ []) ≡ None ∷ Some 4 ∷ []
newest_step = refl

first_undone : map newest_undone (last.undone ∷ undone_last.undone ∷ []) ≡ None ∷ Some 4 ∷ []
first_undone = refl

-- ---- one command

-- done under a number
abbrev done_under : ℕ → DeskBook
done_under n = record { list = record { number = n; command = trade 1 } ∷ []; done = record { number = n; inverse = Number n } ∷ []; undone = []; next = n + 1 }

-- done under 1, and undone
abbrev one_undone : DeskBook
one_undone = record { list = []; done = []; undone = record { number = 1; command = trade 1 } ∷ []; next = 2 }

none_undone : apply_of command_meaning one_undone (trade 1) ≡ done_under 2
none_undone = refl

command_back : undone_of command_meaning (done_under 1).list (record { number = 1; inverse = Number 1 }) ≡ Some (record { number = 1; command = trade 1 })
command_back = refl

undone_newest : undo_in command_meaning (done_under 1) (done_under 1).done ≡ one_undone
undone_newest = refl

undone_own : undone_book command_meaning (done_under 1) ≡ one_undone
undone_own = refl

redone_first : redo_in command_meaning one_undone one_undone.undone ≡ done_under 1
redone_first = refl

redone_own : redone_book command_meaning one_undone ≡ done_under 1
redone_own = refl

-- ---- one event on one of those books

first_number : empty_book.next ≡ 1
first_number = refl

left_as_it_was : refused_by last (NotLive 2) ≡ record { book = last; reply = Refused (NotLive 2) }
left_as_it_was = refl

done_unless_refused :
    map (λ reason. (submit_by last (trade 5) reason).reply) (None ∷ Some (DuplicateExec 1) ∷ [])
    ≡ Accepted 5 ∷ Refused (DuplicateExec 1) ∷ []
done_unless_refused = refl

done_by_list : map (λ key. (submit_of last (trade key)).reply) (5 ∷ 1 ∷ []) ≡ Accepted 5 ∷ Refused (DuplicateExec 1) ∷ []
done_by_list = refl

undone_if_newest : map (λ newest. (undo_by last newest (Some 4)).reply) (4 ∷ 3 ∷ []) ≡ Undone 4 ∷ Refused (Moved 4) ∷ []
undone_if_newest = refl

undone_if_own : map (λ newest. (undo_of last newest).reply) (4 ∷ 3 ∷ []) ≡ Undone 4 ∷ Refused (Moved 4) ∷ []
undone_if_own = refl

redone_if_any : map (λ number. (redo_by undone_last number).reply) (Some 4 ∷ None ∷ []) ≡ Redone 4 ∷ Refused NothingToRedo ∷ []
redone_if_any = refl

redone_if_own : map (λ book. (redo_of book).reply) (undone_last ∷ last ∷ []) ≡ Redone 4 ∷ Refused NothingToRedo ∷ []
redone_if_own = refl

stepped : map (λ event. (step_of undone_last event).reply) (Submit (trade 5) ∷ Undo 3 ∷ Redo ∷ []) ≡ Accepted 5 ∷ Undone 3 ∷ Redone 4 ∷ []
stepped = refl

once : map (λ entry. entry.number) (undone_once last).list ≡ 1 ∷ 2 ∷ 3 ∷ []
once = refl

-- ---- a run, and its record

-- an order is asked for, and none of its executions stands
abbrev asking : Event
asking = AskOrder (record { peer = 66 ∷ []; id = 79 ∷ [] })

abbrev asked : Recorded
asked = record { event = asking; reply = Order None }

-- and then there is nothing to redo
abbrev history : List Recorded
history = asked ∷ record { event = Redo; reply = Refused NothingToRedo } ∷ []

at_the_end : with_recorded Redo (Refused NothingToRedo) (asked ∷ []) ≡ history
at_the_end = refl

recorded : (recorded_of (recorded_of empty_desk asking) Redo).history ≡ history
recorded = refl

recorded_events : events_of history ≡ asking ∷ Redo ∷ []
recorded_events = refl

recorded_replies : replies_of history ≡ Order None ∷ Refused NothingToRedo ∷ []
recorded_replies = refl

recorded_list : list_after (record { event = Submit (trade 1); reply = Accepted 1 } ∷ []) ≡ (done_under 1).list
recorded_list = refl

only_asking : map is_ask (asking ∷ Redo ∷ []) ≡ true ∷ false ∷ []
only_asking = refl

asks_aside : kept_events history ≡ Redo ∷ []
asks_aside = refl
