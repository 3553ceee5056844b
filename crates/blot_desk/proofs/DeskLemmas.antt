-- A refused command, and a run with one event more.
use Rattle.std.proofs.Common.{◌≡◌, ◌⊎◌, ℕ, ◌+◌, ◌<◌, ◌≤◌, ◌==◌, true, List, [], ◌∷◌, ◌++◌, length, reverse, Option, Some, None, refl, sym, ap, subst, ◌∙◌, arith, inl, inr, All, IfSome, IsTrue, nat_lt, ltb-true, option_map}
use Rattle.std.proofs.lemmas.Bool.{and_parts, cases_Bool}
use Rattle.std.proofs.lemmas.Grind.{fold-append}
use Rattle.std.proofs.lemmas.List.{map_push, length_push, reverse-append, reverse-reverse}
use Rattle.std.proofs.lemmas.List.Elements.{All-nil, All-push}
use Rattle.blot_types.specs.declared.{command.Command.Command, refused.Refused.Refused as Reason, command.Entry.Entry, TheConstants.EVENTS_MAX}
use Rattle.blot_types.specs.Legal.{is_above_entries, is_book, refusal_of, rises_in}
use Rattle.blot_types.proofs.LawLemmas.{book_parts}
use Rattle.blot_types.proofs.OrderLemmas.{last_or-push}
use Rattle.blot_command.specs.declared.{fault.ApplyFault.ApplyFault, inverse.Inverse.Inverse}
use Rattle.blot_command.specs.declared.fault.ApplyFault.TheVariants.{Refused, NoMemory}
use Rattle.blot_command.specs.Meanings.{command_meaning}
use Rattle.blot_undo.specs.declared.{fault.StepFault.TheVariants.Refused as RefusedStep, step.Done.Done, step.Undone.Undone}
use Rattle.blot_undo.specs.Faults.{IsFault}
use Rattle.blot_undo.specs.Book.{apply_of, undo_in, redo_in, newest_done, newest_undone}
use Rattle.blot_desk.specs.declared.{event.Event.Event, event.Recorded.Recorded, event.Reply.Reply, event.Reply.TheVariants.Accepted}
use Rattle.blot_desk.specs.declared.event.Event.TheVariants.{Submit, Undo, Redo, AskOrder, AskPosition}
use Rattle.blot_desk.specs.Desk.{DeskBook, Outcome, newest_entry_of, submit_by, submit_of, refused_by, undo_by, redo_by, step_of, run_of, events_of, IsDeskState, empty_desk, recorded_of, with_recorded, IsRun}

-- the list's own reason, where the fault gives one
reason_in : (found : Option Reason) (reason : ApplyFault) (why : Reason) → (option_map Refused found ≡ Some reason) ⊎ ((option_map Refused found ≡ None) × (reason ≡ NoMemory)) → reason ≡ Refused why → found ≡ Some why
reason_in None reason why (inl is) same = cc
reason_in (Some found) reason why (inl is) same = cc
reason_in found reason why (inr memory) same = cc

-- a refused command leaves the book, and the reply names the reason
pub refused_submit :
    (book next : DeskBook) (command returned : Command) (reason : ApplyFault) (why : Reason)
    → IsFault command_meaning book.list command (RefusedStep returned reason) → reason ≡ Refused why → next ≡ book
    → refused_by next why ≡ submit_of book command
refused_submit book next command returned reason why fault same stays =
    let found : refusal_of book.list command ≡ Some why = reason_in (refusal_of book.list command) reason why fault.1 same in
    ap (λ b. refused_by b why) stays ∙ sym (ap (submit_by book command) found)

-- an accepted one is done, and the reply names its number
unrefused : (found : Option Reason) → option_map Refused found ≡ None → found ≡ None
unrefused None none = refl
unrefused (Some reason) none = cc

pub accepted_submit :
    (book next : DeskBook) (command : Command) (number : ℕ) → command_meaning.refused book.list command ≡ None → next ≡ apply_of command_meaning book command → number ≡ book.next
    → record { book = next; reply = Accepted number } ≡ submit_of book command
accepted_submit book next command number accepted done own =
    (λ i. record { book = done i; reply = Accepted (own i) }) ∙ sym (ap (submit_by book command) (unrefused (refusal_of book.list command) accepted))

-- ---- one event more

-- a step gives at most one number
pub undo_next : (book : DeskBook) (done : List (Done Inverse)) → (undo_in command_meaning book done).next ≡ book.next
undo_next book [] = refl
undo_next book (step ∷ earlier) = refl

pub redo_next : (book : DeskBook) (undone : List (Undone Command)) → (redo_in command_meaning book undone).next ≡ book.next
redo_next book [] = refl
redo_next book (step ∷ later) = refl

submit_next : (book : DeskBook) (command : Command) (refusal : Option Reason) → (submit_by book command refusal).book.next ≤ book.next + 1
submit_next book command None = omega arith
submit_next book command (Some reason) = omega arith

undo_by_next : (book : DeskBook) (newest : ℕ) (found : Option ℕ) → (undo_by book newest found).book.next ≤ book.next + 1
undo_by_next book newest None = omega arith
undo_by_next book newest (Some number) =
    elim (cases_Bool (number == newest)) [
      | inl same ↦ rw same (omega (arith, undo_next book book.done))
      | inr moved ↦ rw moved (omega arith)
    ]

redo_by_next : (book : DeskBook) (found : Option ℕ) → (redo_by book found).book.next ≤ book.next + 1
redo_by_next book None = omega arith
redo_by_next book (Some number) = omega (arith, redo_next book book.undone)

step_next : (book : DeskBook) (event : Event) → (step_of book event).book.next ≤ book.next + 1
step_next book (Submit command) = submit_next book command (refusal_of book.list command)
step_next book (Undo newest) = undo_by_next book newest (newest_done book.done)
step_next book Redo = redo_by_next book (newest_undone book.undone)
step_next book (AskOrder order) = omega arith
step_next book (AskPosition account symbol) = omega arith

-- the run of a history with one more record
run_more :
    (book next : DeskBook) (history : List Recorded) (event : Event) (reply : Reply) → IsRun (record { book = book; history = history }) → record { book = next; reply = reply } ≡ step_of book event
    → IsRun (record { book = next; history = history ++ record { event = event; reply = reply } ∷ [] })
run_more book next history event reply run is =
    let last : Recorded = record { event = event; reply = reply } in
    ap run_of (map_push (λ (r : Recorded). r.event) history last)
    ∙ fold-append recorded_of empty_desk (events_of history) (event ∷ [])
    ∙ ap (λ desk. recorded_of desk event) run
    ∙ ap (λ (outcome : Outcome). record { book = outcome.book; history = with_recorded event outcome.reply history }) (sym is)

-- what a desk keeps after one event more
pub desk_more :
    (book next : DeskBook) (history later : List Recorded) (event copy : Event) (reply : Reply) → IsDeskState book history → length history < EVENTS_MAX
    → record { book = next; reply = reply } ≡ step_of book event → copy ≡ event → later ≡ history ++ record { event = copy; reply = reply } ∷ []
    → IsDeskState next later
desk_more book next history later event copy reply desk room is same items =
    let grown : next.next ≤ book.next + 1 = subst (λ (outcome : Outcome). outcome.book.next ≤ book.next + 1) (sym is) (step_next book event) in
    let long : length later ≡ length history + 1 = ap length items ∙ length_push history (record { event = copy; reply = reply }) in
    record {
      run = rw (items, same) (run_more book next history event reply desk.run is);
      few = omega (arith, long, room);
      next = omega (arith, long, grown, desk.next);
    }

-- ---- the newest entry

at_most : (n : ℕ) (entries : List Entry) → is_above_entries n entries ≡ true → All (λ entry. entry.number ≤ n) (reverse entries)
at_most n [] above = All-nil (λ (entry : Entry). entry.number ≤ n)
at_most n (entry ∷ earlier) above =
    let parts : (nat_lt entry.number n ≡ true) × (is_above_entries n earlier ≡ true) = and_parts _ _ above in
    let less : entry.number < n = ltb-true entry.number n parts.0 in
    subst (All (λ (entry : Entry). entry.number ≤ n)) (sym (reverse-append (entry ∷ []) earlier))
    (All-push (λ (entry : Entry). entry.number ≤ n) (reverse earlier) entry (at_most n earlier parts.1) (omega (arith, less)))

greatest_in : (entries : List Entry) → rises_in entries ≡ true → IfSome (newest_entry_of (reverse entries)) (λ newest. All (λ entry. entry.number ≤ newest) (reverse entries))
greatest_in [] rises = tt
greatest_in (entry ∷ earlier) rises =
    let parts : (is_above_entries entry.number earlier ≡ true) × (rises_in earlier ≡ true) = and_parts _ _ rises in
    subst (λ list. IfSome (newest_entry_of list) (λ newest. All (λ (e : Entry). e.number ≤ newest) list)) (sym (reverse-append (entry ∷ []) earlier))
    (subst (λ last. IfSome (option_map (λ (e : Entry). e.number) last) (λ newest. All (λ (e : Entry). e.number ≤ newest) (reverse earlier ++ entry ∷ [])))
    (sym (last_or-push None (reverse earlier) entry))
    (All-push (λ (e : Entry). e.number ≤ entry.number) (reverse earlier) entry (at_most entry.number earlier parts.0) (omega arith)))

-- the number of the last entry is the greatest, since the numbers rise
pub greatest_last : (list : List Entry) → IsTrue (is_book list) → IfSome (newest_entry_of list) (λ newest. All (λ entry. entry.number ≤ newest) list)
greatest_last list book =
    subst (λ list. IfSome (newest_entry_of list) (λ newest. All (λ (e : Entry). e.number ≤ newest) list)) (reverse-reverse list)
    (greatest_in (reverse list) (book_parts list book).0)
