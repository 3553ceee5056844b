-- Who made each command, and names by their places.
use Rattle.std.proofs.Common.{◌≡◌, ℕ, suc, ◌+◌, ◌==◌, List, [], ◌∷◌, ◌++◌, length, map, reverse, take, true, Option, Some, None, inl, inr, nat_eq, refl, sym, ap, ◌∙◌, arith, slice_get, length-append}
use Rattle.std.specs.List.{cons_option}
use Rattle.std.specs.Cmp.Lexicographic.{bytes_decides, pointwise}
use Rattle.std.proofs.lemmas.Bool.{cases_Bool}
use Rattle.std.proofs.lemmas.List.{length_push, get_or_append_left, map-append, reverse-append, take-map}
use Rattle.std.proofs.lemmas.Option.{get_or_from_slice_get}
use Rattle.blot_types.specs.declared.{command.Command.Command, refused.Refused.Refused as Reason}
use Rattle.blot_types.specs.Legal.{refusal_of}
use Rattle.blot_undo.specs.Book.{newest_done, newest_undone}
use Rattle.blot_desk.specs.declared.{event.Event.Event, event.Recorded.Recorded, event.Reply.Reply}
use Rattle.blot_desk.specs.declared.event.Event.TheVariants.{Submit, Undo, Redo, AskOrder, AskPosition}
use Rattle.blot_desk.specs.declared.event.Reply.TheVariants.{Accepted, Refused, Undone, Redone, Order, Position}
use Rattle.blot_desk.specs.Desk.{DeskBook, DeskState, recorded_of, redo_by, step_of, submit_by, undo_by, with_recorded}
use Rattle.blot_desk.specs.Makers.{AreMakers, AreWithin, Makers, name_at, names_at, no_name, with_maker}
use Rattle.blot_desk.specs.Questions.{refusal_row, refusals_from}
use Rattle.blot_desk.proofs.DeskLemmas.{redo_next, undo_next}
use Rattle.blot_desk.proofs.QuestionLemmas.{one_later}

-- what has a place keeps its name where more names come
pub names_grown : (names more : List (List ℕ)) (places : List ℕ) → AreWithin names places → names_at (names ++ more) places ≡ names_at names places
names_grown names more [] within = refl
names_grown names more (place ∷ places) within =
    ap (λ name. name ∷ names_at (names ++ more) places) (get_or_append_left names more no_name place (within 0 0 (omega arith)))
    ∙ ap (λ rest. name_at names place ∷ rest) (names_grown names more places (λ at other less. within (suc at) other (omega (arith, less))))

-- what is found under a name is that name
pub is_there : (names : List (List ℕ)) (place : ℕ) (name : List ℕ)
    → (found : List ℕ) × (slice_get names place ≡ Some found) × (pointwise nat_eq name found ≡ true) → name_at names place ≡ name
is_there names place name there =
    get_or_from_slice_get names place there.0 no_name there.1 ∙ sym ((bytes_decides name there.0).0 there.2)

-- the names at some places from the last to the first
turned : {A B : Type 0} (f : A → B) (xs : List A) → reverse (map f xs) ≡ map f (reverse xs)
turned f [] = refl
turned f (x ∷ xs) =
    reverse-append (f x ∷ []) (map f xs) ∙ ap (λ front. front ++ f x ∷ []) (turned f xs)
    ∙ sym (map-append f (reverse xs) (x ∷ [])) ∙ sym (ap (map f) (reverse-append (x ∷ []) xs))

pub names_turned : (names : List (List ℕ)) (count : ℕ) (places : List ℕ)
    → take count (reverse (names_at names places)) ≡ map (name_at names) (take count (reverse places))
names_turned names count places = ap (take count) (turned (name_at names) places) ∙ take-map (name_at names) count (reverse places)

-- ---- as many makers as commands

-- the numbers that are given after an event are as many as the makers of accepted commands
module _ (book : DeskBook) (maker : List ℕ) (makers : Makers) (made : length makers.accepted + 1 ≡ book.next) where
  submitted : (command : Command) (refusal : Option Reason)
      → length (with_maker maker (Submit command) (submit_by book command refusal).reply makers).accepted + 1 ≡ (submit_by book command refusal).book.next
  submitted command None = omega (arith, made, length_push makers.accepted maker)
  submitted command (Some reason) = made

  undone : (newest : ℕ) (found : Option ℕ)
      → length (with_maker maker (Undo newest) (undo_by book newest found).reply makers).accepted + 1 ≡ (undo_by book newest found).book.next
  undone newest None = made
  undone newest (Some number) = elim (cases_Bool (number == newest)) [
    | inl same ↦ rw same (made ∙ sym (undo_next book book.done))
    | inr moved ↦ rw moved made
  ]

  redone : (found : Option ℕ) → length (with_maker maker Redo (redo_by book found).reply makers).accepted + 1 ≡ (redo_by book found).book.next
  redone None = made
  redone (Some number) = made ∙ sym (redo_next book book.undone)

  accepted_more : (event : Event) → length (with_maker maker event (step_of book event).reply makers).accepted + 1 ≡ (step_of book event).book.next
  accepted_more (Submit command) = submitted command (refusal_of book.list command)
  accepted_more (Undo newest) = undone newest (newest_done book.done)
  accepted_more Redo = redone (newest_undone book.undone)
  accepted_more (AskOrder order) = made
  accepted_more (AskPosition account symbol) = made

-- each refused command has one more
refused_by_one : (place : ℕ) (event : Event) (reply : Reply) (maker : List ℕ) (makers : Makers)
    → length (with_maker maker event reply makers).refused ≡ length makers.refused + length (cons_option (refusal_row place event reply) [])
refused_by_one place (Submit command) (Accepted number) maker makers = omega arith
refused_by_one place (Submit command) (Refused reason) maker makers = length_push makers.refused maker
refused_by_one place (Submit command) (Undone number) maker makers = omega arith
refused_by_one place (Submit command) (Redone number) maker makers = omega arith
refused_by_one place (Submit command) (Order line) maker makers = omega arith
refused_by_one place (Submit command) (Position line) maker makers = omega arith
refused_by_one place (Undo newest) reply maker makers = omega arith
refused_by_one place Redo reply maker makers = omega arith
refused_by_one place (AskOrder order) reply maker makers = omega arith
refused_by_one place (AskPosition account symbol) reply maker makers = omega arith

refused_more : (history : List Recorded) (event : Event) (reply : Reply) (maker : List ℕ) (makers : Makers)
    → length makers.refused ≡ length (refusals_from 1 history)
    → length (with_maker maker event reply makers).refused ≡ length (refusals_from 1 (with_recorded event reply history))
refused_more history event reply maker makers made =
    let place = 1 + length history in
    let one = cons_option (refusal_row place event reply) [] in
    let last : Recorded = record { event = event; reply = reply } in
    let more : length (refusals_from 1 (with_recorded event reply history)) ≡ length (refusals_from 1 history) + length one =
    ap length (one_later 1 history last) ∙ length-append (refusals_from 1 history) one in
    refused_by_one place event reply maker makers ∙ ap (λ n. n + length one) made ∙ sym more

makers_more : (desk : DeskState) (event : Event) (maker : List ℕ) (makers : Makers) → AreMakers makers desk
    → AreMakers (with_maker maker event (step_of desk.book event).reply makers) (recorded_of desk event)
makers_more desk event maker makers made = record {
  of_accepted = accepted_more desk.book maker makers made.of_accepted event;
  of_refused = refused_more desk.history event (step_of desk.book event).reply maker makers made.of_refused;
}

-- after an event there are still as many makers as commands
pub makers_kept : (desk later : DeskState) (event copy : Event) (reply : Reply) (maker : List ℕ) (makers roomy noted : Makers) → AreMakers makers desk
    → roomy ≡ makers → copy ≡ event → later ≡ recorded_of desk event → reply ≡ (step_of desk.book event).reply → noted ≡ with_maker maker copy reply roomy
    → AreMakers noted later
makers_kept desk later event copy reply maker makers roomy noted made room same taken told is =
    rw (taken, is, told, same, room) (makers_more desk event maker makers made)
