-- Every command obeys the law: what stands before what stands after it is the book itself.
use Rattle.std.specs.Prelude.{◌≡◌, ℕ, ◌<◌, ◌≤◌, ◌⊎◌, Bool, true, false, List, [], ◌∷◌, ◌++◌, Option, Some, None, find, is_none, refl, if◌then◌else◌, option_map, option_and_then}
use Rattle.std.proofs.Common.{ap, sym, ◌∙◌, arith, inl, inr}
use Rattle.std.proofs.lemmas.Bool.{cases_Bool, ne_eqb, eq-eqb, eqb-true}
use Rattle.std.proofs.lemmas.List.{append-nil}
use Rattle.std.proofs.lemmas.List.Elements.{All-head, All-tail, filter-append}
use Rattle.std.proofs.lemmas.List.Folds.{find-append}
use Rattle.blot_types.specs.declared.{command.Command.Command, command.Entry.Entry, TheConstants.EVENTS_MAX, refused.Refused.Refused}
use Rattle.blot_types.specs.declared.command.Command.TheVariants.{Trade, Correct, Bust as BustCommand, AllocNew, AllocReplace, AllocCancel, Withdraw}
use Rattle.blot_types.specs.declared.refused.Refused.TheVariants.{Needed, NotLive}
use Rattle.blot_types.specs.Legal.{is_book, least_needing, without, withdrawal_refusal}
use Rattle.blot_types.specs.Refusals.{is_live, withdrawn_by}
use Rattle.blot_types.specs.Withdrawal.{put_back}
use Rattle.blot_types.proofs.BringLemmas.{present}
use Rattle.blot_types.proofs.LawLemmas.{book_parts}
use Rattle.blot_types.proofs.LegalLemmas.{is_book-push}
use Rattle.blot_types.proofs.WithdrawLemmas.{withdrawn, put-back}
use Rattle.blot_command.specs.Book.{has_number, numbers_of, entered, after, inverse_of, before, command_at, command_of}
use Rattle.blot_command.specs.Meanings.{meaning_by, entry_meaning, command_meaning}
use Rattle.blot_command.specs.declared.fault.ApplyFault.TheVariants.{Refused as RefusedBy}
use Rattle.blot_command.specs.Undoable.{AllBelow, IsNext, IsLawful}

-- no entry of such a list bears the number
first_other : (number : ℕ) (entry : Entry) (list : List Entry) → AllBelow number (numbers_of (entry ∷ list)) → has_number number entry ≡ false
first_other number entry list below =
    ne_eqb _ _ (λ same. absurd (omega (arith, same, All-head (λ earlier. earlier < number) entry.number (numbers_of list) below)))

-- so the list without it is the list
before-below : (number : ℕ) (list : List Entry) → AllBelow number (numbers_of list) → without number list ≡ list
before-below number [] below = refl
before-below number (entry ∷ list) below =
    let rest : without number list ≡ list = before-below number list (All-tail (λ earlier. earlier < number) entry.number (numbers_of list) below) in
    rw (first_other number entry list below) (ap (λ kept. entry ∷ kept) rest)

-- and none is found
find-below : (number : ℕ) (list : List Entry) → AllBelow number (numbers_of list) → find (has_number number) list ≡ None
find-below number [] below = refl
find-below number (entry ∷ list) below =
    rw (first_other number entry list below) (find-below number list (All-tail (λ earlier. earlier < number) entry.number (numbers_of list) below))

not_refused : (reason : Option Refused) → option_map RefusedBy reason ≡ None → reason ≡ None
not_refused None none = refl
not_refused (Some reason) none = cc

-- a book with one more entry: without it the book is as it was, and it is found by its number
before-push : (list : List Entry) (entry : Entry) → AllBelow entry.number (numbers_of list) → without entry.number (list ++ entry ∷ []) ≡ list
before-push list entry below =
    rw (filter-append, before-below entry.number list below, eq-eqb entry.number entry.number refl) (append-nil list)

find-push : (list : List Entry) (entry : Entry) → AllBelow entry.number (numbers_of list) → find (has_number entry.number) (list ++ entry ∷ []) ≡ Some entry
find-push list entry below =
    rw (find-append, find-below entry.number list below, eq-eqb entry.number entry.number refl) refl

-- the law, for a kind that is read back from the command that it is
pub lawful_by : {C : Type 0} (embed : C → Command) (project : Command → Option C) → ((c : C) → project (embed c) ≡ Some c) → IsLawful (meaning_by embed project)
lawful_by {C} embed project back = record {
  before_after = λ list c n valid next. before-push list (record { number = n; command = embed c }) next.above;
  command_back = λ list c n valid next.
      ap (λ found. option_and_then project (option_map (λ entry. entry.command) found)) (find-push list (record { number = n; command = embed c }) next.above) ∙ back c;
  valid_after = λ list c n valid within next.
      is_book-push list (record { number = n; command = embed c }) valid (not_refused _ next.accepted) next.above within;
}

-- ---- the law, for a Withdraw

-- an entry of a list, by its number
pub record HasEntry (list : List Entry) (number : ℕ) (entry : Entry) : Type 0 where
  pub front : List Entry
  pub back : List Entry
  pub is : list ≡ front ++ entry ∷ back
  pub own : entry.number ≡ number

pub has_entry : (list : List Entry) (number : ℕ) (entry : Entry) → find (has_number number) list ≡ Some entry → HasEntry list number entry
has_entry [] number entry found = cc
has_entry (first ∷ list) number entry found =
    elim (cases_Bool (has_number number first)) [
      | inl here ↦
          let some : Some first ≡ Some entry = rw here at found in
          let same : first ≡ entry = cc in
          record {
            front = [];
            back = list;
            is = ap (λ e. e ∷ list) same;
            own = ap (λ (e : Entry). e.number) (sym same) ∙ eqb-true first.number number here;
          }
      | inr other ↦
          let has = has_entry list number entry (rw other at found) in
          record { front = first ∷ has.front; back = has.back; is = ap (λ l. first ∷ l) has.is; own = has.own }
    ]

-- what a Withdraw that a book accepts takes out: an entry that is there; the list without it is a book, and put back it stands where
-- it stood
pub record Takes (list : List Entry) (number : ℕ) : Type 0 where
  pub entry : Entry
  pub found : find (has_number number) list ≡ Some entry
  pub own : entry.number ≡ number
  pub rest : is_book (without number list) ≡ true
  pub back : put_back entry (without number list) ≡ list

accepted-parts : (live : Bool) (needing : Option ℕ) (number : ℕ) → (if live then option_map Needed needing else Some (NotLive number)) ≡ None → (live ≡ true) × (needing ≡ None)
accepted-parts true None number none = (refl, refl)
accepted-parts true (Some first) number none = cc
accepted-parts false needing number none = cc

pub takes : (list : List Entry) (number : ℕ) → is_book list ≡ true → withdrawal_refusal list number ≡ None → Takes list number
takes list number book none =
    let parts = accepted-parts (is_live number list) (least_needing list number) number none in
    let it = present (find (has_number number) list) parts.0 in
    let has = has_entry list number it.0 it.1 in
    record {
      entry = it.0;
      found = it.1;
      own = has.own;
      rest = ap (λ n. is_book (without n list)) (sym has.own) ∙ withdrawn list book has.front has.back it.0 has.is
          ∙ ap is_none (ap (least_needing list) has.own ∙ parts.1);
      back = ap (λ n. put_back it.0 (without n list)) (sym has.own) ∙ put-back list (book_parts list book).0 has.front has.back it.0 has.is;
    }

-- a command that a book accepts next: as an entry, or as a Withdraw
pub enters_or_takes :
    (list : List Entry) (command : Command) (number : ℕ) → is_book list ≡ true → IsNext command_meaning list command number
    → ((withdrawn_by command ≡ None) × IsNext entry_meaning list command number) ⊎ ((taken : ℕ) × (command ≡ Withdraw taken) × Takes list taken)
enters_or_takes list (Trade trade) number book next = inl (refl, record { accepted = next.accepted; above = next.above })
enters_or_takes list (Correct correct) number book next = inl (refl, record { accepted = next.accepted; above = next.above })
enters_or_takes list (BustCommand bust) number book next = inl (refl, record { accepted = next.accepted; above = next.above })
enters_or_takes list (AllocNew new) number book next = inl (refl, record { accepted = next.accepted; above = next.above })
enters_or_takes list (AllocReplace replace) number book next = inl (refl, record { accepted = next.accepted; above = next.above })
enters_or_takes list (AllocCancel cancel) number book next = inl (refl, record { accepted = next.accepted; above = next.above })
enters_or_takes list (Withdraw taken) number book next = inr (taken, refl, takes list taken book (not_refused _ next.accepted))

pub entry_lawful : IsLawful entry_meaning
entry_lawful = lawful_by (λ command. command) (λ command. Some command) (λ command. refl)

command-before :
    (list : List Entry) (c : Command) (n : ℕ) → is_book list ≡ true → IsNext command_meaning list c n → before (after list c n) (inverse_of list c n) ≡ list
command-before list c n valid next =
    elim (enters_or_takes list c n valid next) [
      | inl enters ↦ rw enters.0 (entry_lawful.before_after list c n valid enters.1)
      | inr taken ↦ rw (taken.1, taken.2.found) taken.2.back
    ]

some_then : (found : Option Command) → option_and_then (λ command. Some command) found ≡ found
some_then None = refl
some_then (Some command) = refl

command-back :
    (list : List Entry) (c : Command) (n : ℕ) → is_book list ≡ true → IsNext command_meaning list c n → command_of (after list c n) (inverse_of list c n) ≡ Some c
command-back list c n valid next =
    elim (enters_or_takes list c n valid next) [
      | inl enters ↦ rw enters.0 (sym (some_then (command_at (entered list c n) n)) ∙ entry_lawful.command_back list c n valid enters.1)
      | inr taken ↦ rw (taken.1, taken.2.found) (ap (λ k. Some (Withdraw k)) taken.2.own)
    ]

command-valid :
    (list : List Entry) (c : Command) (n : ℕ) → is_book list ≡ true → n ≤ EVENTS_MAX → IsNext command_meaning list c n → is_book (after list c n) ≡ true
command-valid list c n valid within next =
    elim (enters_or_takes list c n valid next) [
      | inl enters ↦ rw enters.0 (entry_lawful.valid_after list c n valid within enters.1)
      | inr taken ↦ rw taken.1 taken.2.rest
    ]

-- the law, for a command of any kind
pub command_lawful : IsLawful command_meaning
command_lawful = record {
  before_after = λ list c n valid next. command-before list c n valid next;
  command_back = λ list c n valid next. command-back list c n valid next;
  valid_after = λ list c n valid within next. command-valid list c n valid within next;
}
