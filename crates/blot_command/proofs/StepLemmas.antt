-- One step on the book, as the code takes it and takes it back.
use Rattle.std.proofs.Common.{◌≡◌, ℕ, ◌<◌, ◌≤◌, ◌+◌, true, List, [], ◌∷◌, ◌++◌, Option, Some, None, sym, ap, subst, refl, ◌∙◌, arith, inl, inr, Contains, IsSome, nat_lt, lt-ltb, ltb-true, option_map, option_and_then}
use Rattle.std.proofs.lemmas.Bool.{and_from, and_parts}
use Rattle.std.proofs.lemmas.List.Elements.{All-head, All-tail, All-weaker, All-contains, All-contains_itself, Contains-append_left, Contains-append_right, Contains-append_cases}
use Rattle.std.proofs.lemmas.List.{same_from_push}
use Rattle.blot_types.specs.declared.{command.Command.Command, command.Entry.Entry, TheConstants.EVENTS_MAX}
use Rattle.blot_types.specs.Legal.{is_above_entries, is_book, entry_refusal, without}
use Rattle.blot_command.specs.declared.fault.ApplyFault.TheVariants.{Refused as RefusedBy}
use Rattle.blot_command.specs.Book.{Shown, entry_number, numbers_of, command_at}
use Rattle.blot_command.specs.Law.{lawful_by}
use Rattle.blot_command.specs.Meanings.{meaning_by, entry_meaning}
use Rattle.blot_command.specs.Undoable.{AllBelow, IsStep, numbers_in, Adds, TakesOut, Undoes}
use Rattle.blot_command.specs.Withdrawing.{with_entry, HasLast}
use Rattle.blot_command.proofs.WithinLemmas.{cons_cases, none_within}
use Rattle.blot_command.proofs.KeepsLemmas.{Carries, carries_numbers, carries_push, carries_pop, popped_within, entries_within, numbers_from, keeps_earlier-entry, number_gone}

-- ---- the last entry

-- the last entry of a book that a command led to is that command's: the rest is the book before
pub taken_back :
    {C : Type 0} (embed : C → Command) (project : Command → Option C) → ((c : C) → project (embed c) ≡ Some c)
    → (book : Shown) (rest : List Entry) (entry : Entry) (inverse : ℕ) → Undoes (meaning_by embed project) inverse book → book.list ≡ rest ++ entry ∷ []
    → (rest ≡ without inverse book.list) × (option_and_then project (command_at book.list inverse) ≡ project entry.command)
taken_back embed project back book rest entry inverse (earlier, command, number, undoes) is =
    let step = undoes.step in
    let law = lawful_by embed project back in
    let same = same_from_push rest earlier entry (record { number = number; command = embed command }) (sym is ∙ step.list_is) in
    let stood : without inverse book.list ≡ earlier = rw (step.list_is, step.inverse_is) (law.before_after earlier command number step.valid step.is_next) in
    let given : option_and_then project (command_at book.list inverse) ≡ Some command =
    rw (step.list_is, step.inverse_is) (law.command_back earlier command number step.valid step.is_next) in
    (same.0 ∙ sym stood, given ∙ sym (back command) ∙ ap (λ e. project e.command) (sym same.1))

-- and it is one of that kind
kind_of : {C : Type 0} (project : Command → Option C) (found : Option Command) (command : Command) (c : C) → option_and_then project found ≡ Some c → option_and_then (λ x. Some x) found ≡ Some command → IsSome (project command)
kind_of project None command c kind is = cc
kind_of project (Some other) command c kind is =
    let one : other ≡ command = cc in
    subst IsSome (sym kind ∙ ap project one) refl

pub is_of_kind :
    {C : Type 0} (embed : C → Command) (project : Command → Option C) → ((c : C) → project (embed c) ≡ Some c)
    → (book : Shown) (inverse : ℕ) (command : Command) → Undoes (meaning_by embed project) inverse book → option_and_then (λ x. Some x) (command_at book.list inverse) ≡ Some command
    → IsSome (project command)
is_of_kind embed project back book inverse command (earlier, c, number, undoes) is =
    let step = undoes.step in
    let law = lawful_by embed project back in
    let given : option_and_then project (command_at book.list inverse) ≡ Some c = rw (step.list_is, step.inverse_is) (law.command_back earlier c number step.valid step.is_next) in
    kind_of project (command_at book.list inverse) command c given is

-- a number above all numbers in a book is above those of the list, and of what is kept
pub above_list : (number : ℕ) (book : Shown) → AllBelow number (numbers_in entry_meaning book) → AllBelow number (numbers_of book.list)
above_list number book above =
    All-weaker (Contains (numbers_of book.list)) (λ k. k < number)
    (λ k within. All-contains (λ k. k < number) (numbers_in entry_meaning book) k above (Contains-append_right (numbers_of book.kept) (numbers_of book.list) k within))
    (numbers_of book.list) (All-contains_itself (numbers_of book.list))

above_entries : (number : ℕ) (entries : List Entry) → AllBelow number (numbers_of entries) → is_above_entries number entries ≡ true
above_entries number [] below = refl
above_entries number (entry ∷ entries) below =
    and_from _ _ (lt-ltb entry.number number (All-head (λ k. k < number) entry.number (numbers_of entries) below))
    (above_entries number entries (All-tail (λ k. k < number) entry.number (numbers_of entries) below))

pub above_kept : (number : ℕ) (book : Shown) → AllBelow number (numbers_in entry_meaning book) → is_above_entries number book.kept ≡ true
above_kept number book above =
    above_entries number book.kept (All-weaker (Contains (numbers_of book.kept)) (λ k. k < number)
    (λ k within. All-contains (λ k. k < number) (numbers_in entry_meaning book) k above (Contains-append_left (numbers_of book.kept) (numbers_of book.list) k within))
    (numbers_of book.kept) (All-contains_itself (numbers_of book.kept)))

-- a book that a step led to has a last entry, which came after each one that is kept
pub has_last : (book : Shown) (inverse : ℕ) → Undoes entry_meaning inverse book → HasLast book
has_last book inverse (earlier, command, number, undoes) = record {
  rest = earlier;
  entry = record { number = number; command = command };
  is = undoes.step.list_is;
  above = above_kept (number + 1) book undoes.latest;
}

-- ---- what the state keeps

-- an entry that came above all numbers
pub adds : (old : Shown) (entry : Entry) → AllBelow entry.number (numbers_in entry_meaning old) → Adds entry_meaning entry.number entry.number old (with_entry entry old)
adds old entry above =
    let carries = carries_push old entry in
    record {
      brings = carries_numbers entry.number old (with_entry entry old) carries;
      own = tt;
      earlier = keeps_earlier-entry entry.number old (with_entry entry old) carries;
      stays = refl;
    }

-- and that the book accepts
pub enters :
    (old new : Shown) (command : Command) (number : ℕ) → is_book old.list ≡ true → entry_refusal old.list command ≡ None → AllBelow number (numbers_in entry_meaning old) → number ≤ EVENTS_MAX
    → new ≡ with_entry (record { number = number; command = command }) old → IsStep entry_meaning old.list command number number new.list
enters old new command number book accepted above within is = record {
  valid = book;
  within = within;
  is_next = record { accepted = ap (option_map RefusedBy) accepted; above = above_list number old above };
  inverse_is = refl;
  list_is = ap (λ (shown : Shown). shown.list) is;
}

-- a number isn't among entries that it is above
not_above : (number : ℕ) (entries : List Entry) → is_above_entries number entries ≡ true → Contains (numbers_of entries) number → ⊥
not_above number [] above within = none_within number within
not_above number (entry ∷ entries) above within =
    let parts : (nat_lt entry.number number ≡ true) × (is_above_entries number entries ≡ true) = and_parts _ _ above in
    let less : entry.number < number = ltb-true _ _ parts.0 in
    elim (cons_cases entry.number (numbers_of entries) number within) [
      | inl own ↦ omega (arith, own, less)
      | inr later ↦ not_above number entries parts.1 later
    ]

-- the last entry taken out takes its number out, and brings in none
pub takes_out :
    (old new : Shown) (inverse : ℕ) (entry : Entry) → old ≡ with_entry entry new → is_above_entries entry.number new.kept ≡ true → new.list ≡ without inverse old.list
    → TakesOut entry_meaning inverse old new
takes_out old new inverse entry is above list earlier command number undoes =
    let last = same_from_push new.list earlier entry (record { number = number; command = command }) (sym (ap (λ (shown : Shown). shown.list) is) ∙ undoes.step.list_is) in
    let own : entry.number ≡ number = ap entry_number last.1 in
    let carries : Carries number old new = subst (λ shown. Carries number shown new) (sym is) (subst (λ n. Carries n (with_entry entry new) new) own (carries_pop new entry)) in
    record {
      brings_none = numbers_from old new (λ other within. subst (λ shown. Contains (entries_within shown) other) (sym is) (popped_within new entry other within));
      gone = λ within. elim (Contains-append_cases (numbers_of new.kept) (numbers_of new.list) number within) [
        | inl kept ↦ not_above number new.kept (ap (λ n. is_above_entries n new.kept) (sym own) ∙ above) kept
        | inr listed ↦ number_gone number old.list (subst (λ l. Contains (numbers_of l) number) (list ∙ ap (λ n. without n old.list) undoes.step.inverse_is) listed)
      ];
      earlier = keeps_earlier-entry number old new carries;
      stays = sym (ap (λ (shown : Shown). shown.kept) is);
    }

-- the same, for a kind of command
pub takes_out_kind :
    {C : Type 0} (embed : C → Command) (project : Command → Option C) (old new : Shown) (inverse : ℕ) → TakesOut entry_meaning inverse old new → TakesOut (meaning_by embed project) inverse old new
takes_out_kind embed project old new inverse takes list c number undoes =
    let step = undoes.step in
    let leaves = takes list (embed c) number (record {
      step = record {
        valid = step.valid;
        within = step.within;
        is_next = record { accepted = step.is_next.accepted; above = step.is_next.above };
        inverse_is = step.inverse_is;
        list_is = step.list_is;
      };
      kept = tt;
      latest = undoes.latest;
    }) in
    record { brings_none = leaves.brings_none; gone = leaves.gone; earlier = leaves.earlier; stays = leaves.stays }
