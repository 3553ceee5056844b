-- What the live list keeps of its slots: the links and the instructions of the entries that are there, and of those that were taken
-- out.
use Rattle.std.proofs.Common.{◌≡◌, ℕ, ◌<◌, true, false, ◌&&◌, List, [], ◌∷◌, ◌++◌, reverse, Option, Some, None, refl, sym, ap, subst, ◌∙◌, arith, inl, inr, nat_eq, nat_lt, option_and_then, eqb-true, eq-eqb, lt-ltb, ltb-false, ltb-true, ne_eqb}
use Rattle.std.specs.List.{cons_option}
use Rattle.std.proofs.lemmas.Bool.{cases_Bool, and_parts, and_from, eqb-false}
use Rattle.blot_types.specs.declared.{allocation.Instruction.Instruction, command.Command.Command, command.Entry.Entry, link.Link.Link}
use Rattle.blot_types.specs.declared.command.Command.TheVariants.{Trade, Correct, Bust, AllocNew, AllocReplace, AllocCancel, Withdraw}
use Rattle.blot_types.specs.Allocations.{instruction_by, instructions_in, instructions_of}
use Rattle.blot_types.specs.Chains.{falls as links_fall, is_above_links}
use Rattle.blot_types.specs.Instructions.{is_above_instructions}
use Rattle.blot_types.specs.Legal.{is_above_entries, is_book, rises_in, without}
use Rattle.blot_types.specs.Survivors.{link_of, links_in, links_of}
use Rattle.blot_types.proofs.EntryLemmas.{is_above_links-links, link-number}
use Rattle.blot_places.specs.declared.slots.Slot.{Slot}
use Rattle.blot_places.specs.Shown.{Shown, item_at, with_item, with_some, without as without_item}
use Rattle.blot_places.specs.Slots.{is_above, numbers_fall}
use Rattle.blot_places.proofs.ShownLemmas.{above-more, at-below, at-here, at-none, at-on, falling-parts, with_item-front, with_item-here, with_item-on, without-here, without-none, without-on}
use Rattle.blot_chain.specs.Steps.{link_at, number_of as link_number}
use Rattle.blot_alloc.specs.Allocs.{instruction_at, number_of as instruction_of_number}
use Rattle.blot_command.specs.Book.{entry_number}
use Rattle.blot_command.specs.Linking.{HoldsLive}
use Rattle.blot_command.specs.Slots.{AreNumbered, NewestThere, entries_in, left_in, left_instructions}
use Rattle.blot_command.proofs.LiveLemmas.{above-instructions, instruction-number}

-- the chains and the allocations that slots stand for
abbrev pub chains_of : List (Slot Entry) → Shown Link
chains_of slots = record { list = links_of (entries_in slots); kept = links_in (left_in slots) }

abbrev pub allocs_of : List (Slot Entry) → Shown Instruction
allocs_of slots = record { list = instructions_of (entries_in slots); kept = left_instructions (reverse slots) }

pub chains-held : (slots : List (Slot Entry)) (chains : Shown Link) (allocs : Shown Instruction) → HoldsLive slots chains allocs → chains ≡ chains_of slots
chains-held slots chains allocs holds = λ i. record { list = holds.holds.links_are i; kept = holds.kept_links i }

pub allocs-held : (slots : List (Slot Entry)) (chains : Shown Link) (allocs : Shown Instruction) → HoldsLive slots chains allocs → allocs ≡ allocs_of slots
allocs-held slots chains allocs holds = λ i. record { list = holds.holds.instructions_are i; kept = holds.kept_instructions i }

pub held-by :
    (slots : List (Slot Entry)) (chains : Shown Link) (allocs : Shown Instruction) → AreNumbered slots → is_book (entries_in slots) ≡ true → chains ≡ chains_of slots → allocs ≡ allocs_of slots
    → NewestThere (reverse slots) → HoldsLive slots chains allocs
held-by slots chains allocs numbered book chains_are allocs_are newest = record {
  numbered = numbered;
  holds = record {
    book = book;
    links_are = ap (λ (s : Shown Link). s.list) chains_are;
    instructions_are = ap (λ (s : Shown Instruction). s.list) allocs_are;
  };
  kept_links = ap (λ (s : Shown Link). s.kept) chains_are;
  kept_instructions = ap (λ (s : Shown Instruction). s.kept) allocs_are;
  newest = newest;
}

-- ---- entries seen as links

module _ (entry : Entry) (link : Link) (linked : link_of entry ≡ Some link) where
  pub its-number : link.number ≡ entry.number
  its-number = link-number entry link linked

pub at-links : (n : ℕ) (entries : List Entry) → numbers_fall entry_number entries ≡ true → link_at n (links_in entries) ≡ option_and_then link_of (item_at entry_number n entries)
at-links n [] fall = refl
at-links n (entry ∷ earlier) fall =
    let parts = falling-parts entry_number entry earlier fall in
    let rest = at-links n earlier parts.1 in
    elim (cases_Bool (nat_eq entry.number n)) [
      | inl here ↦
          first (link_of entry) refl here (rest ∙ ap (option_and_then link_of) (at-below entry_number n earlier (subst (λ k. is_above entry_number k earlier ≡ true) (eqb-true _ _ here) parts.0)))
          ∙ ap (option_and_then link_of) (sym (at-here entry_number n entry earlier here))
      | inr other ↦ later (link_of entry) refl other ∙ rest ∙ ap (option_and_then link_of) (sym (at-on entry_number n entry earlier other))
    ]
  where
    first : (found : Option Link) → link_of entry ≡ found → nat_eq entry.number n ≡ true → link_at n (links_in earlier) ≡ None → link_at n (cons_option (link_of entry) (links_in earlier)) ≡ link_of entry
    first None is here none = ap (λ l. link_at n (cons_option l (links_in earlier))) is ∙ none ∙ sym is
    first (Some link) is here none =
        ap (λ l. link_at n (cons_option l (links_in earlier))) is ∙ at-here link_number n link (links_in earlier) (ap (λ k. nat_eq k n) (its-number entry link is) ∙ here) ∙ sym is

    later : (found : Option Link) → link_of entry ≡ found → nat_eq entry.number n ≡ false → link_at n (cons_option (link_of entry) (links_in earlier)) ≡ link_at n (links_in earlier)
    later None is other = ap (λ l. link_at n (cons_option l (links_in earlier))) is
    later (Some link) is other =
        ap (λ l. link_at n (cons_option l (links_in earlier))) is ∙ at-on link_number n link (links_in earlier) (ap (λ k. nat_eq k n) (its-number entry link is) ∙ other)

pub links-without : (n : ℕ) (entries : List Entry) → links_in (without n entries) ≡ without_item link_number n (links_in entries)
links-without n [] = refl
links-without n (entry ∷ earlier) =
    let rest = links-without n earlier in
    elim (cases_Bool (nat_eq entry.number n)) [
      | inl here ↦ ap links_in (without-here entry_number n entry earlier here) ∙ rest ∙ sym (gone (link_of entry) refl here)
      | inr other ↦
          ap links_in (without-on entry_number n entry earlier other) ∙ ap (cons_option (link_of entry)) rest ∙ sym (stays (link_of entry) refl other)
    ]
  where
    gone : (found : Option Link) → link_of entry ≡ found → nat_eq entry.number n ≡ true → without_item link_number n (cons_option (link_of entry) (links_in earlier)) ≡ without_item link_number n (links_in earlier)
    gone None is here = ap (λ l. without_item link_number n (cons_option l (links_in earlier))) is
    gone (Some link) is here =
        ap (λ l. without_item link_number n (cons_option l (links_in earlier))) is ∙ without-here link_number n link (links_in earlier) (ap (λ k. nat_eq k n) (its-number entry link is) ∙ here)

    stays : (found : Option Link) → link_of entry ≡ found → nat_eq entry.number n ≡ false
        → without_item link_number n (cons_option (link_of entry) (links_in earlier)) ≡ cons_option (link_of entry) (without_item link_number n (links_in earlier))
    stays None is other = ap (λ l. without_item link_number n (cons_option l (links_in earlier))) is ∙ ap (λ l. cons_option l (without_item link_number n (links_in earlier))) (sym is)
    stays (Some link) is other =
        ap (λ l. without_item link_number n (cons_option l (links_in earlier))) is ∙ without-on link_number n link (links_in earlier) (ap (λ k. nat_eq k n) (its-number entry link is) ∙ other)
        ∙ ap (λ l. cons_option l (without_item link_number n (links_in earlier))) (sym is)

pub links-with :
    (entry : Entry) (entries : List Entry) → numbers_fall entry_number entries ≡ true → item_at entry_number entry.number entries ≡ None
    → links_in (with_item entry_number entry entries) ≡ with_some link_number (link_of entry) (links_in entries)
links-with entry [] fall none = by (link_of entry)
  where
    by : (found : Option Link) → cons_option found [] ≡ with_some link_number found []
    by None = refl
    by (Some link) = refl
links-with entry (first ∷ earlier) fall none =
    let parts = falling-parts entry_number first earlier fall in
    let apart = at-none entry_number entry.number first earlier none in
    elim (cases_Bool (nat_lt entry.number first.number)) [
      | inl less ↦
          ap links_in (with_item-on entry_number entry first earlier less)
          ∙ ap (cons_option (link_of first)) (links-with entry earlier parts.1 apart.1)
          ∙ after (link_of entry) (link_of first) refl refl less
      | inr more ↦
          ap links_in (with_item-here entry_number entry first earlier more)
          ∙ sym (before (link_of entry) refl (is_above_links-links entry.number (first ∷ earlier) (above-first (over more apart.0) parts.0)))
    ]
  where
    after : (found own : Option Link) → link_of entry ≡ found → link_of first ≡ own → nat_lt entry.number first.number ≡ true
        → cons_option own (with_some link_number found (links_in earlier)) ≡ with_some link_number found (cons_option own (links_in earlier))
    after None own is linked less = refl
    after (Some link) None is linked less = refl
    after (Some link) (Some own) is linked less =
        sym (with_item-on link_number link own (links_in earlier) ((λ i. nat_lt (its-number entry link is i) (its-number first own linked i)) ∙ less))

    before : (found : Option Link) → link_of entry ≡ found → is_above_links entry.number (links_in (first ∷ earlier)) ≡ true
        → with_some link_number found (links_in (first ∷ earlier)) ≡ cons_option found (links_in (first ∷ earlier))
    before None is above = refl
    before (Some link) is above = with_item-front link_number link (links_in (first ∷ earlier)) (ap (λ k. is_above_links k (links_in (first ∷ earlier))) (its-number entry link is) ∙ above)

    over : nat_lt entry.number first.number ≡ false → nat_eq first.number entry.number ≡ false → first.number < entry.number
    over more apart = (let le = ltb-false entry.number first.number more in let differ = eqb-false first.number entry.number apart in omega (arith, le, differ))

    above-first : first.number < entry.number → is_above entry_number first.number earlier ≡ true → is_above_entries entry.number (first ∷ earlier) ≡ true
    above-first less above = and_from _ _ (lt-ltb first.number entry.number less) (above-more entry_number first.number entry.number earlier (omega (arith, less)) above)

pub falls-link-numbers : (links : List Link) → links_fall links ≡ numbers_fall link_number links
falls-link-numbers [] = refl
falls-link-numbers (link ∷ earlier) = ap (λ rest. is_above_links link.number earlier && rest) (falls-link-numbers earlier)

-- ---- entries seen as instructions

pub falls-instructions : (entries : List Entry) → rises_in entries ≡ true → numbers_fall instruction_of_number (instructions_in entries) ≡ true
falls-instructions [] rise = refl
falls-instructions (entry ∷ earlier) rise =
    let parts : (is_above_entries entry.number earlier ≡ true) × (rises_in earlier ≡ true) = and_parts _ _ rise in
    by (instruction_by (links_in earlier) entry.number entry.command) refl (above-instructions entry.number earlier parts.0) (falls-instructions earlier parts.1)
  where
    by : (found : Option Instruction) → instruction_by (links_in earlier) entry.number entry.command ≡ found → is_above_instructions entry.number (instructions_in earlier) ≡ true
        → numbers_fall instruction_of_number (instructions_in earlier) ≡ true → numbers_fall instruction_of_number (cons_option found (instructions_in earlier)) ≡ true
    by None is above rest = rest
    by (Some i) is above rest = and_from _ _ (ap (λ k. is_above_instructions k (instructions_in earlier)) (instruction-number (links_in earlier) entry i is) ∙ above) rest

-- an entry that is a link is no instruction
uninstructed : (links : List Link) (entry : Entry) (link : Link) → link_of entry ≡ Some link → instruction_by links entry.number entry.command ≡ None
uninstructed links entry link linked = by entry.command linked
  where
    by : (command : Command) → link_of (record { number = entry.number; command = command }) ≡ Some link → instruction_by links entry.number command ≡ None
    by (Trade trade) is = refl
    by (Correct correct) is = refl
    by (Bust bust) is = refl
    by (AllocNew new) is = cc
    by (AllocReplace replace) is = cc
    by (AllocCancel cancel) is = cc
    by (Withdraw withdrawn) is = cc

pub no-instruction :
    (entries : List Entry) (entry : Entry) (link : Link) → numbers_fall entry_number entries ≡ true → item_at entry_number entry.number entries ≡ Some entry → link_of entry ≡ Some link
    → instruction_at entry.number (instructions_in entries) ≡ None
no-instruction [] entry link fall is linked = refl
no-instruction (first ∷ earlier) entry link fall is linked =
    let parts = falling-parts entry_number first earlier fall in
    elim (cases_Bool (nat_eq first.number entry.number)) [
      | inl here ↦
          let some : Some first ≡ Some entry = sym (at-here entry_number entry.number first earlier here) ∙ is in
          let same : first ≡ entry = cc in
          let none : instruction_at entry.number (instructions_in earlier) ≡ None =
          at-below instruction_of_number entry.number (instructions_in earlier)
          (above-instructions entry.number earlier (subst (λ k. is_above entry_number k earlier ≡ true) (eqb-true _ _ here) parts.0)) in
          ap (λ (e : Entry). instruction_at entry.number (cons_option (instruction_by (links_in earlier) e.number e.command) (instructions_in earlier))) same
          ∙ ap (λ found. instruction_at entry.number (cons_option found (instructions_in earlier))) (uninstructed (links_in earlier) entry link linked) ∙ none
      | inr other ↦
          on (instruction_by (links_in earlier) first.number first.command) refl other
          ∙ no-instruction earlier entry link parts.1 (sym (at-on entry_number entry.number first earlier other) ∙ is) linked
    ]
  where
    on : (found : Option Instruction) → instruction_by (links_in earlier) first.number first.command ≡ found → nat_eq first.number entry.number ≡ false
        → instruction_at entry.number (cons_option found (instructions_in earlier)) ≡ instruction_at entry.number (instructions_in earlier)
    on None is other = refl
    on (Some i) is other = at-on instruction_of_number entry.number i (instructions_in earlier) (ap (λ k. nat_eq k entry.number) (instruction-number (links_in earlier) first i is) ∙ other)

-- ---- an item in the middle

module _ {T : Type 0} (number_of : T → ℕ) (earlier : List T) (item : T) where
  below-middle : (n : ℕ) (others : List T) → is_above number_of n (others ++ item ∷ earlier) ≡ true → number_of item < n
  below-middle n [] above = ltb-true _ _ (and_parts _ _ above).0
  below-middle n (other ∷ others) above = below-middle n others (and_parts _ _ above).1

  -- it goes, and the others stay
  pub without-middle : (later : List T) → numbers_fall number_of (later ++ item ∷ earlier) ≡ true → without_item number_of (number_of item) (later ++ item ∷ earlier) ≡ later ++ earlier
  without-middle [] fall =
      let parts = falling-parts number_of item earlier fall in
      without-here number_of (number_of item) item earlier (eq-eqb (number_of item) (number_of item) refl)
      ∙ without-none number_of (number_of item) earlier (at-below number_of (number_of item) earlier parts.0)
  without-middle (first ∷ later) fall =
      let parts = falling-parts number_of first (later ++ item ∷ earlier) fall in
      let less : number_of item < number_of first = below-middle (number_of first) later parts.0 in
      without-on number_of (number_of item) first (later ++ item ∷ earlier) (ne_eqb (number_of first) (number_of item) (λ same. absurd (omega (arith, same, less))))
      ∙ ap (λ l. first ∷ l) (without-middle later parts.1)

  pub at-middle-own : (later : List T) → numbers_fall number_of (later ++ item ∷ earlier) ≡ true → item_at number_of (number_of item) (later ++ item ∷ earlier) ≡ Some item
  at-middle-own [] fall = at-here number_of (number_of item) item earlier (eq-eqb (number_of item) (number_of item) refl)
  at-middle-own (first ∷ later) fall =
      let parts = falling-parts number_of first (later ++ item ∷ earlier) fall in
      let less : number_of item < number_of first = below-middle (number_of first) later parts.0 in
      at-on number_of (number_of item) first (later ++ item ∷ earlier) (ne_eqb (number_of first) (number_of item) (λ same. absurd (omega (arith, same, less))))
      ∙ at-middle-own later parts.1
