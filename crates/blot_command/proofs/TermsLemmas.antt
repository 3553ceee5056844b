-- The terms of the allocation of a key, found by the number of the entry that takes it up.
use Rattle.std.proofs.Common.{◌≡◌, ℕ, ◌<◌, Bool, true, false, List, [], ◌∷◌, ◌++◌, reverse, Option, Some, None, refl, sym, ap, ◌∙◌, arith, inl, inr, find, is_none, nat_lt, if◌then◌else◌, option_map, option_and_then, ltb-true, eq-eqb, ne_eqb}
use Rattle.std.specs.List.{cons_option}
use Rattle.std.specs.Option.{option_or}
use Rattle.std.proofs.lemmas.Bool.{cases_Bool, and_parts}
use Rattle.std.proofs.lemmas.List.{reverse-append, reverse-reverse}
use Rattle.std.proofs.lemmas.List.Folds.{find-append}
use Rattle.blot_types.specs.declared.{allocation.Instruction.Instruction, allocation.Terms.Terms, command.Entry.Entry, keys.AllocKey.AllocKey, link.Link.Link}
use Rattle.blot_types.specs.Allocations.{Allocation, allocation_of, instruction_by, instructions_in, instructions_of}
use Rattle.blot_types.specs.Instructions.{is_keyed, alloc_taker_in, is_above_instructions, may_follow}
use Rattle.blot_types.specs.Keys.{same_alloc}
use Rattle.blot_types.specs.Legal.{is_above_entries, rises_in, numbers_rise, is_numbered, legal_in, is_legal, refusal_in, HoldsList}
use Rattle.blot_types.specs.Survivors.{links_in}
use Rattle.blot_types.proofs.AcceptLemmas.{accepted-instruction}
use Rattle.blot_types.proofs.ChainLemmas.{none_is}
use Rattle.blot_types.proofs.ChangeLemmas.{allocations_in}
use Rattle.blot_types.proofs.KeyLemmas.{same_alloc-true, same_alloc-sym}
use Rattle.blot_types.proofs.LawLemmas.{find-none}
use Rattle.blot_types.proofs.LiveLemmas.{IsOfInstruction, of_instruction, turned, has_alloc_key, none_keyed, all_taken}
use Rattle.blot_types.proofs.GeneralLemmas.{or-none}
use Rattle.blot_command.specs.Book.{has_number}
use Rattle.blot_command.specs.Shown.{terms_of_key, terms_keyed}
use Rattle.blot_command.proofs.LiveLemmas.{above-instructions, instruction-number}

-- the terms of a key in an entry, by its number
abbrev pub terms_at : List Entry → AllocKey → ℕ → Option Terms
terms_at list key number = option_and_then (λ entry. terms_of_key key entry.command) (find (has_number number) list)

-- a number that takes up a key is that of an instruction, so it is below any number above theirs
taker-below : (instructions : List Instruction) (key : AllocKey) (n m : ℕ) → is_above_instructions m instructions ≡ true → alloc_taker_in instructions key ≡ Some n → n < m
taker-below [] key n m above is = cc
taker-below (i ∷ earlier) key n m above is =
    let parts : (nat_lt i.number m ≡ true) × (is_above_instructions m earlier ≡ true) = and_parts _ _ above in
    elim (cases_Bool (is_keyed key i)) [
      | inl here ↦ let own : Some i.number ≡ Some n = rw here at is in let less = ltb-true i.number m parts.0 in let same : i.number ≡ n = cc in omega (arith, less, same)
      | inr other ↦ taker-below earlier key n m parts.1 (rw other at is)
    ]

-- an entry of another number doesn't change what is found
terms-other : (list : List Entry) (entry : Entry) (key : AllocKey) (n : ℕ) → n < entry.number → terms_at (list ++ entry ∷ []) key n ≡ terms_at list key n
terms-other list entry key n less =
    let none : find (has_number n) (entry ∷ []) ≡ None = rw (ne_eqb entry.number n (λ same. absurd (omega (arith, less, same)))) refl in
    ap (option_and_then (λ e. terms_of_key key e.command)) (find-append (has_number n) list (entry ∷ []) ∙ ap (option_or (find (has_number n) list)) none ∙ or-none (find (has_number n) list))

taken-other : (list : List Entry) (entry : Entry) (key : AllocKey) (taken : Option ℕ) → ((n : ℕ) → taken ≡ Some n → n < entry.number)
    → option_and_then (terms_at (list ++ entry ∷ []) key) taken ≡ option_and_then (terms_at list key) taken
taken-other list entry key None below = refl
taken-other list entry key (Some n) below = terms-other list entry key n (below n refl)

-- the allocations with those of one more entry
mapped : (a b : Option Allocation) → option_map (λ x. x.terms) (option_or a b) ≡ option_or (option_map (λ x. x.terms) a) (option_map (λ x. x.terms) b)
mapped None b = refl
mapped (Some a) b = refl

terms-more :
    (entry : Entry) (earlier : List Entry) (key : AllocKey)
    → terms_keyed (reverse (entry ∷ earlier)) key
    ≡ option_or (terms_keyed (reverse earlier) key) (option_map (λ a. a.terms) (find (has_alloc_key key) (cons_option (allocation_of entry.command) [])))
terms-more entry earlier key =
    let last = cons_option (allocation_of entry.command) [] in
    ap (λ allocations. option_map (λ a. a.terms) (find (has_alloc_key key) allocations)) (turned entry earlier)
    ∙ ap (option_map (λ a. a.terms)) (find-append (has_alloc_key key) (allocations_in (reverse earlier)) last)
    ∙ mapped (find (has_alloc_key key) (allocations_in (reverse earlier))) (find (has_alloc_key key) last)

-- an entry's own allocation has its key, or not
own-terms : (key : AllocKey) (brought : Option Allocation) → option_map (λ a. a.terms) (find (has_alloc_key key) (cons_option brought []))
    ≡ option_and_then (λ a. if same_alloc key a.key then Some a.terms else None) brought
own-terms key None = refl
own-terms key (Some a) =
    elim (cases_Bool (same_alloc key a.key)) [
      | inl same ↦ rw same refl
      | inr other ↦ rw other refl
    ]

other-terms : (key : AllocKey) (found : Option Instruction) (brought : Option Allocation) → IsOfInstruction found brought
    → ((i : Instruction) → found ≡ Some i → is_keyed key i ≡ false) → option_map (λ a. a.terms) (find (has_alloc_key key) (cons_option brought [])) ≡ None
other-terms key found None is other = refl
other-terms key None (Some a) is other = cc
other-terms key (Some i) (Some a) is other =
    let differ : same_alloc key a.key ≡ false = ap (same_alloc key) is.0 ∙ same_alloc-sym key i.key ∙ other i refl in
    rw differ refl

-- whether an instruction, if it is one, takes up a key
abbrev keyed : AllocKey → Option Instruction → Bool
keyed key None = false
keyed key (Some i) = is_keyed key i

-- an instruction that may follow takes up a key that is new
taker-fresh : (entries : List Entry) (i : Instruction) → may_follow (instructions_in entries) i.key i.role i.roots ≡ true → alloc_taker_in (instructions_in entries) i.key ≡ None
taker-fresh entries i follows = none_is (alloc_taker_in (instructions_in entries) i.key) (and_parts _ _ (and_parts _ _ (and_parts _ _ follows).0).0).0

-- the last entry takes up the key, or an earlier one does
step :
    (entry : Entry) (earlier : List Entry) (key : AllocKey) (found : Option Instruction) → instruction_by (links_in earlier) entry.number entry.command ≡ found
    → IsOfInstruction found (allocation_of entry.command) → ((i : Instruction) → found ≡ Some i → alloc_taker_in (instructions_in earlier) i.key ≡ None)
    → is_above_entries entry.number earlier ≡ true
    → terms_keyed (reverse earlier) key ≡ option_and_then (terms_at (reverse earlier) key) (alloc_taker_in (instructions_in earlier) key)
    → ((n : ℕ) → n ≡ entry.number → find (has_number n) (reverse earlier) ≡ None)
    → option_or (terms_keyed (reverse earlier) key) (option_map (λ a. a.terms) (find (has_alloc_key key) (cons_option (allocation_of entry.command) [])))
    ≡ option_and_then (terms_at (reverse earlier ++ entry ∷ []) key) (alloc_taker_in (cons_option found (instructions_in earlier)) key)
step entry earlier key None by is fresh above before unused =
    ap (option_or (terms_keyed (reverse earlier) key)) (other-terms key None (allocation_of entry.command) is (λ i some. cc)) ∙ or-none (terms_keyed (reverse earlier) key) ∙ before
    ∙ sym (taken-other (reverse earlier) entry key (alloc_taker_in (instructions_in earlier) key) (λ n taken. taker-below (instructions_in earlier) key n entry.number (above-instructions entry.number earlier above) taken))
step entry earlier key (Some i) by is fresh above before unused =
    let brought = allocation_of entry.command in
    elim (cases_Bool (is_keyed key i)) [
      | inl here ↦
          let same : i.key ≡ key = same_alloc-true i.key key here in
          let number : i.number ≡ entry.number = instruction-number (links_in earlier) entry i by in
          let none : terms_keyed (reverse earlier) key ≡ None =
          ap (option_map (λ a. a.terms)) (find-none (has_alloc_key key) (allocations_in (reverse earlier))
          (none_keyed (instructions_in earlier) key (allocations_in (reverse earlier)) (ap (alloc_taker_in (instructions_in earlier)) (sym same) ∙ fresh i refl) (all_taken earlier))) in
          let found : find (has_number i.number) (reverse earlier ++ entry ∷ []) ≡ Some entry =
          find-append (has_number i.number) (reverse earlier) (entry ∷ []) ∙ ap (λ o. option_or o (find (has_number i.number) (entry ∷ []))) (unused i.number number) ∙ rw (eq-eqb entry.number i.number (sym number)) refl in
          ap (λ o. option_or o (option_map (λ a. a.terms) (find (has_alloc_key key) (cons_option brought [])))) none
          ∙ own-terms key brought
          ∙ sym (ap (λ test. option_and_then (terms_at (reverse earlier ++ entry ∷ []) key) (option_map (λ j. j.number) (if test then Some i else find (is_keyed key) (instructions_in earlier)))) here
          ∙ ap (option_and_then (λ e. terms_of_key key e.command)) found)
      | inr other ↦
          ap (option_or (terms_keyed (reverse earlier) key)) (other-terms key (Some i) brought is (λ j some. ap (λ (o : Option Instruction). keyed key o) (sym some) ∙ other)) ∙ or-none (terms_keyed (reverse earlier) key) ∙ before
          ∙ sym (ap (λ test. option_and_then (terms_at (reverse earlier ++ entry ∷ []) key) (option_map (λ j. j.number) (if test then Some i else find (is_keyed key) (instructions_in earlier)))) other
          ∙ taken-other (reverse earlier) entry key (alloc_taker_in (instructions_in earlier) key) (λ n taken. taker-below (instructions_in earlier) key n entry.number (above-instructions entry.number earlier above) taken))
    ]

unused-number : (m : ℕ) (entries : List Entry) → is_above_entries m entries ≡ true → find (has_number m) (reverse entries) ≡ None
unused-number m [] above = refl
unused-number m (entry ∷ earlier) above =
    let parts : (nat_lt entry.number m ≡ true) × (is_above_entries m earlier ≡ true) = and_parts _ _ above in
    let less : entry.number < m = ltb-true entry.number m parts.0 in
    ap (find (has_number m)) (reverse-append (entry ∷ []) earlier) ∙ find-append (has_number m) (reverse earlier) (entry ∷ [])
    ∙ rw (unused-number m earlier parts.1, ne_eqb entry.number m (λ same. absurd (omega (arith, less, same)))) refl

pub terms-by_number :
    (entries : List Entry) (key : AllocKey) → rises_in entries ≡ true → legal_in entries ≡ true
    → terms_keyed (reverse entries) key ≡ option_and_then (terms_at (reverse entries) key) (alloc_taker_in (instructions_in entries) key)
terms-by_number [] key rise legal = refl
terms-by_number (entry ∷ earlier) key rise legal =
    let rises : (is_above_entries entry.number earlier ≡ true) × (rises_in earlier ≡ true) = and_parts _ _ rise in
    let legals : (is_none (refusal_in earlier entry.command) ≡ true) × (legal_in earlier ≡ true) = and_parts _ _ legal in
    let accepted : refusal_in earlier entry.command ≡ None = none_is (refusal_in earlier entry.command) legals.0 in
    let found = instruction_by (links_in earlier) entry.number entry.command in
    terms-more entry earlier key
    ∙ step entry earlier key found refl (of_instruction (links_in earlier) entry.number entry.command)
    (λ i some. taker-fresh earlier i (accepted-instruction earlier entry i accepted some)) rises.0 (terms-by_number earlier key rises.1 legals.1)
    (λ n own. ap (λ m. find (has_number m) (reverse earlier)) own ∙ unused-number entry.number earlier rises.0)
    ∙ ap (λ list. option_and_then (terms_at list key) (alloc_taker_in (cons_option found (instructions_in earlier)) key)) (sym (reverse-append (entry ∷ []) earlier))

-- in a book
pub terms-found :
    (list : List Entry) (links : List Link) (instructions : List Instruction) (key : AllocKey) → HoldsList list links instructions
    → option_and_then (terms_at list key) (alloc_taker_in instructions key) ≡ terms_keyed list key
terms-found list links instructions key holds =
    let parts : (is_numbered list ≡ true) × (is_legal list ≡ true) = and_parts _ _ holds.book in
    let rise : numbers_rise list ≡ true = (and_parts _ _ parts.0).0 in
    ap (λ taken. option_and_then (terms_at list key) (alloc_taker_in taken key)) holds.instructions_are
    ∙ ap (λ l. option_and_then (terms_at l key) (alloc_taker_in (instructions_of list) key)) (sym (reverse-reverse list))
    ∙ sym (terms-by_number (reverse list) key rise parts.1)
    ∙ ap (λ l. terms_keyed l key) (reverse-reverse list)
