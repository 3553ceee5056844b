-- The slots of the live list, read newest first: the entries that are there, and those that were taken out.
use Rattle.std.proofs.Common.{◌≡◌, ℕ, ◌<◌, ◌&&◌, true, false, List, [], ◌∷◌, ◌++◌, map, reverse, Some, None, refl, sym, ap, subst, ◌∙◌, arith, inl, inr, Contains, filter, find, nat_eq, nat_lt, eqb-true, ltb-true, ne_eqb, eq-eqb, ltb-false, le-ltb, lt-ltb}
use Rattle.std.proofs.lemmas.Bool.{cases_Bool, and_parts, eqb-false}
use Rattle.std.proofs.lemmas.List.{map-append, reverse-append, reverse-reverse}
use Rattle.std.proofs.lemmas.List.Elements.{filter-append}
use Rattle.blot_types.specs.declared.command.Entry.{Entry}
use Rattle.blot_types.specs.Legal.{is_above_entries, numbers_rise, rises_in, without}
use Rattle.blot_types.specs.Withdrawal.{put_back, put_back_in}
use Rattle.blot_types.proofs.StayLemmas.{filter-reverse}
use Rattle.blot_types.proofs.GeneralLemmas.{found-contains}
use Rattle.blot_places.specs.declared.slots.Slot.{Slot}
use Rattle.blot_places.specs.Shown.{item_at, with_item, with_some, without as without_item}
use Rattle.blot_places.specs.Slots.{items, is_above, live, lifted, marked, numbers_fall}
use Rattle.blot_places.proofs.MarkLemmas.{at-apart, falling-side, marked-into, marked-out, reverse-marked}
use Rattle.blot_places.proofs.ShownLemmas.{at-here, at-on, falling-parts}
use Rattle.blot_command.specs.Book.{entry_number, has_number}
use Rattle.blot_command.specs.Slots.{AreNumbered, entries_in, left_in}
use Rattle.blot_command.proofs.WithinLemmas.{cons_cases, none_within, within_turned}

-- ---- turned

map-reverse : {X Y : Type 0} (f : X → Y) (xs : List X) → map f (reverse xs) ≡ reverse (map f xs)
map-reverse f [] = refl
map-reverse f (x ∷ xs) =
    ap (map f) (reverse-append (x ∷ []) xs) ∙ map-append f (reverse xs) (x ∷ []) ∙ ap (λ front. front ++ f x ∷ []) (map-reverse f xs) ∙ sym (reverse-append (f x ∷ []) (map f xs))

-- the entries that are there, newest first
pub live-turned : (slots : List (Slot Entry)) → live (reverse slots) ≡ reverse (entries_in slots)
live-turned slots = ap items (filter-reverse (λ (slot : Slot Entry). slot.is_live) slots) ∙ map-reverse (λ (slot : Slot Entry). slot.item) (filter (λ slot. slot.is_live) slots)

pub turned-live : (slots : List (Slot Entry)) → entries_in slots ≡ reverse (live (reverse slots))
turned-live slots = sym (reverse-reverse (entries_in slots)) ∙ ap reverse (sym (live-turned slots))

-- numbers that fall, newest first, are numbers that rise
pub falls-rises : (entries : List Entry) → rises_in entries ≡ numbers_fall entry_number entries
falls-rises [] = refl
falls-rises (entry ∷ earlier) = ap (λ rest. is_above_entries entry.number earlier && rest) (falls-rises earlier)

pub entries_rise : (slots : List (Slot Entry)) → AreNumbered slots → numbers_rise (entries_in slots) ≡ true
entries_rise slots numbered = ap rises_in (sym (live-turned slots)) ∙ falls-rises (live (reverse slots)) ∙ falling-side entry_number true (reverse slots) numbered

-- ---- what is found by its number

pub at-own : (entries : List Entry) (entry : Entry) → numbers_fall entry_number entries ≡ true → Contains entries entry → item_at entry_number entry.number entries ≡ Some entry
at-own [] entry fall within = absurd (none_within entry within)
at-own (first ∷ earlier) entry fall within =
    let parts = falling-parts entry_number first earlier fall in
    elim (cons_cases first earlier entry within) [
      | inl own ↦ at-here entry_number entry.number first earlier (eq-eqb first.number entry.number (ap (λ (e : Entry). e.number) own)) ∙ ap Some own
      | inr later ↦
          let less : entry.number < first.number = below first.number earlier parts.0 later in
          at-on entry_number entry.number first earlier (ne_eqb first.number entry.number (λ same. absurd (omega (arith, same, less)))) ∙ at-own earlier entry parts.1 later
    ]
  where
    below : (n : ℕ) (entries : List Entry) → is_above entry_number n entries ≡ true → Contains entries entry → entry.number < n
    below n [] above within = absurd (none_within entry within)
    below n (e ∷ entries) above within =
        let parts : (nat_lt e.number n ≡ true) × (is_above entry_number n entries ≡ true) = and_parts _ _ above in
        elim (cons_cases e entries entry within) [
          | inl own ↦ subst (λ (it : Entry). it.number < n) own (ltb-true e.number n parts.0)
          | inr later ↦ below n entries parts.1 later
        ]

-- an entry that is there is found newest first too
pub at-turned :
    (slots : List (Slot Entry)) (entry : Entry) (n : ℕ) → AreNumbered slots → find (has_number n) (entries_in slots) ≡ Some entry
    → (entry.number ≡ n) × (item_at entry_number n (live (reverse slots)) ≡ Some entry)
at-turned slots entry n numbered found =
    let own = number_found (entries_in slots) found in
    let within : Contains (live (reverse slots)) entry =
    subst (λ all. Contains all entry) (sym (live-turned slots)) (within_turned (entries_in slots) entry (found-contains (has_number n) (entries_in slots) entry found)) in
    (own, ap (λ k. item_at entry_number k (live (reverse slots))) (sym own) ∙ at-own (live (reverse slots)) entry (falling-side entry_number true (reverse slots) numbered) within)
  where
    number_found : (list : List Entry) → find (has_number n) list ≡ Some entry → entry.number ≡ n
    number_found [] found = cc
    number_found (first ∷ list) found =
        elim (cases_Bool (has_number n first)) [
          | inl here ↦ (let same : Some first ≡ Some entry = rw here at found in let one : first ≡ entry = cc in ap (λ (e : Entry). e.number) (sym one) ∙ eqb-true first.number n here)
          | inr other ↦ number_found list (rw other at found)
        ]

-- ---- an entry is taken out, and put back

pub list-taken : (slots : List (Slot Entry)) (n : ℕ) → entries_in (marked entry_number n false slots) ≡ without n (entries_in slots)
list-taken slots n = marked-out entry_number n false slots

pub kept-taken :
    (slots : List (Slot Entry)) (entry : Entry) (n : ℕ) → AreNumbered slots → find (has_number n) (entries_in slots) ≡ Some entry
    → left_in (marked entry_number n false slots) ≡ with_item entry_number entry (left_in slots)
kept-taken slots entry n numbered found =
    ap lifted (reverse-marked entry_number n false slots) ∙ marked-into entry_number n false (reverse slots) numbered
    ∙ ap (λ it. with_some entry_number it (left_in slots)) (at-turned slots entry n numbered found).1

pub kept-put : (slots : List (Slot Entry)) (n : ℕ) → left_in (marked entry_number n true slots) ≡ without_item entry_number n (left_in slots)
kept-put slots n = ap lifted (reverse-marked entry_number n true slots) ∙ marked-out entry_number n true (reverse slots)

-- where no entry has its number, an entry is put at its place alike
place-alike : (entry : Entry) (entries : List Entry) → item_at entry_number entry.number entries ≡ None → put_back_in entry entries ≡ with_item entry_number entry entries
place-alike entry [] none = refl
place-alike entry (other ∷ earlier) none =
    elim (cases_Bool (nat_eq other.number entry.number)) [
      | inl here ↦ (let clash : Some other ≡ None = sym (at-here entry_number entry.number other earlier here) ∙ none in cc)
      | inr apart ↦
          let rest = place-alike entry earlier (sym (at-on entry_number entry.number other earlier apart) ∙ none) in
          elim (cases_Bool (nat_lt other.number entry.number)) [
            | inl less ↦
                let under : other.number < entry.number = ltb-true _ _ less in
                let behind : nat_lt entry.number other.number ≡ false = le-ltb entry.number other.number (omega (arith, under)) in
                rw (less, behind) refl
            | inr more ↦
                let over : nat_lt entry.number other.number ≡ true = above more apart in
                rw (more, over) (ap (λ l. other ∷ l) rest)
          ]
    ]
  where
    above : nat_lt other.number entry.number ≡ false → nat_eq other.number entry.number ≡ false → nat_lt entry.number other.number ≡ true
    above more apart =
        let le = ltb-false other.number entry.number more in
        let differ = eqb-false other.number entry.number apart in
        lt-ltb entry.number other.number (omega (arith, le, differ))

pub list-put :
    (slots : List (Slot Entry)) (entry : Entry) → AreNumbered slots → item_at entry_number entry.number (left_in slots) ≡ Some entry
    → entries_in (marked entry_number entry.number true slots) ≡ put_back entry (entries_in slots)
list-put slots entry numbered left =
    let n = entry.number in
    let none : item_at entry_number n (live (reverse slots)) ≡ None = at-apart entry_number n false (reverse slots) entry numbered left in
    turned-live (marked entry_number n true slots)
    ∙ ap reverse (ap live (reverse-marked entry_number n true slots) ∙ marked-into entry_number n true (reverse slots) numbered ∙ ap (λ it. with_some entry_number it (live (reverse slots))) left
    ∙ sym (place-alike entry (live (reverse slots)) none))
    ∙ ap (λ entries. reverse (put_back_in entry entries)) (live-turned slots)

-- ---- one slot more at the end

pub turned-push : (slots : List (Slot Entry)) (slot : Slot Entry) → reverse (slots ++ slot ∷ []) ≡ slot ∷ reverse slots
turned-push slots slot = reverse-append slots (slot ∷ [])

pub list-push : (slots : List (Slot Entry)) (entry : Entry) → entries_in (slots ++ record { item = entry; is_live = true } ∷ []) ≡ entries_in slots ++ entry ∷ []
list-push slots entry =
    let last : Slot Entry = record { item = entry; is_live = true } in
    ap items (filter-append (λ (slot : Slot Entry). slot.is_live) slots (last ∷ [])) ∙ map-append (λ (slot : Slot Entry). slot.item) (filter (λ slot. slot.is_live) slots) (last ∷ [])

pub kept-push : (slots : List (Slot Entry)) (entry : Entry) → left_in (slots ++ record { item = entry; is_live = true } ∷ []) ≡ left_in slots
kept-push slots entry = ap lifted (turned-push slots (record { item = entry; is_live = true }))
