-- The live item of a number stands at the number's place.
use Rattle.std.proofs.Common.{◌≡◌, ℕ, zero, suc, ◌-◌, ◌<◌, ◌≤◌, true, cond, List, [], ◌∷◌, length, reverse, get_or, Option, Some, None, refl, sym, ap, subst, ◌∙◌, inl, inr, arith, nat_eq, option_and_then, lt-ltb}
use Rattle.std.proofs.lemmas.Bool.{cases_Bool, and_from}
use Rattle.std.proofs.lemmas.List.{length-reverse}
use Rattle.std.proofs.lemmas.Option.{slice_get_cases}
use Rattle.blot_places.specs.declared.slots.Slot.{Slot}
use Rattle.blot_places.specs.Shown.{item_at}
use Rattle.blot_places.specs.Slots.{items, is_above, live, live_item, numbers_fall}
use Rattle.blot_places.proofs.MarkLemmas.{above-side}
use Rattle.blot_places.proofs.SearchLemmas.{above-at, from-end}
use Rattle.blot_places.proofs.ShownLemmas.{at-below, at-here, at-on, falling-parts, more-other}
use Rattle.blot_places.proofs.SlotLemmas.{live_here, live_on}

module _ {T : Type 0} (number_of : T → ℕ) (n : ℕ) where
  -- the item of a live slot
  abbrev pub alive : Slot T → Option T
  alive slot = cond slot.is_live (Some slot.item) None

  -- an item, if it has the number
  abbrev pub numbered : Option T → Option T
  numbered item = option_and_then (λ x. cond (nat_eq (number_of x) n) (Some x) None) item

  above-all : (slots : List (Slot T)) → ((k : ℕ) (d : Slot T) → k < length slots → number_of (get_or slots k d).item < n) → is_above number_of n (items slots) ≡ true
  above-all [] below = refl
  above-all (slot ∷ earlier) below = and_from _ _ (lt-ltb _ _ (below zero slot (omega arith))) (above-all earlier (λ k d within. below (suc k) d (omega arith)))

  none-live : (slots : List (Slot T)) → ((k : ℕ) (d : Slot T) → k < length slots → number_of (get_or slots k d).item < n) → item_at number_of n (live slots) ≡ None
  none-live slots below = at-below number_of n (live slots) (above-side number_of n true slots (above-all slots below))

  -- at the first slot, where the others are below
  at-first :
      (slot : Slot T) (earlier : List (Slot T)) → item_at number_of n (live earlier) ≡ None
      → item_at number_of n (live (slot ∷ earlier)) ≡ numbered (alive slot)
  at-first slot earlier none =
      elim (cases_Bool slot.is_live) [
        | inl is ↦
            ap (item_at number_of n) (live_here slot earlier is) ∙ elim (cases_Bool (nat_eq (number_of slot.item) n)) [
              | inl its ↦
                  at-here number_of n slot.item (live earlier) its
                  ∙ sym (ap (λ b. numbered (cond b (Some slot.item) None)) is ∙ ap (λ b. cond b (Some slot.item) None) its)
              | inr other ↦
                  at-on number_of n slot.item (live earlier) other ∙ none
                  ∙ sym (ap (λ b. numbered (cond b (Some slot.item) None)) is ∙ ap (λ b. cond b (Some slot.item) None) other)
            ]
        | inr off ↦ ap (item_at number_of n) (live_on slot earlier off) ∙ none ∙ sym (ap (λ b. numbered (cond b (Some slot.item) None)) off)
      ]

  -- one more slot, above the number
  at-later : (slot : Slot T) (earlier : List (Slot T)) → n < number_of slot.item → item_at number_of n (live (slot ∷ earlier)) ≡ item_at number_of n (live earlier)
  at-later slot earlier more =
      elim (cases_Bool slot.is_live) [
        | inl is ↦ ap (item_at number_of n) (live_here slot earlier is) ∙ at-on number_of n slot.item (live earlier) (more-other (number_of slot.item) n more)
        | inr off ↦ ap (item_at number_of n) (live_on slot earlier off)
      ]

  -- newest first
  at-index :
      (slots : List (Slot T)) (j : ℕ) (slot : Slot T) → numbers_fall number_of (items slots) ≡ true → j < length slots → get_or slots j slot ≡ slot
      → n ≤ number_of slot.item → ((k : ℕ) (d : Slot T) → j < k → k < length slots → number_of (get_or slots k d).item < n)
      → item_at number_of n (live slots) ≡ numbered (alive slot)
  at-index [] j slot fall within is above below = absurd (omega arith)
  at-index (first ∷ earlier) zero slot fall within is above below =
      at-first first earlier (none-live earlier (λ k d inside. below (suc k) d (omega arith) (omega arith))) ∙ ap (λ s. numbered (alive s)) is
  at-index (first ∷ earlier) (suc j) slot fall within is above below =
      let falling = falling-parts number_of first.item (items earlier) fall in
      let older : number_of (get_or earlier j slot).item < number_of first.item = above-at number_of (number_of first.item) earlier j slot falling.0 (omega arith) in
      let less : number_of slot.item < number_of first.item = subst (λ (s : Slot T). number_of s.item < number_of first.item) is older in
      at-later first earlier (omega (arith, above, less))
      ∙ at-index earlier j slot falling.1 (omega arith) is above (λ k d more inside. below (suc k) d (omega arith) (omega arith))

  -- oldest first
  module _ (slots : List (Slot T)) (place : ℕ) (fall : numbers_fall number_of (items (reverse slots)) ≡ true)
      (below : (k : ℕ) (d : Slot T) → k < place → number_of (get_or slots k d).item < n)
      (above : (k : ℕ) (d : Slot T) → place ≤ k → k < length slots → n ≤ number_of (get_or slots k d).item) where
    older : (k : ℕ) (d : Slot T) → k < length slots → length slots - 1 - k < place → number_of (get_or (reverse slots) k d).item < n
    older k d within less =
        let back : length slots - 1 - (length slots - 1 - k) ≡ k = omega (arith, within) in
        let turned : get_or slots (length slots - 1 - k) d ≡ get_or (reverse slots) k d =
        from-end number_of slots (length slots - 1 - k) d (omega (arith, within)) ∙ ap (λ i. get_or (reverse slots) i d) back in
        subst (λ (s : Slot T). number_of s.item < n) turned (below (length slots - 1 - k) d less)

    at-slot : (slot : Slot T) → place < length slots → get_or slots place slot ≡ slot → item_at number_of n (live (reverse slots)) ≡ numbered (alive slot)
    at-slot slot there is =
        let len : length (reverse slots) ≡ length slots = length-reverse slots in
        at-index (reverse slots) (length slots - 1 - place) slot fall (omega (arith, len)) (sym (from-end number_of slots place slot there) ∙ is)
        (subst (λ (s : Slot T). n ≤ number_of s.item) is (above place slot (omega arith) there))
        (λ k d more within. older k d (omega (arith, len)) (omega (arith, len, there)))

    past-end : length slots ≤ place → item_at number_of n (live (reverse slots)) ≡ None
    past-end past =
        none-live (reverse slots) (λ k d within. let len : length (reverse slots) ≡ length slots = length-reverse slots in older k d (omega (arith, len)) (omega (arith, len)))

    pub live-numbered : numbered (live_item slots place) ≡ item_at number_of n (live (reverse slots))
    live-numbered = elim (slice_get_cases slots place).1 [
      | inl found ↦ ap (λ slot. numbered (option_and_then alive slot)) found.2 ∙ sym (at-slot found.0 found.1 found.3)
      | inr past ↦ ap (λ slot. numbered (option_and_then alive slot)) past.1 ∙ sym (past-end past.0)
    ]
