-- The place of a number among slots whose numbers rise.
use Rattle.std.proofs.Common.{◌≡◌, ◌≢◌, ℕ, zero, suc, ◌-◌, ◌<◌, ◌≤◌, Bool, true, List, [], ◌∷◌, length, reverse, get_or, set, sym, ap, subst, ◌∙◌, arith, length-set, get_or-set_same, get_or-set_other, ⊎_elim, ltb-true}
use Rattle.std.proofs.lemmas.Bool.{and_parts, cases_eq, cases_lt}
use Rattle.std.proofs.lemmas.List.{length-reverse, get_or-reverse, get_or-map, reverse-reverse, length-map, same_lists, get_or_default}
use Rattle.blot_places.specs.declared.slots.Slot.{Slot}
use Rattle.blot_places.specs.Slots.{items, is_above, numbers_fall, mark, marked}
use Rattle.blot_places.proofs.MarkLemmas.{mark-same}
use Rattle.blot_places.proofs.ShownLemmas.{falling-parts, less-other, more-other}

module _ {T : Type 0} (number_of : T → ℕ) where
  pub above-at : (n : ℕ) (slots : List (Slot T)) (j : ℕ) (d : Slot T) → is_above number_of n (items slots) ≡ true → j < length slots → number_of (get_or slots j d).item < n
  above-at n [] j d above within = absurd (omega arith)
  above-at n (slot ∷ earlier) zero d above within = ltb-true _ _ (and_parts _ _ above).0
  above-at n (slot ∷ earlier) (suc j) d above within = above-at n earlier j d (and_parts _ _ above).1 (omega arith)

  falling-at :
      (slots : List (Slot T)) (i j : ℕ) (d : Slot T) → numbers_fall number_of (items slots) ≡ true → i < j → j < length slots
      → number_of (get_or slots j d).item < number_of (get_or slots i d).item
  falling-at [] i j d fall less within = absurd (omega arith)
  falling-at (slot ∷ earlier) i zero d fall less within = absurd (omega arith)
  falling-at (slot ∷ earlier) zero (suc j) d fall less within = above-at (number_of slot.item) earlier j d (falling-parts number_of slot.item (items earlier) fall).0 (omega arith)
  falling-at (slot ∷ earlier) (suc i) (suc j) d fall less within = falling-at earlier i j d (falling-parts number_of slot.item (items earlier) fall).1 (omega arith) (omega arith)

  pub from-end : (slots : List (Slot T)) (k : ℕ) (d : Slot T) → k < length slots → get_or slots k d ≡ get_or (reverse slots) (length slots - 1 - k) d
  from-end slots k d within =
      let len : length (reverse slots) ≡ length slots = length-reverse slots in
      ap (λ all. get_or all k d) (sym (reverse-reverse slots)) ∙ get_or-reverse (reverse slots) k d (omega (arith, len)) ∙ ap (λ n. get_or (reverse slots) (n - 1 - k) d) len

  pub rises :
      (slots : List (Slot T)) (i j : ℕ) (d : Slot T) → numbers_fall number_of (items (reverse slots)) ≡ true → i < j → j < length slots
      → number_of (get_or slots i d).item < number_of (get_or slots j d).item
  rises slots i j d fall less within =
      let len : length (reverse slots) ≡ length slots = length-reverse slots in
      let at_i = ap (λ (slot : Slot T). number_of slot.item) (from-end slots i d (omega arith)) in
      let at_j = ap (λ (slot : Slot T). number_of slot.item) (from-end slots j d within) in
      let falling : number_of (get_or (reverse slots) (length slots - 1 - i) d).item < number_of (get_or (reverse slots) (length slots - 1 - j) d).item =
      falling-at (reverse slots) (length slots - 1 - j) (length slots - 1 - i) d fall (omega (arith, less, within)) (omega (arith, len, less, within)) in
      subst (λ n. n < number_of (get_or slots j d).item) (sym at_i) (subst (λ n. number_of (get_or (reverse slots) (length slots - 1 - i) d).item < n) (sym at_j) falling)

  pub rising :
      (slots : List (Slot T)) → numbers_fall number_of (items (reverse slots)) ≡ true → (i j : ℕ) (d : Slot T) → i ≤ j → j < length slots
      → number_of (get_or slots i d).item ≤ number_of (get_or slots j d).item
  rising slots fall i j d le within =
      ⊎_elim (λ (same : i ≡ j). subst (λ k. number_of (get_or slots i d).item ≤ number_of (get_or slots k d).item) same (omega arith))
      (λ (other : i ≢ j). let less : i < j = omega arith in let more = rises slots i j d fall less within in omega (arith, more))
      (cases_eq i j)

module _ {T : Type 0} (number_of : T → ℕ) (slots : List (Slot T)) (n : ℕ) (side : Bool) (place : ℕ) (fall : numbers_fall number_of (items (reverse slots)) ≡ true)
    (below : (k : ℕ) (d : Slot T) → k < place → number_of (get_or slots k d).item < n)
    (above : (k : ℕ) (d : Slot T) → place ≤ k → k < length slots → n ≤ number_of (get_or slots k d).item) where
  other-place : (k : ℕ) (d : Slot T) → k < length slots → k ≢ place → place < length slots → mark number_of n side (get_or slots k d) ≡ get_or slots k d
  other-place k d within other there =
      ⊎_elim (λ (less : k < place). mark-same number_of n side (get_or slots k d) (less-other (number_of (get_or slots k d).item) n (below k d less)))
      (λ (le : place ≤ k).
      let at : n ≤ number_of (get_or slots place d).item = above place d (omega arith) there in
      let more = rises number_of slots place k d fall (omega arith) within in
      mark-same number_of n side (get_or slots k d) (more-other (number_of (get_or slots k d).item) n (omega (arith, at, more))))
      (cases_lt k place)

  -- the slot at the place is marked, and so are all
  pub marked-at : (slot : Slot T) → slot ≡ get_or slots place slot → place < length slots → set slots place (mark number_of n side slot) ≡ marked number_of n side slots
  marked-at slot is there =
      same_lists (set slots place (mark number_of n side slot)) (marked number_of n side slots) (length-set slots place (mark number_of n side slot) ∙ sym (length-map slots (mark number_of n side)))
      (λ k d within.
      let inside : k < length slots = omega (arith, within, length-set slots place (mark number_of n side slot)) in
      let right : get_or (marked number_of n side slots) k d ≡ mark number_of n side (get_or slots k slot) = get_or-map (mark number_of n side) slots k slot d inside in
      ⊎_elim (λ (same : k ≡ place).
      subst (λ k. get_or (set slots place (mark number_of n side slot)) k d ≡ mark number_of n side (get_or slots k slot)) (sym same)
      (get_or-set_same slots place (mark number_of n side slot) d there ∙ ap (mark number_of n side) is) ∙ sym right)
      (λ (other : k ≢ place).
      get_or-set_other slots place k (mark number_of n side slot) d other ∙ get_or_default slots k d slot inside ∙ sym (other-place k slot inside other there) ∙ sym right)
      (cases_eq k place))

  -- past the end there is none to mark
  pub marked-none : place ≡ length slots → slots ≡ marked number_of n side slots
  marked-none past =
      same_lists slots (marked number_of n side slots) (sym (length-map slots (mark number_of n side)))
      (λ k d within.
      let less : k < place = omega (arith, past, within) in
      sym (get_or-map (mark number_of n side) slots k d d within ∙ mark-same number_of n side (get_or slots k d) (less-other (number_of (get_or slots k d).item) n (below k d less))))
