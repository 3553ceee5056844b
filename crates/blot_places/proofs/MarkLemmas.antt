-- What a mark changes: a slot is live or lifted, and nothing else.
use Rattle.std.proofs.Common.{◌≡◌, ℕ, Bool, Vec, true, false, cond, List, [], ◌∷◌, ◌++◌, length, reverse, Some, None, refl, sym, ap, subst, ◌∙◌, inl, inr, filter, not, nat_eq, nat_lt, ltb-true, eqb-true}
use Rattle.std.specs.Vec.{with_items}
use Rattle.std.specs.List.{list_all}
use Rattle.std.proofs.lemmas.Bool.{cases_Bool, and_parts, and_from}
use Rattle.std.proofs.lemmas.List.{length-map, map-append, reverse-append, with_items_is}
use Rattle.blot_types.proofs.GeneralLemmas.{not-not}
use Rattle.blot_places.specs.declared.slots.Slot.{Slot}
use Rattle.blot_places.specs.Slots.{items, live, lifted, places_by, is_above, numbers_fall, mark, marked}
use Rattle.blot_places.specs.Shown.{shown_of, item_at, without, with_some, lifted_out, put_back}
use Rattle.blot_places.proofs.ShownLemmas.{at-below, at-here, at-on, at-number, falling-parts, less-other, with_item-front, with_some-behind, without-here, without-on}

module _ {T : Type 0} (number_of : T → ℕ) (n : ℕ) (b : Bool) where
  pub mark-item : (slot : Slot T) → (mark number_of n b slot).item ≡ slot.item
  mark-item slot = elim (cases_Bool (nat_eq (number_of slot.item) n)) [
    | inl is ↦ ap (λ t. (cond t (record slot { is_live = b }) slot).item) is
    | inr not ↦ ap (λ t. (cond t (record slot { is_live = b }) slot).item) not
  ]

  pub mark-at : (slot : Slot T) → nat_eq (number_of slot.item) n ≡ true → (mark number_of n b slot).is_live ≡ b
  mark-at slot is = ap (λ t. (cond t (record slot { is_live = b }) slot).is_live) is

  pub mark-off : (slot : Slot T) → nat_eq (number_of slot.item) n ≡ false → (mark number_of n b slot).is_live ≡ slot.is_live
  mark-off slot not = ap (λ t. (cond t (record slot { is_live = b }) slot).is_live) not

  pub mark-same : (slot : Slot T) → nat_eq (number_of slot.item) n ≡ false → mark number_of n b slot ≡ slot
  mark-same slot not = ap (λ t. cond t (record slot { is_live = b }) slot) not

  -- ---- what reads the items alone stays

  pub items-marked : (slots : List (Slot T)) → items (marked number_of n b slots) ≡ items slots
  items-marked [] = refl
  items-marked (slot ∷ earlier) = λ i. mark-item slot i ∷ items-marked earlier i

  pub places-marked : (test : T → Bool) (slots : List (Slot T)) → places_by test (marked number_of n b slots) ≡ places_by test slots
  places-marked test [] = refl
  places-marked test (slot ∷ earlier) =
      let rest = places-marked test earlier in
      let len : length (marked number_of n b earlier) ≡ length earlier = length-map earlier (mark number_of n b) in
      λ i. cond (test (mark-item slot i)) (len i ∷ rest i) (rest i)

  -- below the number a mark changes nothing
  pub marked-below : (slots : List (Slot T)) → is_above number_of n (items slots) ≡ true → marked number_of n b slots ≡ slots
  marked-below [] below = refl
  marked-below (slot ∷ earlier) below =
      let parts : (nat_lt (number_of slot.item) n ≡ true) × (is_above number_of n (items earlier) ≡ true) = and_parts _ _ below in
      let first = mark-same slot (less-other (number_of slot.item) n (ltb-true _ _ parts.0)) in
      let rest = marked-below earlier parts.1 in
      λ i. first i ∷ rest i

  -- ---- the slots of a Vec

  pub reverse-marked : (slots : List (Slot T)) → reverse (marked number_of n b slots) ≡ marked number_of n b (reverse slots)
  reverse-marked [] = refl
  reverse-marked (slot ∷ slots) =
      reverse-append (mark number_of n b slot ∷ []) (marked number_of n b slots)
      ∙ ap (λ front. front ++ mark number_of n b slot ∷ []) (reverse-marked slots)
      ∙ sym (map-append (mark number_of n b) (reverse slots) (slot ∷ []))
      ∙ ap (marked number_of n b) (sym (reverse-append (slot ∷ []) slots))

  -- those of a Vec whose slice was marked, newest first
  pub marked-items :
      {Z : Type 0} (v : Vec (Slot T) Z) (slots : List (Slot T)) → v.len ≡ length v.items → slots ≡ marked number_of n b v.items
      → reverse (with_items v slots).items ≡ marked number_of n b (reverse v.items)
  marked-items v slots len is =
      ap reverse (with_items_is v slots (ap length is ∙ length-map v.items (mark number_of n b) ∙ sym len) ∙ is) ∙ reverse-marked v.items

-- ---- the two sides: the live items, and the lifted ones

module _ {T : Type 0} where
  abbrev pub on : Bool → Slot T → Bool
  on side slot = cond side slot.is_live (not slot.is_live)

  abbrev pub side_of : Bool → List (Slot T) → List T
  side_of side slots = items (filter (on side) slots)

  pub side_here : (side : Bool) (slot : Slot T) (earlier : List (Slot T)) → on side slot ≡ true → side_of side (slot ∷ earlier) ≡ slot.item ∷ side_of side earlier
  side_here side slot earlier is = ap (λ t. items (cond t (slot ∷ filter (on side) earlier) (filter (on side) earlier))) is

  pub side_on : (side : Bool) (slot : Slot T) (earlier : List (Slot T)) → on side slot ≡ false → side_of side (slot ∷ earlier) ≡ side_of side earlier
  side_on side slot earlier is = ap (λ t. items (cond t (slot ∷ filter (on side) earlier) (filter (on side) earlier))) is

  on-other : (side : Bool) (slot : Slot T) → on (not side) slot ≡ not (on side slot)
  on-other true slot = refl
  on-other false slot = sym (not-not slot.is_live)

module _ {T : Type 0} (number_of : T → ℕ) (n : ℕ) where
  on-marked : (side : Bool) (slot : Slot T) → nat_eq (number_of slot.item) n ≡ true → on side (mark number_of n side slot) ≡ true
  on-marked true slot is = mark-at number_of n true slot is
  on-marked false slot is = ap not (mark-at number_of n false slot is)

  on-unmarked : (side mark_side : Bool) (slot : Slot T) → nat_eq (number_of slot.item) n ≡ false → on side (mark number_of n mark_side slot) ≡ on side slot
  on-unmarked side mark_side slot not_it = ap (λ t. cond side t (not t)) (mark-off number_of n mark_side slot not_it)

  -- what leaves the side that the mark takes away from
  pub marked-out : (side : Bool) (slots : List (Slot T)) → side_of (not side) (marked number_of n side slots) ≡ without number_of n (side_of (not side) slots)
  marked-out side [] = refl
  marked-out side (slot ∷ earlier) =
      let rest = marked-out side earlier in
      let first : Slot T = mark number_of n side slot in
      let gone : List (Slot T) = marked number_of n side earlier in
      elim (cases_Bool (nat_eq (number_of slot.item) n)) [
        | inl is ↦
            let off : on (not side) first ≡ false = on-other side first ∙ ap not (on-marked side slot is) in
            side_on (not side) first gone off ∙ rest ∙ elim (cases_Bool (on (not side) slot)) [
              | inl there ↦ sym (ap (without number_of n) (side_here (not side) slot earlier there) ∙ without-here number_of n slot.item (side_of (not side) earlier) is)
              | inr other ↦ sym (ap (without number_of n) (side_on (not side) slot earlier other))
            ]
        | inr not_it ↦ elim (cases_Bool (on (not side) slot)) [
          | inl there ↦
              side_here (not side) first gone (on-unmarked (not side) side slot not_it ∙ there)
              ∙ (λ i. mark-item number_of n side slot i ∷ rest i)
              ∙ sym (ap (without number_of n) (side_here (not side) slot earlier there) ∙ without-on number_of n slot.item (side_of (not side) earlier) not_it)
          | inr other ↦
              side_on (not side) first gone (on-unmarked (not side) side slot not_it ∙ other)
              ∙ rest
              ∙ sym (ap (without number_of n) (side_on (not side) slot earlier other))
        ]
      ]

-- what all items pass, those of a side do
pub all-side : {T : Type 0} (test : T → Bool) (side : Bool) (slots : List (Slot T)) → list_all test (items slots) ≡ true → list_all test (side_of side slots) ≡ true
all-side test side [] all = refl
all-side test side (slot ∷ earlier) all =
    let parts : (test slot.item ≡ true) × (list_all test (items earlier) ≡ true) = and_parts _ _ all in
    elim (cases_Bool (on side slot)) [
      | inl is ↦ ap (list_all test) (side_here side slot earlier is) ∙ and_from _ _ parts.0 (all-side test side earlier parts.1)
      | inr other ↦ ap (list_all test) (side_on side slot earlier other) ∙ all-side test side earlier parts.1
    ]

-- so a number above all is above those of a side
pub above-side : {T : Type 0} (number_of : T → ℕ) (number : ℕ) (side : Bool) (slots : List (Slot T)) → is_above number_of number (items slots) ≡ true → is_above number_of number (side_of side slots) ≡ true
above-side number_of number side slots above = all-side (λ item. nat_lt (number_of item) number) side slots above

-- and a number above those of both sides is above all
pub above-both :
    {T : Type 0} (number_of : T → ℕ) (number : ℕ) (slots : List (Slot T)) → is_above number_of number (live slots) ≡ true → is_above number_of number (lifted slots) ≡ true
    → is_above number_of number (items slots) ≡ true
above-both number_of number [] lives lifts = refl
above-both number_of number (slot ∷ earlier) lives lifts =
    elim (cases_Bool slot.is_live) [
      | inl is ↦
          let parts : (nat_lt (number_of slot.item) number ≡ true) × (is_above number_of number (live earlier) ≡ true) =
          and_parts _ _ (ap (is_above number_of number) (sym (side_here true slot earlier is)) ∙ lives) in
          and_from _ _ parts.0 (above-both number_of number earlier parts.1 (ap (is_above number_of number) (sym (side_on false slot earlier (ap not is))) ∙ lifts))
      | inr off ↦
          let parts : (nat_lt (number_of slot.item) number ≡ true) × (is_above number_of number (lifted earlier) ≡ true) =
          and_parts _ _ (ap (is_above number_of number) (sym (side_here false slot earlier (ap not off))) ∙ lifts) in
          and_from _ _ parts.0 (above-both number_of number earlier (ap (is_above number_of number) (sym (side_on true slot earlier off)) ∙ lives) parts.1)
    ]

-- the numbers of a side fall
pub falling-side : {T : Type 0} (number_of : T → ℕ) (side : Bool) (slots : List (Slot T)) → numbers_fall number_of (items slots) ≡ true → numbers_fall number_of (side_of side slots) ≡ true
falling-side number_of side [] fall = refl
falling-side number_of side (slot ∷ earlier) fall =
    let falling = falling-parts number_of slot.item (items earlier) fall in
    elim (cases_Bool (on side slot)) [
      | inl is ↦ ap (numbers_fall number_of) (side_here side slot earlier is) ∙ and_from _ _ (above-side number_of (number_of slot.item) side earlier falling.0) (falling-side number_of side earlier falling.1)
      | inr other ↦ ap (numbers_fall number_of) (side_on side slot earlier other) ∙ falling-side number_of side earlier falling.1
    ]

module _ {T : Type 0} (number_of : T → ℕ) (n : ℕ) where
  -- what comes to the side that the mark names
  pub marked-into :
      (side : Bool) (slots : List (Slot T)) → numbers_fall number_of (items slots) ≡ true
      → side_of side (marked number_of n side slots) ≡ with_some number_of (item_at number_of n (side_of (not side) slots)) (side_of side slots)
  marked-into side [] fall = refl
  marked-into side (slot ∷ earlier) fall =
      let falling = falling-parts number_of slot.item (items earlier) fall in
      let rest = marked-into side earlier falling.1 in
      let first : Slot T = mark number_of n side slot in
      let gone : List (Slot T) = marked number_of n side earlier in
      elim (cases_Bool (nat_eq (number_of slot.item) n)) [
        | inl is ↦
            let below : is_above number_of n (items earlier) ≡ true = subst (λ k. is_above number_of k (items earlier) ≡ true) (eqb-true _ _ is) falling.0 in
            let stays : gone ≡ earlier = marked-below number_of n side earlier below in
            let there : side_of side (first ∷ gone) ≡ slot.item ∷ side_of side earlier =
            side_here side first gone (on-marked number_of n side slot is) ∙ (λ i. mark-item number_of n side slot i ∷ side_of side (stays i)) in
            there ∙ elim (cases_Bool (on side slot)) [
              | inl mine ↦
                  let off : on (not side) slot ≡ false = on-other side slot ∙ ap not mine in
                  let none : item_at number_of n (side_of (not side) (slot ∷ earlier)) ≡ None =
                  ap (item_at number_of n) (side_on (not side) slot earlier off) ∙ at-below number_of n (side_of (not side) earlier) (above-side number_of n (not side) earlier below) in
                  sym (λ i. with_some number_of (none i) (side_here side slot earlier mine i))
              | inr theirs ↦
                  let off : on (not side) slot ≡ true = on-other side slot ∙ ap not theirs in
                  let some : item_at number_of n (side_of (not side) (slot ∷ earlier)) ≡ Some slot.item =
                  ap (item_at number_of n) (side_here (not side) slot earlier off) ∙ at-here number_of n slot.item (side_of (not side) earlier) is in
                  sym ((λ i. with_some number_of (some i) (side_on side slot earlier theirs i))
                  ∙ with_item-front number_of slot.item (side_of side earlier) (above-side number_of (number_of slot.item) side earlier falling.0))
            ]
        | inr not_it ↦ elim (cases_Bool (on side slot)) [
          | inl mine ↦
              let off : on (not side) slot ≡ false = on-other side slot ∙ ap not mine in
              let at : item_at number_of n (side_of (not side) (slot ∷ earlier)) ≡ item_at number_of n (side_of (not side) earlier) =
              ap (item_at number_of n) (side_on (not side) slot earlier off) in
              side_here side first gone (on-unmarked number_of n side side slot not_it ∙ mine)
              ∙ (λ i. mark-item number_of n side slot i ∷ rest i)
              ∙ sym ((λ i. with_some number_of (at i) (side_here side slot earlier mine i))
              ∙ with_some-behind number_of slot.item (item_at number_of n (side_of (not side) earlier)) (side_of side earlier)
              (λ item found. at-number number_of n (number_of slot.item) (side_of (not side) earlier) item (above-side number_of (number_of slot.item) (not side) earlier falling.0) found))
          | inr theirs ↦
              let off : on (not side) slot ≡ true = on-other side slot ∙ ap not theirs in
              let at : item_at number_of n (side_of (not side) (slot ∷ earlier)) ≡ item_at number_of n (side_of (not side) earlier) =
              ap (item_at number_of n) (side_here (not side) slot earlier off) ∙ at-on number_of n slot.item (side_of (not side) earlier) not_it in
              side_on side first gone (on-unmarked number_of n side side slot not_it ∙ theirs)
              ∙ rest
              ∙ sym (λ i. with_some number_of (at i) (side_on side slot earlier theirs i))
        ]
      ]

  -- what is of a number on a side is so in all slots
  pub at-all :
      (side : Bool) (slots : List (Slot T)) (item : T) → numbers_fall number_of (items slots) ≡ true
      → item_at number_of n (side_of side slots) ≡ Some item → item_at number_of n (items slots) ≡ Some item
  at-all side [] item fall found = found
  at-all side (slot ∷ earlier) item fall found =
      let falling = falling-parts number_of slot.item (items earlier) fall in
      elim (cases_Bool (nat_eq (number_of slot.item) n)) [
        | inl is ↦
            let below : is_above number_of n (items earlier) ≡ true = subst (λ k. is_above number_of k (items earlier) ≡ true) (eqb-true _ _ is) falling.0 in
            elim (cases_Bool (on side slot)) [
              | inl mine ↦
                  at-here number_of n slot.item (items earlier) is
                  ∙ sym (ap (item_at number_of n) (side_here side slot earlier mine) ∙ at-here number_of n slot.item (side_of side earlier) is) ∙ found
              | inr theirs ↦
                  let none : item_at number_of n (side_of side (slot ∷ earlier)) ≡ None =
                  ap (item_at number_of n) (side_on side slot earlier theirs) ∙ at-below number_of n (side_of side earlier) (above-side number_of n side earlier below) in
                  absurd (clash (sym found ∙ none))
            ]
        | inr not_it ↦
            let behind : item_at number_of n (side_of side earlier) ≡ Some item = elim (cases_Bool (on side slot)) [
              | inl mine ↦ sym (ap (item_at number_of n) (side_here side slot earlier mine) ∙ at-on number_of n slot.item (side_of side earlier) not_it) ∙ found
              | inr theirs ↦ sym (ap (item_at number_of n) (side_on side slot earlier theirs)) ∙ found
            ] in
            at-on number_of n slot.item (items earlier) not_it ∙ at-all side earlier item falling.1 behind
      ]
    where
      clash : {item : T} → Some item ≡ None → ⊥
      clash same = cc

  -- and then the other side has none of that number
  pub at-apart :
      (side : Bool) (slots : List (Slot T)) (item : T) → numbers_fall number_of (items slots) ≡ true
      → item_at number_of n (side_of side slots) ≡ Some item → item_at number_of n (side_of (not side) slots) ≡ None
  at-apart side [] item fall found = refl
  at-apart side (slot ∷ earlier) item fall found =
      let falling = falling-parts number_of slot.item (items earlier) fall in
      elim (cases_Bool (nat_eq (number_of slot.item) n)) [
        | inl is ↦
            let below : is_above number_of n (items earlier) ≡ true = subst (λ k. is_above number_of k (items earlier) ≡ true) (eqb-true _ _ is) falling.0 in
            elim (cases_Bool (on side slot)) [
              | inl mine ↦
                  let off : on (not side) slot ≡ false = on-other side slot ∙ ap not mine in
                  ap (item_at number_of n) (side_on (not side) slot earlier off) ∙ at-below number_of n (side_of (not side) earlier) (above-side number_of n (not side) earlier below)
              | inr theirs ↦
                  let none : item_at number_of n (side_of side (slot ∷ earlier)) ≡ None =
                  ap (item_at number_of n) (side_on side slot earlier theirs) ∙ at-below number_of n (side_of side earlier) (above-side number_of n side earlier below) in
                  absurd (clash (sym found ∙ none))
            ]
        | inr not_it ↦ elim (cases_Bool (on side slot)) [
          | inl mine ↦
              let off : on (not side) slot ≡ false = on-other side slot ∙ ap not mine in
              ap (item_at number_of n) (side_on (not side) slot earlier off)
              ∙ at-apart side earlier item falling.1 (sym (ap (item_at number_of n) (side_here side slot earlier mine) ∙ at-on number_of n slot.item (side_of side earlier) not_it) ∙ found)
          | inr theirs ↦
              let off : on (not side) slot ≡ true = on-other side slot ∙ ap not theirs in
              ap (item_at number_of n) (side_here (not side) slot earlier off) ∙ at-on number_of n slot.item (side_of (not side) earlier) not_it
              ∙ at-apart side earlier item falling.1 (sym (ap (item_at number_of n) (side_on side slot earlier theirs)) ∙ found)
        ]
      ]
    where
      clash : {item : T} → Some item ≡ None → ⊥
      clash same = cc

  -- ---- what is shown

  pub shown-lifted : (slots : List (Slot T)) → numbers_fall number_of (items slots) ≡ true → shown_of (marked number_of n false slots) ≡ lifted_out number_of n (shown_of slots)
  shown-lifted slots fall =
      let list = marked-out number_of n false slots in
      let kept = marked-into false slots fall in
      λ i. record { list = list i; kept = kept i }

  pub shown-put_back : (slots : List (Slot T)) → numbers_fall number_of (items slots) ≡ true → shown_of (marked number_of n true slots) ≡ put_back number_of n (shown_of slots)
  shown-put_back slots fall =
      let list = marked-into true slots fall in
      let kept = marked-out number_of n true slots in
      λ i. record { list = list i; kept = kept i }
