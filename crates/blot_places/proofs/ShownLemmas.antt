-- Items lifted out of a list, and put back.
use Rattle.std.proofs.Common.{◌≡◌, ℕ, ◌<◌, ◌≤◌, Bool, true, false, cond, List, [], ◌∷◌, Option, Some, None, refl, sym, ap, subst, ◌∙◌, inl, inr, arith, find, map, not, nat_eq, nat_lt, ◌&&◌, option_map, ltb-true, eqb-true, ne_eqb, le-ltb, lt-ltb}
use Rattle.std.proofs.lemmas.Bool.{cases_Bool, and_from, and_parts}
use Rattle.std.proofs.lemmas.Option.{same_Some}
use Rattle.blot_places.specs.Slots.{is_above, numbers_fall}
use Rattle.blot_places.specs.Shown.{Shown, item_at, without, with_item, with_some, lifted_out, put_back}

-- ---- numbers

pub less-other : (a n : ℕ) → a < n → nat_eq a n ≡ false
less-other a n less = ne_eqb _ _ (λ same. absurd (omega (arith, same, less)))

pub more-other : (a n : ℕ) → n < a → nat_eq a n ≡ false
more-other a n less = ne_eqb _ _ (λ same. absurd (omega (arith, same, less)))

module _ {T : Type 0} (number_of : T → ℕ) where
  pub falling-parts : (item : T) (earlier : List T) → numbers_fall number_of (item ∷ earlier) ≡ true → (is_above number_of (number_of item) earlier ≡ true) × (numbers_fall number_of earlier ≡ true)
  falling-parts item earlier fall = and_parts _ _ fall

module _ {T : Type 0} (number_of : T → ℕ) (n : ℕ) where
  -- ---- one more item, test by test

  pub without-here : (item : T) (items : List T) → nat_eq (number_of item) n ≡ true → without number_of n (item ∷ items) ≡ without number_of n items
  without-here item items is = ap (λ t. cond (not t) (item ∷ without number_of n items) (without number_of n items)) is

  pub without-on : (item : T) (items : List T) → nat_eq (number_of item) n ≡ false → without number_of n (item ∷ items) ≡ item ∷ without number_of n items
  without-on item items is = ap (λ t. cond (not t) (item ∷ without number_of n items) (without number_of n items)) is

  pub at-here : (item : T) (items : List T) → nat_eq (number_of item) n ≡ true → item_at number_of n (item ∷ items) ≡ Some item
  at-here item items is = ap (λ t. cond t (Some item) (item_at number_of n items)) is

  pub at-on : (item : T) (items : List T) → nat_eq (number_of item) n ≡ false → item_at number_of n (item ∷ items) ≡ item_at number_of n items
  at-on item items is = ap (λ t. cond t (Some item) (item_at number_of n items)) is

  -- none of the items below a number has it
  pub at-below : (items : List T) → is_above number_of n items ≡ true → item_at number_of n items ≡ None
  at-below [] below = refl
  at-below (item ∷ items) below =
      let parts : (nat_lt (number_of item) n ≡ true) × (is_above number_of n items ≡ true) = and_parts _ _ below in
      at-on item items (less-other (number_of item) n (ltb-true _ _ parts.0)) ∙ at-below items parts.1

  -- a number above another is above what that is above
  pub above-more : (above : ℕ) (items : List T) → n ≤ above → is_above number_of n items ≡ true → is_above number_of above items ≡ true
  above-more above [] le below = refl
  above-more above (item ∷ items) le below =
      let parts : (nat_lt (number_of item) n ≡ true) × (is_above number_of n items ≡ true) = and_parts _ _ below in
      let less : number_of item < n = ltb-true _ _ parts.0 in
      and_from _ _ (lt-ltb (number_of item) above (omega arith)) (above-more above items le parts.1)

  -- an item that is found is below each number that is above all
  pub at-number : (above : ℕ) (items : List T) (item : T) → is_above number_of above items ≡ true → item_at number_of n items ≡ Some item → nat_lt (number_of item) above ≡ true
  at-number above [] item below is = cc
  at-number above (first ∷ items) item below is =
      let parts : (nat_lt (number_of first) above ≡ true) × (is_above number_of above items ≡ true) = and_parts _ _ below in
      elim (cases_Bool (nat_eq (number_of first) n)) [
        | inl here ↦ subst (λ found. nat_lt (number_of found) above ≡ true) (same_Some first item (sym (at-here first items here) ∙ is)) parts.0
        | inr other ↦ at-number above items item parts.1 (sym (at-on first items other) ∙ is)
      ]

  -- an item that is found has the number
  pub at-its : (items : List T) (item : T) → item_at number_of n items ≡ Some item → nat_eq (number_of item) n ≡ true
  at-its [] item is = cc
  at-its (first ∷ items) item is =
      elim (cases_Bool (nat_eq (number_of first) n)) [
        | inl here ↦ subst (λ found. nat_eq (number_of found) n ≡ true) (same_Some first item (sym (at-here first items here) ∙ is)) here
        | inr other ↦ at-its items item (sym (at-on first items other) ∙ is)
      ]

  -- where none has the number, the first hasn't, and none of the others
  pub at-none : (first : T) (items : List T) → item_at number_of n (first ∷ items) ≡ None → (nat_eq (number_of first) n ≡ false) × (item_at number_of n items ≡ None)
  at-none first items none =
      elim (cases_Bool (nat_eq (number_of first) n)) [
        | inl here ↦ absurd (clash (sym (at-here first items here) ∙ none))
        | inr other ↦ (other, sym (at-on first items other) ∙ none)
      ]
    where
      clash : {item : T} → Some item ≡ None → ⊥
      clash same = cc

  pub without-none : (items : List T) → item_at number_of n items ≡ None → without number_of n items ≡ items
  without-none [] none = refl
  without-none (first ∷ items) none =
      let parts = at-none first items none in
      without-on first items parts.0 ∙ ap (λ rest. first ∷ rest) (without-none items parts.1)

-- ---- one item put in at its place

module _ {T : Type 0} (number_of : T → ℕ) where
  pub with_item-front : (item : T) (items : List T) → is_above number_of (number_of item) items ≡ true → with_item number_of item items ≡ item ∷ items
  with_item-front item [] above = refl
  with_item-front item (first ∷ items) above =
      let less : number_of first < number_of item = ltb-true _ _ (and_parts _ _ above).0 in
      ap (λ t. cond t (first ∷ with_item number_of item items) (item ∷ first ∷ items)) (le-ltb (number_of item) (number_of first) (omega arith))

  pub with_item-on : (item first : T) (items : List T) → nat_lt (number_of item) (number_of first) ≡ true → with_item number_of item (first ∷ items) ≡ first ∷ with_item number_of item items
  with_item-on item first items less = ap (λ t. cond t (first ∷ with_item number_of item items) (item ∷ first ∷ items)) less

  pub with_item-here : (item first : T) (items : List T) → nat_lt (number_of item) (number_of first) ≡ false → with_item number_of item (first ∷ items) ≡ item ∷ first ∷ items
  with_item-here item first items more = ap (λ t. cond t (first ∷ with_item number_of item items) (item ∷ first ∷ items)) more

  pub with_some-behind : (first : T) (item : Option T) (items : List T) → ((found : T) → item ≡ Some found → nat_lt (number_of found) (number_of first) ≡ true) → with_some number_of item (first ∷ items) ≡ first ∷ with_some number_of item items
  with_some-behind first None items less = refl
  with_some-behind first (Some item) items less = with_item-on item first items (less item refl)

module _ {T : Type 0} (number_of : T → ℕ) (n : ℕ) (item : T) (its : nat_eq (number_of item) n ≡ true) where
  -- it is found there
  at-with_item : (items : List T) → item_at number_of n items ≡ None → item_at number_of n (with_item number_of item items) ≡ Some item
  at-with_item [] none = at-here number_of n item [] its
  at-with_item (first ∷ items) none =
      let parts = at-none number_of n first items none in
      elim (cases_Bool (nat_lt (number_of item) (number_of first))) [
        | inl less ↦
            ap (item_at number_of n) (with_item-on number_of item first items less)
            ∙ at-on number_of n first (with_item number_of item items) parts.0 ∙ at-with_item items parts.1
        | inr more ↦ ap (item_at number_of n) (with_item-here number_of item first items more) ∙ at-here number_of n item (first ∷ items) its
      ]

  -- and taken out again, it leaves the others
  without-with_item : (items : List T) → item_at number_of n items ≡ None → without number_of n (with_item number_of item items) ≡ items
  without-with_item [] none = without-here number_of n item [] its
  without-with_item (first ∷ items) none =
      let parts = at-none number_of n first items none in
      elim (cases_Bool (nat_lt (number_of item) (number_of first))) [
        | inl less ↦
            ap (without number_of n) (with_item-on number_of item first items less)
            ∙ without-on number_of n first (with_item number_of item items) parts.0 ∙ ap (λ rest. first ∷ rest) (without-with_item items parts.1)
        | inr more ↦
            ap (without number_of n) (with_item-here number_of item first items more)
            ∙ without-here number_of n item (first ∷ items) its ∙ without-none number_of n (first ∷ items) none
      ]

-- an item taken out of falling ones, and put in again
with-without :
    {T : Type 0} (number_of : T → ℕ) (n : ℕ) (items : List T) (item : T) → numbers_fall number_of items ≡ true → item_at number_of n items ≡ Some item
    → with_item number_of item (without number_of n items) ≡ items
with-without number_of n [] item fall found = cc
with-without number_of n (first ∷ items) item fall found =
    let falling = falling-parts number_of first items fall in
    elim (cases_Bool (nat_eq (number_of first) n)) [
      | inl here ↦
          let same = same_Some first item (sym (at-here number_of n first items here) ∙ found) in
          let below : is_above number_of n items ≡ true = subst (λ k. is_above number_of k items ≡ true) (eqb-true _ _ here) falling.0 in
          let rest : without number_of n (first ∷ items) ≡ items =
          without-here number_of n first items here ∙ without-none number_of n items (at-below number_of n items below) in
          (λ i. with_item number_of (sym same i) (rest i)) ∙ with_item-front number_of first items falling.0
      | inr other ↦
          let behind : item_at number_of n items ≡ Some item = sym (at-on number_of n first items other) ∙ found in
          ap (with_item number_of item) (without-on number_of n first items other)
          ∙ with_item-on number_of item first (without number_of n items) (at-number number_of n (number_of first) items item falling.0 behind)
          ∙ ap (λ rest. first ∷ rest) (with-without number_of n items item falling.1 behind)
    ]

-- an item that is lifted out is found among those that are kept
pub at-lifted :
    {T : Type 0} (number_of : T → ℕ) (n : ℕ) (shown : Shown T) (item : T) → item_at number_of n shown.list ≡ Some item → item_at number_of n shown.kept ≡ None
    → item_at number_of n (lifted_out number_of n shown).kept ≡ Some item
at-lifted number_of n shown item found apart =
    ap (λ found. item_at number_of n (with_some number_of found shown.kept)) found
    ∙ at-with_item number_of n item (at-its number_of n shown.list item found) shown.kept apart

-- and put back, it stands where it stood
pub put_back-lifted :
    {T : Type 0} (number_of : T → ℕ) (n : ℕ) (shown : Shown T) (item : T) → numbers_fall number_of shown.list ≡ true
    → item_at number_of n shown.list ≡ Some item → item_at number_of n shown.kept ≡ None
    → put_back number_of n (lifted_out number_of n shown) ≡ shown
put_back-lifted number_of n shown item fall found apart =
    let its = at-its number_of n shown.list item found in
    let kept : (lifted_out number_of n shown).kept ≡ with_item number_of item shown.kept = ap (λ found. with_some number_of found shown.kept) found in
    let back = at-lifted number_of n shown item found apart in
    let list : (put_back number_of n (lifted_out number_of n shown)).list ≡ shown.list =
    ap (λ found. with_some number_of found (without number_of n shown.list)) back ∙ with-without number_of n shown.list item fall found in
    let rest : (put_back number_of n (lifted_out number_of n shown)).kept ≡ shown.kept =
    ap (without number_of n) kept ∙ without-with_item number_of n item its shown.kept apart in
    λ i. record { list = list i; kept = rest i }

-- ---- what no item passes

module _ {T : Type 0} (test : T → Bool) where
  -- a test that finds none fails at each item
  find-none : (first : T) (items : List T) → find test (first ∷ items) ≡ None → (test first ≡ false) × (find test items ≡ None)
  find-none first items none =
      elim (cases_Bool (test first)) [
        | inl here ↦ absurd (clash (sym (ap (λ t. cond t (Some first) (find test items)) here) ∙ none))
        | inr other ↦ (other, sym (ap (λ t. cond t (Some first) (find test items)) other) ∙ none)
      ]
    where
      clash : {item : T} → Some item ≡ None → ⊥
      clash same = cc

  find-skip : (first : T) (items : List T) → test first ≡ false → find test items ≡ None → find test (first ∷ items) ≡ None
  find-skip first items other none = ap (λ t. cond t (Some first) (find test items)) other ∙ none

  module _ (number_of : T → ℕ) where
    pub none-at : (n : ℕ) (items : List T) (item : T) → find test items ≡ None → item_at number_of n items ≡ Some item → test item ≡ false
    none-at n [] item none found = cc
    none-at n (first ∷ items) item none found =
        let parts = find-none first items none in
        elim (cases_Bool (nat_eq (number_of first) n)) [
          | inl here ↦ subst (λ it. test it ≡ false) (same_Some first item (sym (at-here number_of n first items here) ∙ found)) parts.0
          | inr other ↦ none-at n items item parts.1 (sym (at-on number_of n first items other) ∙ found)
        ]

    pub none-without : (n : ℕ) (items : List T) → find test items ≡ None → find test (without number_of n items) ≡ None
    none-without n [] none = refl
    none-without n (first ∷ items) none =
        let parts = find-none first items none in
        elim (cases_Bool (nat_eq (number_of first) n)) [
          | inl here ↦ ap (find test) (without-here number_of n first items here) ∙ none-without n items parts.1
          | inr other ↦
              ap (find test) (without-on number_of n first items other) ∙ find-skip first (without number_of n items) parts.0 (none-without n items parts.1)
        ]

    none-with_item : (item : T) (items : List T) → find test items ≡ None → test item ≡ false → find test (with_item number_of item items) ≡ None
    none-with_item item [] none fails = find-skip item [] fails refl
    none-with_item item (first ∷ items) none fails =
        let parts = find-none first items none in
        elim (cases_Bool (nat_lt (number_of item) (number_of first))) [
          | inl less ↦
              ap (find test) (with_item-on number_of item first items less)
              ∙ find-skip first (with_item number_of item items) parts.0 (none-with_item item items parts.1 fails)
          | inr more ↦ ap (find test) (with_item-here number_of item first items more) ∙ find-skip item (first ∷ items) fails none
        ]

    pub none-with_some : (item : Option T) (items : List T) → find test items ≡ None → ((it : T) → item ≡ Some it → test it ≡ false) → find test (with_some number_of item items) ≡ None
    none-with_some None items none fails = none
    none-with_some (Some item) items none fails = none-with_item item items none (fails item refl)

-- ---- seen through a function that keeps the number

module _ {T A : Type 0} (f : T → A) (number_of : A → ℕ) where
  abbrev its_number : T → ℕ
  its_number item = number_of (f item)

  -- each item seen through it
  abbrev pub through : Shown T → Shown A
  through shown = record { list = map f shown.list; kept = map f shown.kept }

  pub above-through : (n : ℕ) (items : List T) → is_above number_of n (map f items) ≡ is_above its_number n items
  above-through n [] = refl
  above-through n (item ∷ items) = ap (λ rest. nat_lt (its_number item) n && rest) (above-through n items)

  pub at-through : (n : ℕ) (items : List T) → item_at number_of n (map f items) ≡ option_map f (item_at its_number n items)
  at-through n [] = refl
  at-through n (item ∷ items) =
      elim (cases_Bool (nat_eq (its_number item) n)) [
        | inl here ↦ at-here number_of n (f item) (map f items) here ∙ sym (ap (option_map f) (at-here its_number n item items here))
        | inr other ↦ at-on number_of n (f item) (map f items) other ∙ at-through n items ∙ sym (ap (option_map f) (at-on its_number n item items other))
      ]

  without-through : (n : ℕ) (items : List T) → map f (without its_number n items) ≡ without number_of n (map f items)
  without-through n [] = refl
  without-through n (item ∷ items) =
      elim (cases_Bool (nat_eq (its_number item) n)) [
        | inl here ↦ ap (map f) (without-here its_number n item items here) ∙ without-through n items ∙ sym (without-here number_of n (f item) (map f items) here)
        | inr other ↦
            ap (map f) (without-on its_number n item items other) ∙ ap (λ rest. f item ∷ rest) (without-through n items)
            ∙ sym (without-on number_of n (f item) (map f items) other)
      ]

  with_item-through : (item : T) (items : List T) → map f (with_item its_number item items) ≡ with_item number_of (f item) (map f items)
  with_item-through item [] = refl
  with_item-through item (first ∷ items) =
      elim (cases_Bool (nat_lt (its_number item) (its_number first))) [
        | inl less ↦
            ap (map f) (with_item-on its_number item first items less) ∙ ap (λ rest. f first ∷ rest) (with_item-through item items)
            ∙ sym (with_item-on number_of (f item) (f first) (map f items) less)
        | inr more ↦ ap (map f) (with_item-here its_number item first items more) ∙ sym (with_item-here number_of (f item) (f first) (map f items) more)
      ]

  with_some-through : (item : Option T) (items : List T) → map f (with_some its_number item items) ≡ with_some number_of (option_map f item) (map f items)
  with_some-through None items = refl
  with_some-through (Some item) items = with_item-through item items

  pub lifted-through : (n : ℕ) (shown : Shown T) → through (lifted_out its_number n shown) ≡ lifted_out number_of n (through shown)
  lifted-through n shown =
      let list = without-through n shown.list in
      let kept = with_some-through (item_at its_number n shown.list) shown.kept ∙ ap (λ found. with_some number_of found (map f shown.kept)) (sym (at-through n shown.list)) in
      λ i. record { list = list i; kept = kept i }

  pub put_back-through : (n : ℕ) (shown : Shown T) → through (put_back its_number n shown) ≡ put_back number_of n (through shown)
  put_back-through n shown =
      let list = with_some-through (item_at its_number n shown.kept) shown.list ∙ ap (λ found. with_some number_of found (map f shown.list)) (sym (at-through n shown.kept)) in
      let kept = without-through n shown.kept in
      λ i. record { list = list i; kept = kept i }
