-- What is in a list, and what is found in it.
use Rattle.std.proofs.Common.{◌≡◌, ℕ, ◌<◌, Bool, true, false, List, [], ◌∷◌, ◌++◌, length, get_or, suc, reverse, map, Option, Some, None, ◌⊎◌, refl, sym, ap, subst, ◌∙◌, inl, inr, arith, Contains, filter, nat_eq, nat_lt, not, eqb-true, ltb-true}
use Rattle.std.proofs.lemmas.Bool.{cases_Bool}
use Rattle.std.proofs.lemmas.List.{reverse-append}
use Rattle.std.proofs.lemmas.List.Elements.{Contains-append_left, Contains-append_right, Contains-append_cases, Contains-push, Contains-push_cases}
use Rattle.blot_types.proofs.GeneralLemmas.{found-contains}
use Rattle.blot_places.specs.Shown.{item_at, without, with_item}
use Rattle.blot_places.proofs.ShownLemmas.{at-here, at-on, at-its, more-other}

-- ---- in a list

pub cons_cases : {X : Type 0} (x : X) (xs : List X) (y : X) → Contains (x ∷ xs) y → (x ≡ y) ⊎ Contains xs y
cons_cases x xs y within =
    elim (Contains-append_cases (x ∷ []) xs y within) [
      | inl first ↦ elim (Contains-push_cases [] x y first) [
        | inl none ↦ absurd (omega (arith, none.1))
        | inr own ↦ inl own
      ]
      | inr later ↦ inr later
    ]

pub cons_first : {X : Type 0} (x : X) (xs : List X) → Contains (x ∷ xs) x
cons_first x xs = Contains-append_left (x ∷ []) xs x (Contains-push [] x)

pub cons_later : {X : Type 0} (x : X) (xs : List X) (y : X) → Contains xs y → Contains (x ∷ xs) y
cons_later x xs y within = Contains-append_right (x ∷ []) xs y within

pub none_within : {X : Type 0} (y : X) → Contains [] y → ⊥
none_within y within = omega (arith, within.1)

-- in one of two lists
pub either : {X : Type 0} (xs ys us vs : List X) (y : X) → (Contains xs y → Contains (us ++ vs) y) → (Contains ys y → Contains (us ++ vs) y) → Contains (xs ++ ys) y → Contains (us ++ vs) y
either xs ys us vs y left right within = elim (Contains-append_cases xs ys y within) [ inl here ↦ left here | inr there ↦ right there ]

-- in a list with an item in the middle
pub middle_cases : {X : Type 0} (xs ys : List X) (x y : X) → Contains (xs ++ x ∷ ys) y → (x ≡ y) ⊎ Contains (xs ++ ys) y
middle_cases xs ys x y within =
    elim (Contains-append_cases xs (x ∷ ys) y within) [
      | inl front ↦ inr (Contains-append_left xs ys y front)
      | inr back ↦ elim (cons_cases x ys y back) [ inl own ↦ inl own | inr later ↦ inr (Contains-append_right xs ys y later) ]
    ]

pub middle_own : {X : Type 0} (xs ys : List X) (x : X) → Contains (xs ++ x ∷ ys) x
middle_own xs ys x = Contains-append_right xs (x ∷ ys) x (cons_first x ys)

pub middle_other : {X : Type 0} (xs ys : List X) (x y : X) → Contains (xs ++ ys) y → Contains (xs ++ x ∷ ys) y
middle_other xs ys x y within =
    either xs ys xs (x ∷ ys) y (λ front. Contains-append_left xs (x ∷ ys) y front) (λ back. Contains-append_right xs (x ∷ ys) y (cons_later x ys y back)) within

-- ---- through a function, and a test

pub mapped : {X Y : Type 0} (f : X → Y) (xs : List X) (x : X) → Contains xs x → Contains (map f xs) (f x)
mapped f [] x within = absurd (none_within x within)
mapped f (first ∷ xs) x within =
    elim (cons_cases first xs x within) [
      | inl own ↦ subst (λ y. Contains (f first ∷ map f xs) (f y)) own (cons_first (f first) (map f xs))
      | inr later ↦ cons_later (f first) (map f xs) (f x) (mapped f xs x later)
    ]

pub from_mapped : {X Y : Type 0} (f : X → Y) (xs : List X) (y : Y) → Contains (map f xs) y → (x : X) × Contains xs x × (f x ≡ y)
from_mapped f [] y within = absurd (none_within y within)
from_mapped f (first ∷ xs) y within =
    elim (cons_cases (f first) (map f xs) y within) [
      | inl own ↦ (first, cons_first first xs, own)
      | inr later ↦ (let rest = from_mapped f xs y later in (rest.0, cons_later first xs rest.0 rest.1, rest.2))
    ]

pub passed : {X : Type 0} (p : X → Bool) (xs : List X) (x : X) → p x ≡ true → Contains xs x → Contains (filter p xs) x
passed p [] x passes within = within
passed p (first ∷ xs) x passes within =
    elim (cases_Bool (p first)) [
      | inl also ↦ rw also (elim (cons_cases first xs x within) [
        | inl own ↦ subst (Contains (first ∷ filter p xs)) own (cons_first first (filter p xs))
        | inr later ↦ cons_later first (filter p xs) x (passed p xs x passes later)
      ])
      | inr fails ↦ rw fails (elim (cons_cases first xs x within) [
        | inl own ↦ (let clash : true ≡ false = sym passes ∙ ap p (sym own) ∙ fails in cc)
        | inr later ↦ passed p xs x passes later
      ])
    ]

pub from_passed : {X : Type 0} (p : X → Bool) (xs : List X) (x : X) → Contains (filter p xs) x → Contains xs x × (p x ≡ true)
from_passed p [] x within = absurd (none_within x within)
from_passed p (first ∷ xs) x within =
    elim (cases_Bool (p first)) [
      | inl also ↦ elim (cons_cases first (filter p xs) x (rw also at within)) [
        | inl own ↦ (subst (Contains (first ∷ xs)) own (cons_first first xs), ap p (sym own) ∙ also)
        | inr later ↦ (let rest = from_passed p xs x later in (cons_later first xs x rest.0, rest.1))
      ]
      | inr fails ↦ (let rest = from_passed p xs x (rw fails at within) in (cons_later first xs x rest.0, rest.1))
    ]

-- ---- an item found

pub known : {X : Type 0} (o : Option X) → (o ≡ None) ⊎ ((x : X) × (o ≡ Some x))
known None = inl refl
known (Some x) = inr (x, refl)

pub clash_Some : {X : Type 0} (o : Option X) (x : X) → o ≡ None → o ≡ Some x → ⊥
clash_Some o x none some = cc

-- ---- items with numbers

module _ {T : Type 0} (number_of : T → ℕ) where
  -- an item of a number is there, or none is found
  pub found_number : (n : ℕ) (items : List T) (item : T) → item_at number_of n items ≡ Some item → Contains (map number_of items) n
  found_number n items item found =
      subst (Contains (map number_of items)) (eqb-true _ _ (at-its number_of n items item found))
      (mapped number_of items item (found-contains (λ item. nat_eq (number_of item) n) items item found))

  pub none_found : (n : ℕ) (items : List T) → (Contains (map number_of items) n → ⊥) → item_at number_of n items ≡ None
  none_found n items out =
      elim (known (item_at number_of n items)) [ inl none ↦ none | inr some ↦ absurd (out (found_number n items some.0 some.1)) ]

  -- where none is found, the first isn't it, nor any of the others
  at-none : (n : ℕ) (first : T) (items : List T) → item_at number_of n (first ∷ items) ≡ None → (nat_eq (number_of first) n ≡ false) × (item_at number_of n items ≡ None)
  at-none n first items none =
      elim (cases_Bool (nat_eq (number_of first) n)) [
        | inl here ↦ absurd (clash_Some (item_at number_of n (first ∷ items)) first none (at-here number_of n first items here))
        | inr other ↦ (other, sym (at-on number_of n first items other) ∙ none)
      ]

  -- in the middle
  pub at-middle :
      (n : ℕ) (later earlier : List T) (item : T) → nat_eq (number_of item) n ≡ true → item_at number_of n (later ++ earlier) ≡ None
      → item_at number_of n (later ++ item ∷ earlier) ≡ Some item
  at-middle n [] earlier item its none = at-here number_of n item earlier its
  at-middle n (first ∷ later) earlier item its none =
      let parts = at-none n first (later ++ earlier) none in
      at-on number_of n first (later ++ item ∷ earlier) parts.0 ∙ at-middle n later earlier item its parts.1

  pub at-beside :
      (n : ℕ) (later earlier : List T) (item : T) → nat_eq (number_of item) n ≡ false → item_at number_of n (later ++ item ∷ earlier) ≡ item_at number_of n (later ++ earlier)
  at-beside n [] earlier item other = at-on number_of n item earlier other
  at-beside n (first ∷ later) earlier item other =
      elim (cases_Bool (nat_eq (number_of first) n)) [
        | inl here ↦ at-here number_of n first (later ++ item ∷ earlier) here ∙ sym (at-here number_of n first (later ++ earlier) here)
        | inr on ↦ at-on number_of n first (later ++ item ∷ earlier) on ∙ at-beside n later earlier item other ∙ sym (at-on number_of n first (later ++ earlier) on)
      ]

  -- one put in
  pub with_item_cases : (item : T) (items : List T) (other : T) → Contains (with_item number_of item items) other → (item ≡ other) ⊎ Contains items other
  with_item_cases item [] other within = cons_cases item [] other within
  with_item_cases item (first ∷ items) other within =
      elim (cases_Bool (nat_lt (number_of item) (number_of first))) [
        | inl less ↦ elim (cons_cases first (with_item number_of item items) other (rw less at within)) [
          | inl own ↦ inr (subst (Contains (first ∷ items)) own (cons_first first items))
          | inr later ↦ elim (with_item_cases item items other later) [ inl own ↦ inl own | inr rest ↦ inr (cons_later first items other rest) ]
        ]
        | inr more ↦ cons_cases item (first ∷ items) other (rw more at within)
      ]

  pub at-with_own : (n : ℕ) (item : T) (items : List T) → nat_eq (number_of item) n ≡ true → item_at number_of n (with_item number_of item items) ≡ Some item
  at-with_own n item [] its = at-here number_of n item [] its
  at-with_own n item (first ∷ items) its =
      elim (cases_Bool (nat_lt (number_of item) (number_of first))) [
        | inl less ↦
            let below : number_of item < number_of first = ltb-true _ _ less in
            let same : number_of item ≡ n = eqb-true _ _ its in
            rw less (at-on number_of n first (with_item number_of item items) (more-other (number_of first) n (omega (arith, below, same))) ∙ at-with_own n item items its)
        | inr more ↦ rw more (at-here number_of n item (first ∷ items) its)
      ]

  pub at-with_other : (n : ℕ) (item : T) (items : List T) → nat_eq (number_of item) n ≡ false → item_at number_of n (with_item number_of item items) ≡ item_at number_of n items
  at-with_other n item [] apart = at-on number_of n item [] apart
  at-with_other n item (first ∷ items) apart =
      elim (cases_Bool (nat_lt (number_of item) (number_of first))) [
        | inl less ↦ rw less (elim (cases_Bool (nat_eq (number_of first) n)) [
          | inl here ↦ at-here number_of n first (with_item number_of item items) here ∙ sym (at-here number_of n first items here)
          | inr on ↦ at-on number_of n first (with_item number_of item items) on ∙ at-with_other n item items apart ∙ sym (at-on number_of n first items on)
        ])
        | inr more ↦ rw more (at-on number_of n item (first ∷ items) apart)
      ]

  -- one taken out
  pub at-without_other : (k n : ℕ) (items : List T) → nat_eq k n ≡ false → item_at number_of n (without number_of k items) ≡ item_at number_of n items
  at-without_other k n [] apart = refl
  at-without_other k n (first ∷ items) apart =
      elim (cases_Bool (nat_eq (number_of first) k)) [
        | inl goes ↦
            let other : nat_eq (number_of first) n ≡ false = ap (λ number. nat_eq number n) (eqb-true _ _ goes) ∙ apart in
            rw goes (at-without_other k n items apart ∙ sym (at-on number_of n first items other))
        | inr stays ↦ rw stays (elim (cases_Bool (nat_eq (number_of first) n)) [
          | inl here ↦ at-here number_of n first (without number_of k items) here ∙ sym (at-here number_of n first items here)
          | inr on ↦ at-on number_of n first (without number_of k items) on ∙ at-without_other k n items apart ∙ sym (at-on number_of n first items on)
        ])
      ]

  -- what is left doesn't have the number
  pub without_other : (k n : ℕ) (items : List T) → Contains (map number_of (without number_of k items)) n → Contains (map number_of items) n × (nat_eq n k ≡ false)
  without_other k n items within =
      let mine = from_mapped number_of (without number_of k items) n within in
      let kept = from_passed (λ item. not (nat_eq (number_of item) k)) items mine.0 mine.1 in
      let other : not (nat_eq n k) ≡ true = subst (λ number. not (nat_eq number k) ≡ true) mine.2 kept.1 in
      (subst (Contains (map number_of items)) mine.2 (mapped number_of items mine.0 kept.0), not_true (nat_eq n k) other)
    where
      not_true : (b : Bool) → not b ≡ true → b ≡ false
      not_true true is = cc
      not_true false is = refl

-- ---- a list turned

-- what is in a list turned has a place in the list
pub turned_within : {X : Type 0} (xs : List X) (x : X) → Contains (reverse xs) x → (k : ℕ) × (k < length xs) × (get_or xs k x ≡ x)
turned_within [] x within = within
turned_within (first ∷ xs) x within =
    elim (Contains-append_cases (reverse xs) (first ∷ []) x (subst (λ l. Contains l x) (reverse-append (first ∷ []) xs) within)) [
      | inl later ↦ (let it = turned_within xs x later in (suc it.0, omega (arith, it.1), it.2))
      | inr own ↦ elim (cons_cases first [] x own) [ inl same ↦ (0, omega arith, same) | inr none ↦ absurd (none_within x none) ]
    ]

-- what is in a list is in it turned
pub within_turned : {X : Type 0} (xs : List X) (x : X) → Contains xs x → Contains (reverse xs) x
within_turned [] x within = within
within_turned (first ∷ xs) x within =
    subst (λ l. Contains l x) (sym (reverse-append (first ∷ []) xs))
    (elim (cons_cases first xs x within) [
      | inl own ↦ subst (Contains (reverse xs ++ first ∷ [])) own (Contains-push (reverse xs) first)
      | inr later ↦ Contains-append_left (reverse xs) (first ∷ []) x (within_turned xs x later)
    ])
