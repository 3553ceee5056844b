-- Lists of which some items stay: what is read from them, and what is found in them.
use Rattle.std.proofs.Common.{◌≡◌, Bool, true, false, List, [], ◌∷◌, ◌++◌, reverse, Option, Some, None, refl, sym, ap, ◌∙◌, inl, inr, filter, find, All, filter_map, option_map, option_and_then, append-nil}
use Rattle.std.specs.List.{cons_option, list_any, list_all}
use Rattle.std.specs.Option.{option_or}
use Rattle.std.proofs.lemmas.Bool.{cases_Bool, and_from, and_parts}
use Rattle.std.proofs.lemmas.List.{reverse-append}
use Rattle.std.proofs.lemmas.List.Elements.{All-head, All-tail, filter-append}
use Rattle.blot_types.specs.Refusals.{first_of}
use Rattle.blot_types.proofs.AcceptLemmas.{or_parts}
use Rattle.blot_types.proofs.ChainLemmas.{clash}

-- ---- options

pub mapped-none : {A B : Type 0} (f : A → B) (o : Option A) → o ≡ None → option_map f o ≡ None
mapped-none f o is = ap (option_map f) is

pub or-none : {A : Type 0} (a b : Option A) → a ≡ None → b ≡ None → option_or a b ≡ None
or-none a b first second = rw (first, second) refl

-- what answers nothing wherever another does, answers nothing where that does
pub then-none : {A B : Type 0} (f g : A → Option B) (o : Option A) → ((a : A) → f a ≡ None → g a ≡ None) → option_and_then f o ≡ None → option_and_then g o ≡ None
then-none f g None weaker none = refl
then-none f g (Some a) weaker none = weaker a none

-- ---- what is read from the items that stay

read_one :
    {A B : Type 0} (f : A → Option B) (p : A → Bool) (q : B → Bool) (x : A) (xs : List A) (found : Option B) → f x ≡ found
    → ((b : B) → f x ≡ Some b → p x ≡ q b) → filter_map f (filter p xs) ≡ filter q (filter_map f xs)
    → filter_map f (filter p (x ∷ xs)) ≡ filter q (cons_option found (filter_map f xs))
read_one f p q x xs None is same rest =
    elim (cases_Bool (p x)) [
      | inl stays ↦ rw (stays, is) rest
      | inr goes ↦ rw goes rest
    ]
read_one f p q x xs (Some b) is same rest =
    elim (cases_Bool (p x)) [
      | inl stays ↦
          let kept : q b ≡ true = sym (same b is) ∙ stays in
          rw (stays, is, kept) (ap (λ ys. b ∷ ys) rest)
      | inr goes ↦
          let passed : q b ≡ false = sym (same b is) ∙ goes in
          rw (goes, passed) rest
    ]

-- what is read from the items that stay is what stays of all that is read
pub filter_map-filter :
    {A B : Type 0} (f : A → Option B) (p : A → Bool) (q : B → Bool) (xs : List A) → ((a : A) (b : B) → f a ≡ Some b → p a ≡ q b)
    → filter_map f (filter p xs) ≡ filter q (filter_map f xs)
filter_map-filter f p q [] same = refl
filter_map-filter f p q (x ∷ xs) same = read_one f p q x xs (f x) refl (same x) (filter_map-filter f p q xs same)

pub filter_map-agree : {A B : Type 0} (f g : A → Option B) (xs : List A) → All (λ x. f x ≡ g x) xs → filter_map f xs ≡ filter_map g xs
filter_map-agree f g [] agree = refl
filter_map-agree f g (x ∷ xs) agree =
    let here : f x ≡ g x = All-head (λ y. f y ≡ g y) x xs agree in
    ap (λ o. cons_option o (filter_map f xs)) here ∙ ap (cons_option (g x)) (filter_map-agree f g xs (All-tail (λ y. f y ≡ g y) x xs agree))

-- ---- what is found among the items that stay

-- nothing, where no item that stays would be found that wasn't among all
pub unfound-among :
    {A : Type 0} (p q stays : A → Bool) (xs : List A) → ((x : A) → stays x ≡ true → q x ≡ true → p x ≡ true) → find p xs ≡ None
    → find q (filter stays xs) ≡ None
unfound-among p q stays [] stronger none = refl
unfound-among p q stays (x ∷ xs) stronger none =
    elim (cases_Bool (p x)) [
      | inl here ↦ absurd (clash (rw here at none))
      | inr passed ↦
          let rest = unfound-among p q stays xs stronger (rw passed at none) in
          elim (cases_Bool (stays x)) [
            | inl kept ↦
                elim (cases_Bool (q x)) [
                  | inl found ↦ (let both : true ≡ false = sym (stronger x kept found) ∙ passed in cc)
                  | inr other ↦ rw (kept, other) rest
                ]
            | inr goes ↦ rw goes rest
          ]
    ]

-- the same as among all, where all that pass stay
pub find-stays : {A : Type 0} (p stays : A → Bool) (xs : List A) → All (λ x. p x ≡ true → stays x ≡ true) xs → find p (filter stays xs) ≡ find p xs
find-stays p stays [] all = refl
find-stays p stays (x ∷ xs) all =
    let rest = find-stays p stays xs (All-tail (λ y. p y ≡ true → stays y ≡ true) x xs all) in
    let here : p x ≡ true → stays x ≡ true = All-head (λ y. p y ≡ true → stays y ≡ true) x xs all in
    elim (cases_Bool (p x)) [
      | inl passes ↦ rw (here passes, passes) refl
      | inr fails ↦
          elim (cases_Bool (stays x)) [
            | inl kept ↦ rw (kept, fails) rest
            | inr goes ↦ rw (goes, fails) rest
          ]
    ]

pub any-stays : {A : Type 0} (p stays : A → Bool) (xs : List A) → ((x : A) → p x ≡ true → stays x ≡ true) → list_any p (filter stays xs) ≡ list_any p xs
any-stays p stays [] all = refl
any-stays p stays (x ∷ xs) all =
    let rest = any-stays p stays xs all in
    elim (cases_Bool (p x)) [
      | inl passes ↦ rw (all x passes, passes) refl
      | inr fails ↦
          elim (cases_Bool (stays x)) [
            | inl kept ↦ rw (kept, fails) rest
            | inr goes ↦ rw (goes, fails) rest
          ]
    ]

pub all-stays : {A : Type 0} (p stays : A → Bool) (xs : List A) → list_all p xs ≡ true → list_all p (filter stays xs) ≡ true
all-stays p stays [] all = refl
all-stays p stays (x ∷ xs) all =
    let parts : (p x ≡ true) × (list_all p xs ≡ true) = and_parts _ _ all in
    let rest = all-stays p stays xs parts.1 in
    elim (cases_Bool (stays x)) [
      | inl kept ↦ rw kept (and_from _ _ parts.0 rest)
      | inr goes ↦ rw goes rest
    ]

pub find-agree : {A : Type 0} (p q : A → Bool) (xs : List A) → All (λ x. p x ≡ q x) xs → find p xs ≡ find q xs
find-agree p q [] agree = refl
find-agree p q (x ∷ xs) agree =
    let here : p x ≡ q x = All-head (λ y. p y ≡ q y) x xs agree in
    rw (here, find-agree p q xs (All-tail (λ y. p y ≡ q y) x xs agree)) refl

-- ---- first answers

pub first-none : {A B : Type 0} (f g : A → Option B) (xs : List A) → All (λ x. f x ≡ None → g x ≡ None) xs → first_of f xs ≡ None → first_of g xs ≡ None
first-none f g [] weaker none = refl
first-none f g (x ∷ xs) weaker none =
    let parts = or_parts (f x) (first_of f xs) none in
    or-none (g x) (first_of g xs) (All-head (λ y. f y ≡ None → g y ≡ None) x xs weaker parts.0)
    (first-none f g xs (All-tail (λ y. f y ≡ None → g y ≡ None) x xs weaker) parts.1)

-- ---- the same list, turned round

pub filter-reverse : {A : Type 0} (p : A → Bool) (xs : List A) → filter p (reverse xs) ≡ reverse (filter p xs)
filter-reverse p [] = refl
filter-reverse p (x ∷ xs) =
    let turned : filter p (reverse (x ∷ xs)) ≡ filter p (reverse xs) ++ filter p (x ∷ []) = ap (filter p) (reverse-append (x ∷ []) xs) ∙ filter-append p (reverse xs) (x ∷ []) in
    let before : filter p (reverse xs) ≡ reverse (filter p xs) = filter-reverse p xs in
    elim (cases_Bool (p x)) [
      | inl stays ↦
          let last : filter p (x ∷ []) ≡ x ∷ [] = rw stays refl in
          let kept : filter p (x ∷ xs) ≡ x ∷ filter p xs = rw stays refl in
          turned ∙ ap (λ back. filter p (reverse xs) ++ back) last ∙ ap (λ front. front ++ x ∷ []) before ∙ sym (reverse-append (x ∷ []) (filter p xs)) ∙ ap reverse (sym kept)
      | inr goes ↦
          let last : filter p (x ∷ []) ≡ [] = rw goes refl in
          let kept : filter p (x ∷ xs) ≡ filter p xs = rw goes refl in
          turned ∙ ap (λ back. filter p (reverse xs) ++ back) last ∙ append-nil (filter p (reverse xs)) ∙ before ∙ ap reverse (sym kept)
    ]
