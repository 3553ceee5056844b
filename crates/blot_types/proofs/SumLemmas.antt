-- Signed sums over lists.
use Rattle.std.proofs.Common.{◌≡◌, Bool, pos, ◌+ℤ◌, arith, List, [], ◌∷◌, ◌++◌, map, refl, sym, ap, ◌∙◌, inl, inr, ℤ, filter, not, fold, All, if◌then◌else◌, flat_map}
use Rattle.std.proofs.lemmas.Bool.{cases_Bool}
use Rattle.std.proofs.lemmas.Int.{ints}
use Rattle.std.proofs.lemmas.List.Elements.{All-head, All-tail}
use Rattle.blot_types.specs.Order.{total}

total-from : {A : Type 0} (f : A → ℤ) (start : ℤ) (xs : List A) → fold (λ sum x. sum +ℤ f x) start xs ≡ (start +ℤ total f xs)
total-from f start [] = omega (arith, ints)
total-from f start (x ∷ xs) =
    let first : fold (λ sum y. sum +ℤ f y) (start +ℤ f x) xs ≡ ((start +ℤ f x) +ℤ total f xs) = total-from f (start +ℤ f x) xs in
    let second : fold (λ sum y. sum +ℤ f y) (pos 0 +ℤ f x) xs ≡ ((pos 0 +ℤ f x) +ℤ total f xs) = total-from f (pos 0 +ℤ f x) xs in
    omega (arith, ints, first, second)

pub total-cons : {A : Type 0} (f : A → ℤ) (x : A) (xs : List A) → total f (x ∷ xs) ≡ (f x +ℤ total f xs)
total-cons f x xs =
    let is : fold (λ sum y. sum +ℤ f y) (pos 0 +ℤ f x) xs ≡ ((pos 0 +ℤ f x) +ℤ total f xs) = total-from f (pos 0 +ℤ f x) xs in
    omega (arith, ints, is)

pub total-append : {A : Type 0} (f : A → ℤ) (xs ys : List A) → total f (xs ++ ys) ≡ (total f xs +ℤ total f ys)
total-append f [] ys = omega (arith, ints)
total-append f (x ∷ xs) ys =
    let whole = total-cons f x (xs ++ ys) in
    let part = total-cons f x xs in
    let rest = total-append f xs ys in
    omega (arith, ints, whole, part, rest)

pub total-map : {A B : Type 0} (f : B → ℤ) (g : A → B) (xs : List A) → total f (map g xs) ≡ total (λ x. f (g x)) xs
total-map f g [] = refl
total-map f g (x ∷ xs) =
    total-cons f (g x) (map g xs) ∙ ap (λ rest. f (g x) +ℤ rest) (total-map f g xs) ∙ sym (total-cons (λ y. f (g y)) x xs)

pub total-flat_map : {A B : Type 0} (f : B → ℤ) (g : A → List B) (xs : List A) → total f (flat_map g xs) ≡ total (λ x. total f (g x)) xs
total-flat_map f g [] = refl
total-flat_map f g (x ∷ xs) =
    total-append f (g x) (flat_map g xs) ∙ ap (λ rest. total f (g x) +ℤ rest) (total-flat_map f g xs) ∙ sym (total-cons (λ y. total f (g y)) x xs)

pub total-agree : {A : Type 0} (f g : A → ℤ) (xs : List A) → All (λ x. f x ≡ g x) xs → total f xs ≡ total g xs
total-agree f g [] agree = refl
total-agree f g (x ∷ xs) agree =
    let rest = total-agree f g xs (All-tail (λ y. f y ≡ g y) x xs agree) in
    let here : f x ≡ g x = All-head (λ y. f y ≡ g y) x xs agree in
    total-cons f x xs ∙ ap (λ sum. f x +ℤ sum) rest ∙ ap (λ first. first +ℤ total g xs) here ∙ sym (total-cons g x xs)

pub total-same : {A : Type 0} (f g : A → ℤ) (xs : List A) → ((x : A) → f x ≡ g x) → total f xs ≡ total g xs
total-same f g [] same = refl
total-same f g (x ∷ xs) same =
    total-cons f x xs ∙ ap (λ sum. f x +ℤ sum) (total-same f g xs same) ∙ ap (λ first. first +ℤ total g xs) (same x) ∙ sym (total-cons g x xs)

pub total-plus : {A : Type 0} (f g : A → ℤ) (xs : List A) → total (λ x. f x +ℤ g x) xs ≡ (total f xs +ℤ total g xs)
total-plus f g [] = omega (arith, ints)
total-plus f g (x ∷ xs) =
    let whole = total-cons (λ y. f y +ℤ g y) x xs in
    let left = total-cons f x xs in
    let right = total-cons g x xs in
    let rest = total-plus f g xs in
    omega (arith, ints, whole, left, right, rest)

pub total-zero : {A : Type 0} (xs : List A) → total (λ x. pos 0) xs ≡ pos 0
total-zero [] = refl
total-zero {A} (x ∷ xs) = let whole = total-cons {A = A} (λ y. pos 0) x xs in let rest = total-zero xs in omega (arith, ints, whole, rest)

-- what a test passes and what it doesn't make up the whole
pub total-filter : {A : Type 0} (f : A → ℤ) (p : A → Bool) (xs : List A) → total f xs ≡ (total f (filter p xs) +ℤ total f (filter (λ x. not (p x)) xs))
total-filter f p [] = omega (arith, ints)
total-filter f p (x ∷ xs) =
    let whole = total-cons f x xs in
    let rest = total-filter f p xs in
    elim (cases_Bool (p x)) [
      | inl passes ↦
          let first = total-cons f x (filter p xs) in
          rw passes (omega (arith, ints, whole, rest, first))
      | inr fails ↦
          let first = total-cons f x (filter (λ y. not (p y)) xs) in
          rw fails (omega (arith, ints, whole, rest, first))
    ]

-- what a test passes, summed, is the sum of the amounts of those that pass it
pub total-where : {A : Type 0} (f : A → ℤ) (p : A → Bool) (xs : List A) → total f (filter p xs) ≡ total (λ x. if p x then f x else pos 0) xs
total-where f p [] = refl
total-where f p (x ∷ xs) =
    let rest = total-where f p xs in
    let whole = total-cons (λ y. if p y then f y else pos 0) x xs in
    elim (cases_Bool (p x)) [
      | inl passes ↦
          let amount : (if p x then f x else pos 0) ≡ f x = rw passes refl in
          rw passes (total-cons f x (filter p xs) ∙ ap (λ sum. f x +ℤ sum) rest)
          ∙ sym (whole ∙ ap (λ first. first +ℤ total (λ y. if p y then f y else pos 0) xs) amount)
      | inr fails ↦
          let amount : (if p x then f x else pos 0) ≡ pos 0 = rw fails refl in
          let here : total (λ y. if p y then f y else pos 0) (x ∷ xs) ≡ (pos 0 +ℤ total (λ y. if p y then f y else pos 0) xs) =
          whole ∙ ap (λ first. first +ℤ total (λ y. if p y then f y else pos 0) xs) amount in
          rw fails (omega (arith, ints, rest, here))
    ]
