-- What std's lemmas don't say of truth values, options, results and lists.
use Rattle.std.proofs.Common.{◌≡◌, ◌≤◌, ◌+◌, Bool, true, false, not, ◌&&◌, ◌||◌, cond, ℕ, List, [], ◌∷◌, ◌++◌, length, reverse, Option, Some, None, refl, sym, ap, subst, ◌∙◌, arith, inl, inr, filter, filter_map, find, All, Contains, option_map, is_some, if◌then◌else◌, Result, Ok, Err, IfErr, OnErr, OnOk, ◌<◌, get_or, take}
pub use mathlib.Core.Bool.{and-false, and-true, not-not, or-false}
use Rattle.std.specs.List.{cons_option, list_any}
use Rattle.std.specs.Option.{option_or}
use Rattle.std.proofs.lemmas.Bool.{cases_Bool}
use Rattle.std.proofs.lemmas.List.{reverse-append, take_more}
use Rattle.std.proofs.lemmas.List.Elements.{All-nil, All-cons, All-head, All-tail, All-append, All-contains_itself, All-push}

-- ---- truth values

pub or-falses : (b : Bool) → (b || false || false) ≡ b
or-falses true = refl
or-falses false = refl

pub and-either : (a b c : Bool) → (a && (b || c)) ≡ ((a && b) || (a && c))
and-either true b c = refl
and-either false b c = refl

pub through : {A B : Type 0} (f : A → B) (test : Bool) (a b : A) → f (if test then a else b) ≡ (if test then f a else f b)
through f true a b = refl
through f false a b = refl

pub and-not : (x y : Bool) → x ≡ true → not (x && y) ≡ true → y ≡ false
and-not true true is fails = sym fails
and-not true false is fails = refl
and-not false y is fails = cc

-- ---- options and results

pub or-none : {A : Type 0} (o : Option A) → option_or o None ≡ o
or-none None = refl
or-none (Some a) = refl

pub none-both : (found : Option ℕ) (b : Bool) (n : ℕ) → option_or found (cond b (Some n) None) ≡ None → (found ≡ None) × (b ≡ false)
none-both (Some m) b n none = cc
none-both None true n none = cc
none-both None false n none = (refl, refl)

pub some-mapped : {X Y : Type 0} (f : X → Y) (found : Option X) → is_some (option_map f found) ≡ is_some found
some-mapped f None = refl
some-mapped f (Some x) = refl

pub cons-append : {A : Type 0} (o : Option A) (xs ys : List A) → cons_option o (xs ++ ys) ≡ cons_option o xs ++ ys
cons-append None xs ys = refl
cons-append (Some x) xs ys = refl

pub on_err : {T E P : Type 0} (result : Result T E) → P → OnErr result P
on_err (Ok value) is = tt
on_err (Err error) is = is

-- what follows of a value or an error. The fact stands before what follows from it, which then knows its type; in std's laws it stands behind
pub on-ok : {T E P Q : Type 0} (result : Result T E) → OnOk result P → (P → Q) → OnOk result Q
on-ok (Ok x) p more = more p
on-ok (Err e) p more = tt

pub both-ok : {T E P Q R : Type 0} (result : Result T E) → OnOk result P → OnOk result Q → (P → Q → R) → OnOk result R
both-ok (Ok x) p q more = more p q
both-ok (Err e) p q more = tt

pub if-err : {T E : Type 0} (P Q : E → Type 0) (result : Result T E) → IfErr result P → ((e : E) → P e → Q e) → IfErr result Q
if-err P Q (Ok x) p more = tt
if-err P Q (Err e) p more = more e p

-- ---- what holds of all

pub all-of : {X : Type 0} (P : X → Type 0) (xs : List X) → ((x : X) → P x) → All P xs
all-of P [] each = All-nil P
all-of P (x ∷ xs) each = All-cons P x xs (each x) (all-of P xs each)

pub all-front : {X : Type 0} (P : X → Type 0) (xs ys : List X) → All P (xs ++ ys) → All P xs
all-front P [] ys all = All-nil P
all-front P (x ∷ xs) ys all = All-cons P x xs (All-head P x (xs ++ ys) all) (all-front P xs ys (All-tail P x (xs ++ ys) all))

pub all-back : {X : Type 0} (P : X → Type 0) (xs ys : List X) → All P (xs ++ ys) → All P ys
all-back P [] ys all = all
all-back P (x ∷ xs) ys all = all-back P xs ys (All-tail P x (xs ++ ys) all)

pub all-last : {X : Type 0} (P : X → Type 0) (front : List X) (x : X) → All P (front ++ x ∷ []) → P x
all-last P front x all = All-head P x [] (all-back P front (x ∷ []) all)

pub all-more :
    {X : Type 0} (P : X → Type 0) (items : List X) (index : ℕ) (item : X) → index < length items → item ≡ get_or items index item
    → All P (take index items) → P item → All P (take (index + 1) items)
all-more P items index item within is before here =
    subst (All P) (sym (take_more items index item within ∙ ap (λ x. take index items ++ x ∷ []) (sym is))) (All-push P (take index items) item before here)

pub all-reversed : {X : Type 0} (P : X → Type 0) (xs : List X) → All P xs → All P (reverse xs)
all-reversed P [] all = all
all-reversed P (x ∷ xs) all =
    subst (All P) (sym (reverse-append (x ∷ []) xs))
    (All-append P (reverse xs) (x ∷ []) (all-reversed P xs (All-tail P x xs all)) (All-cons P x [] (All-head P x xs all) (All-nil P)))

-- ---- what is kept, found or mapped

pub filter-all : {X : Type 0} (p : X → Bool) (xs : List X) → ((x : X) → p x ≡ true) → filter p xs ≡ xs
filter-all p [] each = refl
filter-all p (x ∷ xs) each = rw (each x, filter-all p xs each) refl

pub length-filtered : {X : Type 0} (p : X → Bool) (xs : List X) → length (filter p xs) ≤ length xs
length-filtered p [] = omega arith
length-filtered p (x ∷ xs) =
    let rest = length-filtered p xs in
    elim (cases_Bool (p x)) [
      | inl passes ↦ rw passes (omega (arith, rest))
      | inr fails ↦ rw fails (omega (arith, rest))
    ]

-- what was found among all, and stays, is found
pub found-stays : {A : Type 0} (p stays : A → Bool) (xs : List A) (x : A) → find p xs ≡ Some x → stays x ≡ true → find p (filter stays xs) ≡ Some x
found-stays p stays [] x found kept = found
found-stays p stays (y ∷ ys) x found kept =
    elim (cases_Bool (p y)) [
      | inl here ↦
          let is : Some y ≡ Some x = rw here at found in
          let one : y ≡ x = cc in
          let own : stays y ≡ true = ap stays one ∙ kept in
          rw (own, here) is
      | inr passed ↦
          let rest = found-stays p stays ys x (rw passed at found) kept in
          elim (cases_Bool (stays y)) [
            | inl own ↦ rw (own, passed) rest
            | inr goes ↦ rw goes rest
          ]
    ]

pub found-All : {X : Type 0} (P : X → Type 0) (p : X → Bool) (xs : List X) (x : X) → All P xs → find p xs ≡ Some x → P x
found-All P p [] x all found = cc
found-All P p (y ∷ ys) x all found =
    elim (cases_Bool (p y)) [
      | inl here ↦ (let same : Some y ≡ Some x = rw here at found in let one : y ≡ x = cc in subst P one (All-head P y ys all))
      | inr passed ↦ found-All P p ys x (All-tail P y ys all) (rw passed at found)
    ]

-- what is found is in the list
pub found-contains : {X : Type 0} (p : X → Bool) (xs : List X) (x : X) → find p xs ≡ Some x → Contains xs x
found-contains p xs x found = found-All (Contains xs) p xs x (All-contains_itself xs) found

-- no more are found than there are
pub length-found : {A B : Type 0} (f : A → Option B) (items : List A) → length (filter_map f items) ≤ length items
length-found f [] = omega arith
length-found f (item ∷ items) = elim (f item) as (λ found. length (cons_option found (filter_map f items)) ≤ length (item ∷ items)) [
  | None ↦ let rest = length-found f items in omega (arith, rest)
  | Some b ↦ let rest = length-found f items in omega (arith, rest)
]

-- ---- what holds of any

pub any-same : {X : Type 0} (p q : X → Bool) (xs : List X) → ((x : X) → p x ≡ q x) → list_any p xs ≡ list_any q xs
any-same p q [] same = refl
any-same p q (x ∷ xs) same = rw (same x, any-same p q xs same) refl

pub any-agree : {A : Type 0} (p q : A → Bool) (xs : List A) → All (λ x. p x ≡ q x) xs → list_any p xs ≡ list_any q xs
any-agree p q [] agree = refl
any-agree p q (x ∷ xs) agree =
    let here : p x ≡ q x = All-head (λ y. p y ≡ q y) x xs agree in
    rw (here, any-agree p q xs (All-tail (λ y. p y ≡ q y) x xs agree)) refl

pub any-none : {A : Type 0} (p : A → Bool) (xs : List A) → list_any p xs ≡ false → All (λ x. p x ≡ false) xs
any-none p [] none = All-nil (λ x. p x ≡ false)
any-none p (x ∷ xs) none =
    elim (cases_Bool (p x)) [
      | inl here ↦ (let clashing : true ≡ false = rw here at none in cc)
      | inr passed ↦ All-cons (λ y. p y ≡ false) x xs passed (any-none p xs (rw passed at none))
    ]
