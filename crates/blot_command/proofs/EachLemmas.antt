-- What holds of each item of a list, and of all that its items bring.
use Rattle.std.proofs.Common.{◌≡◌, Bool, List, [], ◌∷◌, Option, Some, None, refl, find, All, IfSome, Contains, filter_map}
use Rattle.std.specs.List.{cons_option}
use Rattle.std.proofs.lemmas.List.Elements.{All-nil, All-cons, All-head, All-tail, All-contains}
use Rattle.blot_types.proofs.GeneralLemmas.{found-contains}

-- ---- lists

found-by : {X : Type 0} (p : X → Bool) (xs : List X) (found : Option X) → find p xs ≡ found → IfSome found (Contains xs)
found-by p xs None is = tt
found-by p xs (Some x) is = found-contains p xs x is

pub found-among : {X : Type 0} (p : X → Bool) (xs : List X) → IfSome (find p xs) (Contains xs)
found-among p xs = found-by p xs (find p xs) refl

-- what holds of all holds of the one that is in the list, if there is one
pub all-among : {X : Type 0} (P : X → Type 0) (xs : List X) (found : Option X) → All P xs → IfSome found (Contains xs) → All P (cons_option found [])
all-among P xs None all among = All-nil P
all-among P xs (Some x) all among = All-cons P x [] (All-contains P xs x all among) (All-nil P)

-- ---- what the items of a list bring

first-brought : {Y : Type 0} (P : Y → Type 0) (found : Option Y) (rest : List Y) → All P (cons_option found rest) → IfSome found P × All P rest
first-brought P None rest all = (tt, all)
first-brought P (Some y) rest all = (All-head P y rest all, All-tail P y rest all)

brought-first : {Y : Type 0} (P : Y → Type 0) (found : Option Y) (rest : List Y) → IfSome found P → All P rest → All P (cons_option found rest)
brought-first P None rest own all = all
brought-first P (Some y) rest own all = All-cons P y rest own all

-- what holds of all that is brought holds of what each item brings
pub each-brings : {X Y : Type 0} (f : X → Option Y) (P : Y → Type 0) (xs : List X) → All P (filter_map f xs) → All (λ x. IfSome (f x) P) xs
each-brings f P [] all = All-nil (λ x. IfSome (f x) P)
each-brings f P (x ∷ xs) all =
    let parts = first-brought P (f x) (filter_map f xs) all in
    All-cons (λ y. IfSome (f y) P) x xs parts.0 (each-brings f P xs parts.1)

-- and the other way
pub all-brought : {X Y : Type 0} (f : X → Option Y) (P : Y → Type 0) (xs : List X) → All (λ x. IfSome (f x) P) xs → All P (filter_map f xs)
all-brought f P [] all = All-nil P
all-brought f P (x ∷ xs) all =
    brought-first P (f x) (filter_map f xs) (All-head (λ y. IfSome (f y) P) x xs all) (all-brought f P xs (All-tail (λ y. IfSome (f y) P) x xs all))
