-- Keys that are sorted once are those that were put in one by one.
use Rattle.std.proofs.Common.{◌≡◌, ◌+◌, Bool, true, false, ◌||◌, List, [], ◌∷◌, get_or, arith, refl, sym, ap, ◌∙◌, fold, BTreeSet, IsPermutation, IsSorted, is_eq, is_lt, Ordering, Less, Equal, Greater}
use Rattle.std.specs.BTreeSet.{insert_key}
use Rattle.std.specs.Cmp.{IsTotalOrder, eq_by_cmp_equiv}
use Rattle.std.specs.List.{list_any, IsDistinct, AllByRecursion}
use Rattle.std.specs.List.Sorted.{IsStrictlySortedBy}
use Rattle.std.specs.Ordering.{eq_by_cmp, match_ordering, ordering_reverse}
use Rattle.std.proofs.lemmas.List.Sorted.{list_any-IsPermutation}
use Rattle.std.proofs.lemmas.Map.Keys.{IsDistinct-IsPermutation, apart_from_distinct, sorted_from_all_adjacent}
use Rattle.std.proofs.lemmas.Map.Lookups.{CmpEqualImpliesEq, btree_set_from_contains}
use Rattle.blot_types.proofs.GeneralLemmas.{or-false}

-- ---- what is among keys that were put in

or-swap : (a b c : Bool) → (a || (b || c)) ≡ (b || (a || c))
or-swap true true c = refl
or-swap true false c = refl
or-swap false b c = refl

or-twice : (a b : Bool) → (a || (a || b)) ≡ (a || b)
or-twice true b = refl
or-twice false b = refl

-- a test that some key passes, with one key more
any-inserted :
    {K : Type 0} (cmp : K → K → Ordering) (p : K → Bool) (xs : List K) (k : K) → CmpEqualImpliesEq cmp → list_any p (insert_key cmp xs k) ≡ (p k || list_any p xs)
any-inserted cmp p [] k exact = refl
any-inserted {K} cmp p (x ∷ xs) k exact = by (cmp k x) (exact k x) (any-inserted cmp p xs k exact)
  where
    by : (order : Ordering) → (order ≡ Equal → k ≡ x) → list_any p (insert_key cmp xs k) ≡ (p k || list_any p xs)
        → list_any p (match_ordering order (k ∷ x ∷ xs) (x ∷ xs) (x ∷ insert_key cmp xs k)) ≡ (p k || (p x || list_any p xs))
    by Less same rest = refl
    by Equal same rest = sym (ap (λ key. p key || (p x || list_any p xs)) (same refl) ∙ or-twice (p x) (list_any p xs))
    by Greater same rest = ap (λ any. p x || any) rest ∙ or-swap (p x) (p k) (list_any p xs)

or-left : (a b c : Bool) → ((a || b) || c) ≡ (b || (a || c))
or-left true true c = refl
or-left true false c = refl
or-left false b c = refl

any-put :
    {K : Type 0} (cmp : K → K → Ordering) (p : K → Bool) (front keys : List K) → CmpEqualImpliesEq cmp
    → list_any p (fold (insert_key cmp) front keys) ≡ (list_any p keys || list_any p front)
any-put cmp p front [] exact = refl
any-put cmp p front (k ∷ keys) exact =
    any-put cmp p (insert_key cmp front k) keys exact ∙ ap (λ any. list_any p keys || any) (any-inserted cmp p front k exact)
    ∙ sym (or-left (p k) (list_any p keys) (list_any p front))

pub any-sorted :
    {K : Type 0} (cmp : K → K → Ordering) (p : K → Bool) (keys : List K) → CmpEqualImpliesEq cmp
    → list_any p (fold (insert_key cmp) [] keys) ≡ list_any p keys
any-sorted cmp p keys exact = any-put cmp p [] keys exact ∙ or-false (list_any p keys)

-- ---- keys that were put in are in order

by-recursion-inserted :
    {K : Type 0} (cmp : K → K → Ordering) (P : K → Type 0) (xs : List K) (k : K) → AllByRecursion P xs → P k → AllByRecursion P (insert_key cmp xs k)
by-recursion-inserted cmp P [] k all one = (one, tt)
by-recursion-inserted cmp P (x ∷ xs) k all one = by (cmp k x) (by-recursion-inserted cmp P xs k all.1 one)
  where
    by : (order : Ordering) → AllByRecursion P (insert_key cmp xs k) → AllByRecursion P (match_ordering order (k ∷ x ∷ xs) (x ∷ xs) (x ∷ insert_key cmp xs k))
    by Less rest = (one, all)
    by Equal rest = all
    by Greater rest = (all.0, rest)

below-all :
    {K : Type 0} (cmp : K → K → Ordering) (k x : K) (xs : List K) → IsTotalOrder cmp → cmp k x ≡ Less → AllByRecursion (λ y. cmp x y ≡ Less) xs
    → AllByRecursion (λ y. cmp k y ≡ Less) xs
below-all cmp k x [] total below all = tt
below-all cmp k x (y ∷ ys) total below all = (total.trans k x y below all.0, below-all cmp k x ys total below all.1)

turned : (order : Ordering) → order ≡ Greater → ordering_reverse order ≡ Less
turned Less is = cc
turned Equal is = cc
turned Greater is = refl

strict-inserted : {K : Type 0} (cmp : K → K → Ordering) (xs : List K) (k : K) → IsTotalOrder cmp → IsStrictlySortedBy cmp xs → IsStrictlySortedBy cmp (insert_key cmp xs k)
unfolding IsStrictlySortedBy
strict-inserted cmp [] k total rises = (tt, tt)
strict-inserted {K} cmp (x ∷ xs) k total rises = by (cmp k x) refl (strict-inserted cmp xs k total rises.1)
  where
    by : (order : Ordering) → cmp k x ≡ order → IsStrictlySortedBy cmp (insert_key cmp xs k)
        → IsStrictlySortedBy cmp (match_ordering order (k ∷ x ∷ xs) (x ∷ xs) (x ∷ insert_key cmp xs k))
    by Less is rest = ((is, below-all cmp k x xs total is rises.0), rises)
    by Equal is rest = rises
    by Greater is rest = (by-recursion-inserted cmp (λ y. cmp x y ≡ Less) xs k rises.0 (total.antisymm x k ∙ turned (cmp k x) is), rest)

strict-put : {K : Type 0} (cmp : K → K → Ordering) (front keys : List K) → IsTotalOrder cmp → IsStrictlySortedBy cmp front → IsStrictlySortedBy cmp (fold (insert_key cmp) front keys)
strict-put cmp front [] total rises = rises
strict-put cmp front (k ∷ keys) total rises = strict-put cmp (insert_key cmp front k) keys total (strict-inserted cmp front k total rises)

nothing-sorted : {K : Type 0} (cmp : K → K → Ordering) → IsStrictlySortedBy cmp []
unfolding IsStrictlySortedBy
nothing-sorted cmp = tt

-- ---- keys that differ, sorted

-- two neighbours that differ, the second of which isn't below the first
neighbours : (order back : Ordering) → back ≡ ordering_reverse order → is_lt back ≡ false → is_eq order ≡ false → order ≡ Less
neighbours Less back turn low apart = refl
neighbours Equal back turn low apart = cc
neighbours Greater back turn low apart = (let below = ap is_lt turn in cc)

strict-sorted : {K : Type 0} (cmp : K → K → Ordering) (xs : List K) → IsTotalOrder cmp → IsSorted cmp xs → IsDistinct (eq_by_cmp cmp) xs → IsStrictlySortedBy cmp xs
strict-sorted cmp [] total sorted distinct = nothing-sorted cmp
strict-sorted {K} cmp (x ∷ xs) total sorted distinct =
    sorted_from_all_adjacent total (x ∷ xs) x (λ k within.
    let a : K = get_or (x ∷ xs) k x in
    let b : K = get_or (x ∷ xs) (k + 1) x in
    neighbours (cmp a b) (cmp b a) (total.antisymm b a) (sorted k x (omega arith) within) (apart_from_distinct (eq_by_cmp cmp) (x ∷ xs) k (k + 1) x distinct (omega arith) within))

-- the keys that came, each once, sorted: the same as all that came, put in one by one
pub sorted-once :
    {K : Type 0} (cmp : K → K → Ordering) (came own sorted : List K) → IsTotalOrder cmp → CmpEqualImpliesEq cmp → IsDistinct (eq_by_cmp cmp) own
    → ((key : K) → list_any (eq_by_cmp cmp key) own ≡ list_any (eq_by_cmp cmp key) came) → IsPermutation own sorted → IsSorted cmp sorted
    → sorted ≡ fold (insert_key cmp) [] came
sorted-once {K} cmp came own sorted total exact distinct same moved rises =
    let flips = (eq_by_cmp_equiv total).symm in
    let apart : IsDistinct (eq_by_cmp cmp) sorted = IsDistinct-IsPermutation (eq_by_cmp cmp) flips own sorted moved distinct in
    let one : BTreeSet K = record { keys = sorted } in
    let other : BTreeSet K = record { keys = fold (insert_key cmp) [] came } in
    btree_set_from_contains total one other (strict-sorted cmp sorted total rises apart) (strict-put cmp [] came total (nothing-sorted cmp))
    (λ key. sym (list_any-IsPermutation (eq_by_cmp cmp key) own sorted moved) ∙ same key ∙ sym (any-sorted cmp (eq_by_cmp cmp key) came exact)) exact
