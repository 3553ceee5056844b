-- What a loop has found, with one item more, and where nothing is left.
use Rattle.std.proofs.Common.{◌≡◌, ℕ, zero, suc, arith, ◌+◌, ◌<◌, ◌≤◌, Bool, ◌||◌, List, [], ◌∷◌, ◌++◌, length, map, take, drop, get_or, Option, Some, None, Result, Ok, Err, refl, sym, ap, subst, ◌∙◌, All, IfOk, filter_map, flat_map, append-nil, append_assoc, length-append, take-append-drop, length-drop, length-take-le}
use Rattle.std.specs.List.{cons_option, list_any}
use Rattle.std.proofs.lemmas.List.{drop-append-le, drop_all, take_more}
use Rattle.std.proofs.lemmas.List.Elements.{All-nil, All-cons, All-head, All-tail, All-push, filter_map-append}
use Rattle.std.proofs.lemmas.Grind.{flat_map-append}
use Rattle.blot_types.proofs.GeneralLemmas.{all-back, all-front}

-- what an Ok says, said in another way
pub if_ok : {T E : Type 0} (r : Result T E) (P Q : T → Type 0) → ((x : T) → P x → Q x) → IfOk r P → IfOk r Q
if_ok (Ok x) P Q f p = f x p
if_ok (Err e) P Q f p = p

-- and of a result that is one
pub if_was : {T E : Type 0} (r : Result T E) (x : T) (P : T → Type 0) → r ≡ Ok x → IfOk r P → P x
if_was r x P is told = subst (λ q. IfOk q P) is told

pub found-all :
    {A B : Type 0} (f : A → Option B) (items : List A) (index : ℕ) (found : List B) → found ++ filter_map f (drop index items) ≡ filter_map f items → length items ≤ index
    → found ≡ filter_map f items
found-all f items index found so_far done =
    sym (append-nil found) ∙ ap (λ rest. found ++ filter_map f rest) (sym (drop_all index items done)) ∙ so_far

-- the items up to one
pub more : {A : Type 0} (items : List A) (index : ℕ) (item : A) → index < length items → item ≡ get_or items index item → take (index + 1) items ≡ take index items ++ item ∷ []
more items index item within is = rw is (take_more items index item within)

-- what was put behind a front, with more behind it
pub behind : {B : Type 0} (initial done put items after : List B) → items ≡ initial ++ done → after ≡ items ++ put → after ≡ initial ++ (done ++ put)
behind initial done put items after so_far is = is ∙ ap (λ front. front ++ put) so_far ∙ append_assoc initial done put

flat-push : {A B : Type 0} (f : A → List B) (xs : List A) (x : A) → flat_map f (xs ++ x ∷ []) ≡ flat_map f xs ++ f x
flat-push f [] x = append-nil (f x)
flat-push f (y ∷ xs) x = ap (λ rest. f y ++ rest) (flat-push f xs x) ∙ sym (append_assoc (f y) (flat_map f xs) (f x))

pub flat-more : {A B : Type 0} (f : A → List B) (items : List A) (index : ℕ) (item : A) → index < length items → item ≡ get_or items index item → flat_map f (take (index + 1) items) ≡ flat_map f (take index items) ++ f item
flat-more f items index item within is = ap (flat_map f) (more items index item within is) ∙ flat-push f (take index items) item

-- the items from one place to before another: none yet, one more, and no more than there are
pub between-none : {A : Type 0} (items : List A) (first : ℕ) → drop first (take first items) ≡ []
between-none [] zero = refl
between-none [] (suc first) = refl
between-none (item ∷ items) zero = refl
between-none (item ∷ items) (suc first) = between-none items first

pub between-more :
    {A : Type 0} (items : List A) (first index : ℕ) (item : A) → first ≤ index → index < length items → item ≡ get_or items index item
    → drop first (take (index + 1) items) ≡ drop first (take index items) ++ item ∷ []
between-more items first index item low within is =
    let long : length (take index items) ≡ index = length-take-le index items (omega (arith, within)) in
    ap (drop first) (more items index item within is) ∙ drop-append-le first (take index items) (item ∷ []) (omega (arith, low, long))

pub between-few : {A : Type 0} (items : List A) (first after : ℕ) → length (drop first (take after items)) ≤ length items
between-few items first after =
    let left = length-drop first (take after items) in
    let both = length-append (take after items) (drop after items) in
    let whole = ap length (take-append-drop after items) in
    omega (arith, left, both, whole)

-- what is found with one item more
pub found-more : {A B : Type 0} (f : A → Option B) (before after : List A) (item : A) → after ≡ before ++ item ∷ [] → filter_map f after ≡ filter_map f before ++ cons_option (f item) []
found-more f before after item next = ap (filter_map f) next ∙ filter_map-append f before (item ∷ [])

-- where the item brings something, and where it brings nothing
pub found-one :
    {A B : Type 0} (f : A → Option B) (before after : List A) (item : A) (b : B) → after ≡ before ++ item ∷ [] → f item ≡ Some b → filter_map f after ≡ filter_map f before ++ b ∷ []
found-one f before after item b next brought = found-more f before after item next ∙ ap (λ o. filter_map f before ++ cons_option o []) brought

pub found-none : {A B : Type 0} (f : A → Option B) (before after : List A) (item : A) → after ≡ before ++ item ∷ [] → f item ≡ None → filter_map f after ≡ filter_map f before
found-none f before after item next none =
    found-more f before after item next ∙ ap (λ o. filter_map f before ++ cons_option o []) none ∙ append-nil (filter_map f before)

-- what the items found hold, with what one item more holds
pub flat_found-more :
    {A B C : Type 0} (g : B → List C) (f : A → Option B) (before after : List A) (item : A) → after ≡ before ++ item ∷ []
    → flat_map g (filter_map f after) ≡ flat_map g (filter_map f before) ++ flat_map g (cons_option (f item) [])
flat_found-more g f before after item next = ap (flat_map g) (found-more f before after item next) ∙ flat_map-append g (filter_map f before) (cons_option (f item) [])

-- a test that some item passes, through a function
pub any-mapped : {A B : Type 0} (p : B → Bool) (f : A → B) (xs : List A) → list_any p (map f xs) ≡ list_any (λ x. p (f x)) xs
any-mapped p f [] = refl
any-mapped p f (x ∷ xs) = ap (λ any. p (f x) || any) (any-mapped p f xs)

-- ---- what holds of all

-- what holds of all that was found, holds with one item more
pub all-found :
    {A B : Type 0} (P : B → Type 0) (f : A → Option B) (before after : List A) (item : A) (b : B) → after ≡ before ++ item ∷ [] → All P (filter_map f before) → f item ≡ Some b → P b
    → All P (filter_map f after)
all-found P f before after item b next all brought one = subst (All P) (sym (found-one f before after item b next brought)) (All-push P (filter_map f before) b all one)

pub all-passed :
    {A B : Type 0} (P : B → Type 0) (f : A → Option B) (before after : List A) (item : A) → after ≡ before ++ item ∷ [] → All P (filter_map f before) → f item ≡ None
    → All P (filter_map f after)
all-passed P f before after item next all none = subst (All P) (sym (found-none f before after item next none)) all

-- of what is found from one place to before another, and of all that is mapped
pub All-between : {A B : Type 0} (P : B → Type 0) (f : A → Option B) (items : List A) (first after : ℕ) → All P (filter_map f items) → All P (filter_map f (drop first (take after items)))
All-between {A} P f items first after all =
    let cut : (i : ℕ) (xs : List A) → filter_map f xs ≡ filter_map f (take i xs) ++ filter_map f (drop i xs) =
    λ i xs. ap (filter_map f) (sym (take-append-drop i xs)) ∙ filter_map-append f (take i xs) (drop i xs) in
    let front = take after items in
    all-back P (filter_map f (take first front)) (filter_map f (drop first front))
    (subst (All P) (cut first front) (all-front P (filter_map f front) (filter_map f (drop after items)) (subst (All P) (cut after items) all)))

pub all-mapped : {A B : Type 0} (P : B → Type 0) (f : A → B) (xs : List A) → All (λ x. P (f x)) xs → All P (map f xs)
all-mapped P f [] all = All-nil P
all-mapped P f (x ∷ xs) all = All-cons P (f x) (map f xs) (All-head (λ y. P (f y)) x xs all) (all-mapped P f xs (All-tail (λ y. P (f y)) x xs all))
