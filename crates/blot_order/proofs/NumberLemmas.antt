-- The numbers that are listed as put: where one is marked, loses its mark, is put in or is dropped.
use Rattle.std.proofs.Common.{◌≡◌, ◌≢◌, ℕ, zero, suc, ◌+◌, ◌-◌, ◌<◌, ◌≤◌, Bool, true, false, cond, List, [], ◌∷◌, length, get_or, set, take, Option, Some, None, Result, Ok, Err, refl, sym, ap, subst, ◌∙◌, arith, inl, inr, ⊎_elim, if◌then◌else◌, Contains, MatchResult, filter, insert, nat_eq, nat_lt, slice_get, option_map, is_lt, nat_cmp, Less, Equal, Greater, lt-ltb, le-ltb, eq-eqb, ne_eqb}
use Rattle.std.specs.List.{last_or}
use Rattle.std.specs.List.Sorted.{IsBinarySearchResult, IsSearchInRange}
use Rattle.std.proofs.lemmas.Bool.{cases_Bool, cases_lt, eqb-false, false≢true}
use Rattle.std.proofs.lemmas.Cmp.{nat_cmp_total, ranked}
use Rattle.std.proofs.lemmas.List.Sorted.{searchable_from_sorted}
use Rattle.std.proofs.lemmas.Option.{same_Some}
use Rattle.blot_order.specs.declared.fill_numbers.ListedNumber.{ListedNumber}
use Rattle.blot_order.specs.FillNumbers.{with_number, without_number, numbers_put, ends_put, AreListed, BelongsAt, IsUnlisted, RiseFrom, StandsAt}

-- numbers with one before them, if it is put
abbrev listing : Bool → ℕ → List ℕ → List ℕ
listing is_put number others = if is_put then number ∷ others else others

-- whether a listed number is put
abbrev pub is_put : ListedNumber → Bool
is_put entry = entry.is_put

-- ---- a number among others, after a first one that may be put

contains-later : (first : ℕ) (others : List ℕ) (number k : ℕ) → first ≢ number → k < length (first ∷ others) → get_or (first ∷ others) k number ≡ number → Contains others number
contains-later first others number zero other within at = absurd (other at)
contains-later first others number (suc k) other within at = (k, omega (arith, within), at)

contains-behind : (put : Bool) (first : ℕ) (others : List ℕ) (number : ℕ) → first ≢ number → Contains (listing put first others) number → Contains others number
contains-behind true first others number other there = contains-later first others number there.0 other there.1 there.2
contains-behind false first others number other there = there

contains-before : (put : Bool) (first : ℕ) (others : List ℕ) (number : ℕ) → Contains others number → Contains (listing put first others) number
contains-before true first others number there = (suc there.0, omega (arith, there.1), there.2)
contains-before false first others number there = there

with-behind : (number : ℕ) (put : Bool) (first : ℕ) (others : List ℕ) → first < number → listing put first (with_number number others) ≡ with_number number (listing put first others)
with-behind number true first others less = sym (ap (λ t. if t then first ∷ with_number number others else number ∷ first ∷ others) (lt-ltb first number less))
with-behind number false first others less = refl

with-before : (number : ℕ) (put : Bool) (first : ℕ) (others : List ℕ) → number < first → with_number number others ≡ number ∷ others
    → with_number number (listing put first others) ≡ number ∷ listing put first others
with-before number true first others less rest = ap (λ t. if t then first ∷ with_number number others else number ∷ first ∷ others) (le-ltb first number (omega (arith, less)))
with-before number false first others less rest = rest

with-here : (number : ℕ) (put : Bool) (first : ℕ) (others : List ℕ) → first ≡ number → ¬ (Contains (listing put first others) number) → with_number number others ≡ number ∷ others
    → number ∷ others ≡ with_number number (listing put first others)
with-here number true first others here unput rest = absurd (unput (0, omega arith, here))
with-here number false first others here unput rest = sym rest

without-behind : (number : ℕ) (put : Bool) (first : ℕ) (others : List ℕ) → first ≢ number → listing put first (without_number number others) ≡ without_number number (listing put first others)
without-behind number true first others other = sym (ap (λ t. if t then others else first ∷ without_number number others) (ne_eqb first number other))
without-behind number false first others other = refl

without-here : (number : ℕ) (put : Bool) (first : ℕ) (others : List ℕ) → first ≡ number → Contains (listing put first others) number → ¬ (Contains others number)
    → others ≡ without_number number (listing put first others)
without-here number true first others here there gone = sym (ap (λ t. if t then others else first ∷ without_number number others) (eq-eqb first number here))
without-here number false first others here there gone = absurd (gone there)

-- how many they are
pub length-with : (number : ℕ) (numbers : List ℕ) → length (with_number number numbers) ≡ length numbers + 1
length-with number [] = omega arith
length-with number (first ∷ others) =
    let rest = length-with number others in
    elim (cases_Bool (nat_lt first number)) [
      | inl less ↦ rw less (omega (arith, rest))
      | inr more ↦ rw more (omega arith)
    ]

pub length-without : (number : ℕ) (numbers : List ℕ) → Contains numbers number → length (without_number number numbers) + 1 ≡ length numbers
length-without number [] there = absurd (omega (arith, there.1))
length-without number (first ∷ others) there =
    elim (cases_Bool (nat_eq first number)) [
      | inl here ↦ rw here (omega arith)
      | inr other ↦
          let rest = length-without number others (contains-later first others number there.0 (eqb-false first number other) there.1 there.2) in
          rw other (omega (arith, rest))
    ]

-- ---- numbers that rise

rise-lower : (low high : ℕ) (entries : List ListedNumber) → low ≤ high → RiseFrom high entries → RiseFrom low entries
rise-lower low high [] le rise = tt
rise-lower low high (entry ∷ entries) le rise = let first = rise.0 in (omega (arith, le, first), rise.1)

-- none is lower than the number from which they rise
rise-at : (low : ℕ) (entries : List ListedNumber) (k : ℕ) (d : ListedNumber) → RiseFrom low entries → k < length entries → low ≤ (get_or entries k d).number
rise-at low [] k d rise within = absurd (omega (arith, within))
rise-at low (entry ∷ entries) zero d rise within = rise.0
rise-at low (entry ∷ entries) (suc k) d rise within =
    let first = rise.0 in
    let later = rise-at (entry.number + 1) entries k d rise.1 (omega (arith, within)) in
    omega (arith, first, later)

-- none is lower than one before it
pub rise-pair : (low : ℕ) (entries : List ListedNumber) → RiseFrom low entries → (i j : ℕ) (d : ListedNumber) → i ≤ j → j < length entries → (get_or entries i d).number ≤ (get_or entries j d).number
rise-pair low [] rise i j d le within = absurd (omega (arith, within))
rise-pair low (entry ∷ entries) rise zero zero d le within = omega arith
rise-pair low (entry ∷ entries) rise zero (suc j) d le within = let later = rise-at (entry.number + 1) entries j d rise.1 (omega (arith, within)) in omega (arith, later)
rise-pair low (entry ∷ entries) rise (suc i) zero d le within = absurd (omega (arith, le))
rise-pair low (entry ∷ entries) rise (suc i) (suc j) d le within = rise-pair (entry.number + 1) entries rise.1 i j d (omega (arith, le)) (omega (arith, within))

rise-unlisted : (number : ℕ) (entries : List ListedNumber) → RiseFrom (number + 1) entries → IsUnlisted number entries
rise-unlisted number entries rise = λ k d within same. (let low = rise-at (number + 1) entries k d rise within in omega (arith, low, same))

-- one that belongs at a place belongs at the same place among the later ones
belongs-later : (number : ℕ) (entry : ListedNumber) (entries : List ListedNumber) (place : ℕ) → BelongsAt number (entry ∷ entries) (suc place) → BelongsAt number entries place
belongs-later number entry entries place belongs = record {
  within = omega (arith, belongs.within);
  below = λ k d less. belongs.below (suc k) d (omega (arith, less));
  above = λ k d le less. belongs.above (suc k) d (omega (arith, le)) (omega (arith, less));
}

-- one changed but for its number
rise-set : (low place : ℕ) (entries : List ListedNumber) (new : ListedNumber) → RiseFrom low entries → ((d : ListedNumber) → (get_or entries place d).number ≡ new.number) → RiseFrom low (set entries place new)
rise-set low place [] new rise at = tt
rise-set low zero (entry ∷ entries) new rise at =
    let first = rise.0 in
    let same : entry.number ≡ new.number = at new in
    (omega (arith, first, same), subst (λ n. RiseFrom (n + 1) entries) same rise.1)
rise-set low (suc place) (entry ∷ entries) new rise at = (rise.0, rise-set (entry.number + 1) place entries new rise.1 at)

rise-insert : (low number : ℕ) (entries : List ListedNumber) (place : ℕ) (new : ListedNumber) → new.number ≡ number → low ≤ number → RiseFrom low entries → BelongsAt number entries place
    → RiseFrom low (insert entries place new)
rise-insert low number [] zero new is le rise belongs = (omega (arith, is, le), tt)
rise-insert low number (entry ∷ entries) zero new is le rise belongs =
    let above = belongs.above 0 entry (omega arith) (omega arith) in
    (omega (arith, is, le), (omega (arith, is, above), rise.1))
rise-insert low number [] (suc place) new is le rise belongs = absurd (omega (arith, belongs.within))
rise-insert low number (entry ∷ entries) (suc place) new is le rise belongs =
    let below = belongs.below 0 entry (omega arith) in
    (rise.0, rise-insert (entry.number + 1) number entries place new is (omega (arith, below)) rise.1 (belongs-later number entry entries place belongs))

pub rise-take : (low n : ℕ) (entries : List ListedNumber) → RiseFrom low entries → RiseFrom low (take n entries)
rise-take low zero entries rise = tt
rise-take low (suc n) [] rise = tt
rise-take low (suc n) (entry ∷ entries) rise = (rise.0, rise-take (entry.number + 1) n entries rise.1)

rise-filter : (low : ℕ) (entries : List ListedNumber) → RiseFrom low entries → RiseFrom low (filter is_put entries)
rise-filter low [] rise = tt
rise-filter low (entry ∷ entries) rise =
    let others = filter is_put entries in
    let first = rise.0 in
    let rest = rise-filter (entry.number + 1) entries rise.1 in
    elim (cases_Bool entry.is_put) [
      | inl put ↦ subst (λ t. RiseFrom low (cond t (entry ∷ others) others)) (sym put) (first, rest)
      | inr other ↦ subst (λ t. RiseFrom low (cond t (entry ∷ others) others)) (sym other) (rise-lower low (entry.number + 1) others (omega (arith, first)) rest)
    ]

-- ---- the last is put

ends-more : (before : Bool) (entries : List ListedNumber) → ends_put before entries ≡ true → ends_put true entries ≡ true
ends-more before [] is = refl
ends-more before (entry ∷ entries) is = is

ends-set : (before : Bool) (place : ℕ) (entries : List ListedNumber) (new : ListedNumber) → new.is_put ≡ true → ends_put before entries ≡ true → ends_put before (set entries place new) ≡ true
ends-set before place [] new put is = is
ends-set before zero (entry ∷ entries) new put is = ap (λ b. ends_put b entries) put ∙ ends-more entry.is_put entries is
ends-set before (suc place) (entry ∷ entries) new put is = ends-set entry.is_put place entries new put is

ends-insert : (before : Bool) (place : ℕ) (entries : List ListedNumber) (new : ListedNumber) → new.is_put ≡ true → ends_put before entries ≡ true → ends_put before (insert entries place new) ≡ true
ends-insert before zero [] new put is = put
ends-insert before zero (entry ∷ entries) new put is = is
ends-insert before (suc place) [] new put is = put
ends-insert before (suc place) (entry ∷ entries) new put is = ends-insert entry.is_put place entries new put is

ends-filter : (entries : List ListedNumber) → ends_put true (filter is_put entries) ≡ true
ends-filter [] = refl
ends-filter (entry ∷ entries) =
    let others = filter is_put entries in
    elim (cases_Bool entry.is_put) [
      | inl put ↦ ap (λ t. ends_put true (cond t (entry ∷ others) others)) put ∙ ap (λ b. ends_put b others) put ∙ ends-filter entries
      | inr other ↦ ap (λ t. ends_put true (cond t (entry ∷ others) others)) other ∙ ends-filter entries
    ]

pub ends-take : (before : Bool) (k : ℕ) (entries : List ListedNumber) (d : ListedNumber) → k < length entries → (get_or entries k d).is_put ≡ true → ends_put before (take (suc k) entries) ≡ true
ends-take before k [] d within put = absurd (omega (arith, within))
ends-take before zero (entry ∷ entries) d within put = put
ends-take before (suc k) (entry ∷ entries) d within put = ends-take entry.is_put k entries d (omega (arith, within)) put

-- so the last number that is put is that of the last listed one
last-put : (put : Bool) (number : Option ℕ) (entry : Option ListedNumber) (entries : List ListedNumber) → (put ≡ true → number ≡ option_map (λ e. e.number) entry) → ends_put put entries ≡ true
    → last_or number (numbers_put entries) ≡ option_map (λ e. e.number) (last_or entry entries)
last-put put number before [] same is = same is
last-put put number before (entry ∷ entries) same is =
    elim (cases_Bool entry.is_put) [
      | inl shown ↦
          ap (λ t. last_or number (listing t entry.number (numbers_put entries))) shown
          ∙ last-put entry.is_put (Some entry.number) (Some entry) entries (λ _. refl) is
      | inr other ↦
          ap (λ t. last_or number (listing t entry.number (numbers_put entries))) other
          ∙ last-put entry.is_put number (Some entry) entries (λ shown. absurd (false≢true (sym other ∙ shown))) is
    ]

last-from : {A : Type 0} (first : A) (others : List A) → last_or (Some first) others ≡ slice_get (first ∷ others) (length others)
last-from first [] = refl
last-from first (next ∷ others) = last-from next others

last-is : {A : Type 0} (items : List A) → slice_get items (length items - 1) ≡ last_or None items
last-is [] = refl
last-is (first ∷ others) = ap (slice_get (first ∷ others)) (omega arith) ∙ sym (last-from first others)

pub last-listed : (entries : List ListedNumber) → ends_put true entries ≡ true → option_map (λ e. e.number) (slice_get entries (length entries - 1)) ≡ last_or None (numbers_put entries)
last-listed entries is = ap (option_map (λ e. e.number)) (last-is entries) ∙ sym (last-put true None None entries (λ _. refl) is)

-- ---- numbers that aren't listed

-- one that is put is listed
pub put-listed : (number : ℕ) (entries : List ListedNumber) → Contains (numbers_put entries) number → ¬ (IsUnlisted number entries)
put-listed number [] there none = omega (arith, there.1)
put-listed number (entry ∷ entries) there none =
    put-listed number entries (contains-behind entry.is_put entry.number (numbers_put entries) number (none 0 entry (omega arith)) there)
    (λ k d within. none (suc k) d (omega (arith, within)))

-- one that stands at a place is listed
pub stands-listed : (number : ℕ) (entries : List ListedNumber) (place : ℕ) → StandsAt number entries place → ¬ (IsUnlisted number entries)
stands-listed number [] place stands none = omega (arith, stands.within)
stands-listed number (entry ∷ entries) place stands none = none place entry stands.within (stands.at entry)

-- one that belongs at a place isn't
pub belongs-unlisted : (number : ℕ) (entries : List ListedNumber) (place : ℕ) → BelongsAt number entries place → IsUnlisted number entries
belongs-unlisted number entries place is = λ k d within same.
    ⊎_elim (λ (before : k < place). let low = is.below k d before in omega (arith, low, same))
    (λ (beyond : place ≤ k). let high = is.above k d beyond within in omega (arith, high, same))
    (cases_lt k place)

-- ---- the numbers that are put

-- one that is lower than all
with-lower : (number : ℕ) (entries : List ListedNumber) → RiseFrom (number + 1) entries → with_number number (numbers_put entries) ≡ number ∷ numbers_put entries
with-lower number [] rise = refl
with-lower number (entry ∷ entries) rise =
    let first = rise.0 in
    with-before number entry.is_put entry.number (numbers_put entries) (omega (arith, first))
    (with-lower number entries (rise-lower (number + 1) (entry.number + 1) entries (omega (arith, first)) rise.1))

-- a listed number that is put comes first
put-first : (number : ℕ) (new : ListedNumber) (entries : List ListedNumber) → new.number ≡ number → new.is_put ≡ true → numbers_put (new ∷ entries) ≡ number ∷ numbers_put entries
put-first number new entries is put = ap (λ t. listing t new.number (numbers_put entries)) put ∙ ap (λ n. n ∷ numbers_put entries) is

-- a listed number that isn't put comes to be put
pub put-marked :
    (low number : ℕ) (entries : List ListedNumber) (place : ℕ) (new : ListedNumber) → new.number ≡ number → new.is_put ≡ true → RiseFrom low entries → StandsAt number entries place
    → ¬ (Contains (numbers_put entries) number) → numbers_put (set entries place new) ≡ with_number number (numbers_put entries)
put-marked low number [] place new is put rise stands unput = absurd (omega (arith, stands.within))
put-marked low number (entry ∷ entries) zero new is put rise stands unput =
    let here : entry.number ≡ number = stands.at entry in
    put-first number new entries is put
    ∙ with-here number entry.is_put entry.number (numbers_put entries) here unput (with-lower number entries (subst (λ n. RiseFrom (n + 1) entries) here rise.1))
put-marked low number (entry ∷ entries) (suc place) new is put rise stands unput =
    let later : StandsAt number entries place = record { within = omega (arith, stands.within); at = stands.at } in
    let high = rise-at (entry.number + 1) entries place entry rise.1 later.within in
    let at = later.at entry in
    ap (listing entry.is_put entry.number)
    (put-marked (entry.number + 1) number entries place new is put rise.1 later (λ there. unput (contains-before entry.is_put entry.number (numbers_put entries) number there)))
    ∙ with-behind number entry.is_put entry.number (numbers_put entries) (omega (arith, high, at))

-- a listed number that is put is put in where it belongs
pub put-inserted :
    (low number : ℕ) (entries : List ListedNumber) (place : ℕ) (new : ListedNumber) → new.number ≡ number → new.is_put ≡ true → RiseFrom low entries → BelongsAt number entries place
    → numbers_put (insert entries place new) ≡ with_number number (numbers_put entries)
put-inserted low number [] zero new is put rise belongs = put-first number new [] is put
put-inserted low number (entry ∷ entries) zero new is put rise belongs =
    let above = belongs.above 0 entry (omega arith) (omega arith) in
    put-first number new (entry ∷ entries) is put ∙ sym (with-lower number (entry ∷ entries) (omega (arith, above), rise.1))
put-inserted low number [] (suc place) new is put rise belongs = absurd (omega (arith, belongs.within))
put-inserted low number (entry ∷ entries) (suc place) new is put rise belongs =
    ap (listing entry.is_put entry.number) (put-inserted (entry.number + 1) number entries place new is put rise.1 (belongs-later number entry entries place belongs))
    ∙ with-behind number entry.is_put entry.number (numbers_put entries) (belongs.below 0 entry (omega arith))

-- a listed number that is put loses its mark
pub put-taken :
    (low number : ℕ) (entries : List ListedNumber) (place : ℕ) (new : ListedNumber) → new.is_put ≡ false → RiseFrom low entries → StandsAt number entries place
    → Contains (numbers_put entries) number → numbers_put (set entries place new) ≡ without_number number (numbers_put entries)
put-taken low number [] place new unput rise stands there = absurd (omega (arith, stands.within))
put-taken low number (entry ∷ entries) zero new unput rise stands there =
    let here : entry.number ≡ number = stands.at entry in
    let above : RiseFrom (number + 1) entries = subst (λ n. RiseFrom (n + 1) entries) here rise.1 in
    ap (λ t. listing t new.number (numbers_put entries)) unput
    ∙ without-here number entry.is_put entry.number (numbers_put entries) here there (λ later. put-listed number entries later (rise-unlisted number entries above))
put-taken low number (entry ∷ entries) (suc place) new unput rise stands there =
    let later : StandsAt number entries place = record { within = omega (arith, stands.within); at = stands.at } in
    let high = rise-at (entry.number + 1) entries place entry rise.1 later.within in
    let at = later.at entry in
    let other : entry.number ≢ number = λ same. omega (arith, high, at, same) in
    ap (listing entry.is_put entry.number)
    (put-taken (entry.number + 1) number entries place new unput rise.1 later (contains-behind entry.is_put entry.number (numbers_put entries) number other there))
    ∙ without-behind number entry.is_put entry.number (numbers_put entries) other

-- listed numbers that aren't put are dropped, all or one at the end
pub put-filter : (entries : List ListedNumber) → numbers_put (filter is_put entries) ≡ numbers_put entries
put-filter [] = refl
put-filter (entry ∷ entries) =
    let others = filter is_put entries in
    elim (cases_Bool entry.is_put) [
      | inl put ↦ ap (λ t. numbers_put (cond t (entry ∷ others) others)) put ∙ ap (listing entry.is_put entry.number) (put-filter entries)
      | inr other ↦
          ap (λ t. numbers_put (cond t (entry ∷ others) others)) other ∙ put-filter entries ∙ sym (ap (λ t. listing t entry.number (numbers_put entries)) other)
    ]

pub put-take : (k : ℕ) (entries : List ListedNumber) (d : ListedNumber) → k < length entries → (get_or entries k d).is_put ≡ false → numbers_put (take k entries) ≡ numbers_put (take (suc k) entries)
put-take k [] d within unput = absurd (omega (arith, within))
put-take zero (entry ∷ entries) d within unput = sym (ap (λ t. listing t entry.number []) unput)
put-take (suc k) (entry ∷ entries) d within unput = ap (listing entry.is_put entry.number) (put-take k entries d (omega (arith, within)) unput)

-- ---- how many are listed

length-listing : (put : Bool) (number : ℕ) (others : List ℕ) → length (listing put number others) ≤ length others + 1
length-listing true number others = omega arith
length-listing false number others = omega arith

pub length-put : (entries : List ListedNumber) → length (numbers_put entries) ≤ length entries
length-put [] = omega arith
length-put (entry ∷ entries) =
    let one = length-listing entry.is_put entry.number (numbers_put entries) in
    let rest = length-put entries in
    omega (arith, one, rest)

pub length-filter : (entries : List ListedNumber) → length (filter is_put entries) ≡ length (numbers_put entries)
length-filter [] = refl
length-filter (entry ∷ entries) =
    let others = filter is_put entries in
    let rest = length-filter entries in
    elim (cases_Bool entry.is_put) [
      | inl put ↦
          let long : length (cond entry.is_put (entry ∷ others) others) ≡ length others + 1 = ap (λ t. length (cond t (entry ∷ others) others)) put ∙ omega arith in
          let put_long : length (listing entry.is_put entry.number (numbers_put entries)) ≡ length (numbers_put entries) + 1 = ap (λ t. length (listing t entry.number (numbers_put entries))) put ∙ omega arith in
          omega (arith, rest, long, put_long)
      | inr other ↦
          ap (λ t. length (cond t (entry ∷ others) others)) other ∙ rest ∙ sym (ap (λ t. length (listing t entry.number (numbers_put entries))) other)
    ]

-- ---- listed numbers in good order

pub listed-set : (number : ℕ) (entries : List ListedNumber) (place : ℕ) (new : ListedNumber) → new.number ≡ number → new.is_put ≡ true → AreListed entries → StandsAt number entries place
    → AreListed (set entries place new)
listed-set number entries place new is put are stands = record {
  rise = rise-set 0 place entries new are.rise (λ d. stands.at d ∙ sym is);
  last = ends-set true place entries new put are.last;
}

pub listed-insert : (number : ℕ) (entries : List ListedNumber) (place : ℕ) (new : ListedNumber) → new.number ≡ number → new.is_put ≡ true → AreListed entries → BelongsAt number entries place
    → AreListed (insert entries place new)
listed-insert number entries place new is put are belongs = record {
  rise = rise-insert 0 number entries place new is (omega arith) are.rise belongs;
  last = ends-insert true place entries new put are.last;
}

-- where a listed number loses its mark, and those at the end that aren't put are dropped
pub listed-taken : (number : ℕ) (entries : List ListedNumber) (place : ℕ) (new : ListedNumber) (end : ℕ) → new.number ≡ number → AreListed entries → StandsAt number entries place
    → ends_put true (take end (set entries place new)) ≡ true → AreListed (take end (set entries place new))
listed-taken number entries place new end is are stands last = record {
  rise = rise-take 0 end (set entries place new) (rise-set 0 place entries new are.rise (λ d. stands.at d ∙ sym is));
  last = last;
}

pub listed-filter : (entries : List ListedNumber) → AreListed entries → AreListed (filter is_put entries)
listed-filter entries are = record { rise = rise-filter 0 entries are.rise; last = ends-filter entries }

-- ---- the search

-- what a search by halving finds among numbers that rise
not_less : (a b : ℕ) → a ≤ b → is_lt (nat_cmp b a) ≡ false
not_less a b le =
    ap (λ t. is_lt (cond t Less (cond (nat_eq b a) Equal Greater))) (le-ltb b a le)
    ∙ elim (cases_Bool (nat_eq b a)) [
      | inl same ↦ ap (λ t. is_lt (cond t Equal Greater)) same
      | inr other ↦ ap (λ t. is_lt (cond t Equal Greater)) other
    ]

pub found : (number : ℕ) (entries : List ListedNumber) (answer : Result ℕ ℕ) → RiseFrom 0 entries → IsSearchInRange answer (length entries)
    → IsBinarySearchResult (λ (e : ListedNumber). nat_cmp e.number number) entries answer → MatchResult answer (StandsAt number entries) (BelongsAt number entries)
found number entries (Ok place) rise within is = record { within = within; at = λ d. ranked (get_or entries place d).number number Equal (sym (is d)) }
found number entries (Err place) rise within is =
    let point = is (searchable_from_sorted nat_cmp_total (λ (e : ListedNumber). e.number) entries number
    (λ k d le less. not_less _ _ (rise-pair 0 entries rise k (k + 1) d (omega arith) less))) in
    record {
      within = within;
      below = λ k d less. ranked (get_or entries k d).number number Less (sym (point.0 k d (omega arith) less));
      above = λ k d le less. ranked (get_or entries k d).number number Greater (sym (point.1 k d le less));
    }

-- what is read at a place, and what stands there by default
get_or-slice_get : (entries : List ListedNumber) (k : ℕ) (entry d : ListedNumber) → slice_get entries k ≡ Some entry → get_or entries k d ≡ entry
get_or-slice_get [] k entry d is = cc
get_or-slice_get (first ∷ entries) zero entry d is = same_Some first entry is
get_or-slice_get (first ∷ entries) (suc k) entry d is = get_or-slice_get entries k entry d is

-- a number above the last belongs at the end
pub belongs-end : (number : ℕ) (entries : List ListedNumber) (last : ListedNumber) → RiseFrom 0 entries → Some last ≡ slice_get entries (length entries - 1) → last.number < number
    → BelongsAt number entries (length entries)
belongs-end number entries last rise is less = record {
  within = omega arith;
  below = λ k d within.
      (let high = rise-pair 0 entries rise k (length entries - 1) d (omega (arith, within)) (omega (arith, within)) in
      let at : (get_or entries (length entries - 1) d).number ≡ last.number = ap (λ e. e.number) (get_or-slice_get entries (length entries - 1) last d (sym is)) in
      omega (arith, high, at, less));
  above = λ k d le within. absurd (omega (arith, le, within));
}
