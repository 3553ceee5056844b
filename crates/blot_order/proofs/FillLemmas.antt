-- The fills by number: what stands under a number after a change, and the fills that are put.
use Rattle.std.proofs.Common.{◌≡◌, ◌≢◌, ℕ, ◌+◌, ◌<◌, ◌≤◌, List, [], ◌∷◌, map, Option, Some, None, Bool, true, false, ◌&&◌, refl, sym, ap, ◌∙◌, arith, inl, inr, ◌==◌, T, find, nat_le, nat_lt, if◌then◌else◌, filter_map, option_map, option_and_then, nat_cmp, is_lt, leb-true, ltb-true, ltb-false, ne_eqb, eq-eqb, eqb-true}
use Rattle.std.specs.Cmp.{nat_cmp_total, unsigned_tied}
use Rattle.std.specs.FinMap as finite
use Rattle.std.specs.FinMap.Entries.{below_all}
use Rattle.std.specs.Ordering.{eq_by_cmp}
use Rattle.std.proofs.lemmas.Bool.{cases_Bool, and_parts, eqb-false}
use Rattle.blot_types.specs.declared.{fill.Fill.Fill, lines.Version.Version}
use Rattle.blot_types.proofs.GeneralLemmas.{through}
use Rattle.blot_order.specs.declared.stored_fill.FillState.{FillState}
use Rattle.blot_order.specs.declared.stored_fill.FillState.TheVariants.{Kept, Put}
use Rattle.blot_order.specs.Fills.{Fills, fill_put, fill_kept, fill_held, put_at, kept_at, held_at, with_put, with_kept, fills_put}

-- ---- what stands under a number after a change

-- what a map with one more entry has under a number
pub get-insert : (fills : Fills) (n k : ℕ) (held : FillState) → finite.get (finite.insert fills n held) k ≡ (if k == n then Some held else finite.get fills k)
get-insert fills n k held =
    finite.get-insert nat_cmp_total fills n held k ∙ ap (λ test. if test then Some held else finite.get fills k) (unsigned_tied k n)

pub put_at-with_put : (n k : ℕ) (fill : Fill) (fills : Fills) → put_at (with_put n fill fills) k ≡ (if k == n then Some fill else put_at fills k)
put_at-with_put n k fill fills =
    ap (option_and_then fill_put) (get-insert fills n k (Put fill)) ∙ through (option_and_then fill_put) (k == n) (Some (Put fill)) (finite.get fills k)

pub put_at-with_kept : (n k : ℕ) (fill : Fill) (fills : Fills) → put_at (with_kept n fill fills) k ≡ (if k == n then None else put_at fills k)
put_at-with_kept n k fill fills =
    ap (option_and_then fill_put) (get-insert fills n k (Kept fill)) ∙ through (option_and_then fill_put) (k == n) (Some (Kept fill)) (finite.get fills k)

pub kept_at-with_kept : (n k : ℕ) (fill : Fill) (fills : Fills) → kept_at (with_kept n fill fills) k ≡ (if k == n then Some fill else kept_at fills k)
kept_at-with_kept n k fill fills =
    ap (option_and_then fill_kept) (get-insert fills n k (Kept fill)) ∙ through (option_and_then fill_kept) (k == n) (Some (Kept fill)) (finite.get fills k)

pub held_at-with_put : (n k : ℕ) (fill : Fill) (fills : Fills) → held_at (with_put n fill fills) k ≡ (if k == n then Some fill else held_at fills k)
held_at-with_put n k fill fills =
    ap (option_map fill_held) (get-insert fills n k (Put fill)) ∙ through (option_map fill_held) (k == n) (Some (Put fill)) (finite.get fills k)

pub held_at-with_kept : (n k : ℕ) (fill : Fill) (fills : Fills) → held_at (with_kept n fill fills) k ≡ (if k == n then Some fill else held_at fills k)
held_at-with_kept n k fill fills =
    ap (option_map fill_held) (get-insert fills n k (Kept fill)) ∙ through (option_map fill_held) (k == n) (Some (Kept fill)) (finite.get fills k)

-- a fill that is kept and then put
pub with_put-with_kept : (n : ℕ) (fill : Fill) (fills : Fills) → with_put n fill (with_kept n fill fills) ≡ with_put n fill fills
with_put-with_kept n fill fills =
    finite.same_map nat_cmp_total finite.nat_cmp-IsAntisymmetric _ _ (λ k.
    get-insert (with_kept n fill fills) n k (Put fill)
    ∙ ap (λ found. if k == n then Some (Put fill) else found) (get-insert fills n k (Kept fill))
    ∙ elim (cases_Bool (k == n)) [
      | inl same ↦ rw same refl
      | inr other ↦ rw other refl
    ]
    ∙ sym (get-insert fills n k (Put fill)))

-- the same number, and every other one

same_number : {A : Type 0} (n : ℕ) (a b : A) → (if n == n then a else b) ≡ a
same_number n a b = ap (λ test. if test then a else b) (eq-eqb n n refl)

other_number : {A : Type 0} (n k : ℕ) (a b : A) → k ≢ n → (if k == n then a else b) ≡ b
other_number n k a b other = ap (λ test. if test then a else b) (ne_eqb k n other)

pub kept_at-with_kept_same : (n : ℕ) (fill : Fill) (fills : Fills) → kept_at (with_kept n fill fills) n ≡ Some fill
kept_at-with_kept_same n fill fills = kept_at-with_kept n n fill fills ∙ same_number n (Some fill) (kept_at fills n)

pub held_at-with_kept_same : (n : ℕ) (fill : Fill) (fills : Fills) → held_at (with_kept n fill fills) n ≡ Some fill
held_at-with_kept_same n fill fills = held_at-with_kept n n fill fills ∙ same_number n (Some fill) (held_at fills n)

pub held_at-with_kept_other : (n k : ℕ) (fill : Fill) (fills : Fills) → k ≢ n → held_at (with_kept n fill fills) k ≡ held_at fills k
held_at-with_kept_other n k fill fills other = held_at-with_kept n k fill fills ∙ other_number n k (Some fill) (held_at fills k) other

-- ---- put, kept and held

pub put_at-empty : (n : ℕ) → put_at finite.empty n ≡ None
put_at-empty n = ap (option_and_then fill_put) (finite.get-empty {X = FillState} nat_cmp n)

put_is_held : (here : Option FillState) (fill : Fill) → option_and_then fill_put here ≡ Some fill → option_map fill_held here ≡ Some fill
put_is_held None fill is = cc
put_is_held (Some (Kept kept)) fill is = cc
put_is_held (Some (Put put)) fill is = is

kept_is_held : (here : Option FillState) (fill : Fill) → option_and_then fill_kept here ≡ Some fill → option_map fill_held here ≡ Some fill
kept_is_held None fill is = cc
kept_is_held (Some (Kept kept)) fill is = is
kept_is_held (Some (Put put)) fill is = cc

held_is_kept : (here : Option FillState) (fill : Fill) → option_and_then fill_put here ≡ None → option_map fill_held here ≡ Some fill → option_and_then fill_kept here ≡ Some fill
held_is_kept None fill unput is = cc
held_is_kept (Some (Kept kept)) fill unput is = is
held_is_kept (Some (Put put)) fill unput is = cc

-- a fill that is put is held, and so is one that is kept
pub held_at-put : (fills : Fills) (n : ℕ) (fill : Fill) → put_at fills n ≡ Some fill → held_at fills n ≡ Some fill
held_at-put fills n fill is = put_is_held (finite.get fills n) fill is

pub held_at-kept : (fills : Fills) (n : ℕ) (fill : Fill) → kept_at fills n ≡ Some fill → held_at fills n ≡ Some fill
held_at-kept fills n fill is = kept_is_held (finite.get fills n) fill is

-- a fill that is held and not put is kept
pub kept_at-held : (fills : Fills) (n : ℕ) (fill : Fill) → put_at fills n ≡ None → held_at fills n ≡ Some fill → kept_at fills n ≡ Some fill
kept_at-held fills n fill unput is = held_is_kept (finite.get fills n) fill unput is

-- ---- the fills that are put

-- the numbers of versions rise, from a number on
abbrev pub rise_from : ℕ → List Version → Bool
rise_from number [] = true
rise_from number (version ∷ later) = nat_le number version.number && rise_from (version.number + 1) later

-- the fill of the version of a number
abbrev fill_numbered : ℕ → List Version → Option Fill
fill_numbered n versions = option_map (λ v. v.fill) (find (λ v. v.number == n) versions)

-- no version has a number below those from which they rise
fill_numbered-below : (n from : ℕ) (versions : List Version) → rise_from from versions ≡ true → n < from → fill_numbered n versions ≡ None
fill_numbered-below n from [] rise below = refl
fill_numbered-below n from (version ∷ later) rise below =
    let parts : (nat_le from version.number ≡ true) × (rise_from (version.number + 1) later ≡ true) = and_parts _ _ rise in
    let above : from ≤ version.number = leb-true _ _ parts.0 in
    let other : (version.number == n) ≡ false = ne_eqb _ _ (omega arith) in
    rw other (fill_numbered-below n (version.number + 1) later parts.1 (omega arith))

-- the first version has the number, or another one
fill_numbered-first : (n : ℕ) (version : Version) (later : List Version) → version.number ≡ n → fill_numbered n (version ∷ later) ≡ Some version.fill
fill_numbered-first n version later is = let test : (version.number == n) ≡ true = eq-eqb version.number n is in rw test refl

fill_numbered-later : (n : ℕ) (version : Version) (later : List Version) → version.number ≢ n → fill_numbered n (version ∷ later) ≡ fill_numbered n later
fill_numbered-later n version later other = let test : (version.number == n) ≡ false = ne_eqb version.number n other in rw test refl

-- what entries have put under a number
abbrev put_in : List (ℕ × FillState) → ℕ → Option Fill
put_in entries n = option_and_then fill_put (finite.find nat_cmp n entries)

-- an order of numbers is that of their sizes
lt-nat_cmp : (m n : ℕ) → is_lt (nat_cmp m n) ≡ true → m < n
lt-nat_cmp m n test =
    elim (cases_Bool (nat_lt m n)) [
      | inl less ↦ ltb-true m n less
      | inr more ↦
          elim (cases_Bool (m == n)) [
            | inl same ↦ let clash = rw (more, same) at test in cc
            | inr other ↦ let clash = rw (more, other) at test in cc
          ]
    ]

-- whether each number of entries is above one
abbrev pub are_above : ℕ → List (ℕ × FillState) → Bool
are_above n entries = below_all nat_cmp n entries

-- nothing stands under a number that is not above one below all of them
find-above : (k n : ℕ) (entries : List (ℕ × FillState)) → are_above n entries ≡ true → k ≤ n → finite.find nat_cmp k entries ≡ None
find-above k n [] above low = refl
find-above k n (entry ∷ entries) above low =
    let parts : (is_lt (nat_cmp n entry.0) ≡ true) × (are_above n entries ≡ true) = and_parts _ _ above in
    let less : n < entry.0 = lt-nat_cmp n entry.0 parts.0 in
    let other : eq_by_cmp nat_cmp k entry.0 ≡ false = unsigned_tied k entry.0 ∙ ne_eqb k entry.0 (omega arith) in
    rw other (find-above k n entries parts.1 low)

-- the first entry, and the later ones
find-first : (n : ℕ) (held : FillState) (entries : List (ℕ × FillState)) → finite.find nat_cmp n ((n, held) ∷ entries) ≡ Some held
find-first n held entries = let same : eq_by_cmp nat_cmp n n ≡ true = unsigned_tied n n ∙ eq-eqb n n refl in rw same refl

find-later : (k n : ℕ) (held : FillState) (entries : List (ℕ × FillState)) → k ≢ n → finite.find nat_cmp k ((n, held) ∷ entries) ≡ finite.find nat_cmp k entries
find-later k n held entries apart = let other : eq_by_cmp nat_cmp k n ≡ false = unsigned_tied k n ∙ ne_eqb k n apart in rw other refl

-- what entries and versions have alike, those behind their first ones have alike, where both lie above it
alike_behind :
    (n : ℕ) (held : FillState) (entries : List (ℕ × FillState)) (version : Version) (later : List Version)
    → are_above n entries ≡ true → rise_from (n + 1) later ≡ true → version.number ≡ n
    → ((k : ℕ) → put_in ((n, held) ∷ entries) k ≡ fill_numbered k (version ∷ later))
    → (k : ℕ) → put_in entries k ≡ fill_numbered k later
alike_behind n held entries version later above rise is alike k =
    elim (cases_Bool (k == n)) [
      | inl same ↦
          let here : k ≡ n = eqb-true k n same in
          ap (option_and_then fill_put) (find-above k n entries above (omega arith)) ∙ sym (fill_numbered-below k (n + 1) later rise (omega arith))
      | inr other ↦
          let apart : k ≢ n = eqb-false k n other in
          ap (option_and_then fill_put) (sym (find-later k n held entries apart)) ∙ alike k
          ∙ fill_numbered-later k version later (λ e. apart (sym e ∙ is))
    ]

-- a kept fill is no version's
alike_kept :
    (n : ℕ) (fill : Fill) (entries : List (ℕ × FillState)) (versions : List Version) → are_above n entries ≡ true
    → ((k : ℕ) → put_in ((n, Kept fill) ∷ entries) k ≡ fill_numbered k versions)
    → (k : ℕ) → put_in entries k ≡ fill_numbered k versions
alike_kept n fill entries versions above alike k =
    elim (cases_Bool (k == n)) [
      | inl same ↦
          let here : k ≡ n = eqb-true k n same in
          ap (option_and_then fill_put) (find-above k n entries above (omega arith))
          ∙ sym (ap (option_and_then fill_put) (find-first n (Kept fill) entries)) ∙ alike n ∙ ap (λ m. fill_numbered m versions) (sym here)
      | inr other ↦ ap (option_and_then fill_put) (sym (find-later k n (Kept fill) entries (eqb-false k n other))) ∙ alike k
    ]

-- the first fill that is put is that of the first version
first_number :
    (n : ℕ) (fill : Fill) (entries : List (ℕ × FillState)) (version : Version) (later : List Version)
    → are_above n entries ≡ true → rise_from (version.number + 1) later ≡ true
    → ((k : ℕ) → put_in ((n, Put fill) ∷ entries) k ≡ fill_numbered k (version ∷ later)) → version.number ≡ n
first_number n fill entries version later above rise alike =
    elim (cases_Bool (version.number == n)) [
      | inl same ↦ eqb-true version.number n same
      | inr other ↦
          let apart : version.number ≢ n = eqb-false version.number n other in
          elim (cases_Bool (nat_lt version.number n)) [
            | inl less ↦
                let low : version.number < n = ltb-true version.number n less in
                let none : put_in ((n, Put fill) ∷ entries) version.number ≡ None =
                ap (option_and_then fill_put) (find-later version.number n (Put fill) entries apart ∙ find-above version.number n entries above (omega arith)) in
                let clash : None ≡ Some version.fill = sym none ∙ alike version.number ∙ fill_numbered-first version.number version later refl in
                absurd (cc clash)
            | inr more ↦
                let high : n ≤ version.number = ltb-false version.number n more in
                let none : fill_numbered n (version ∷ later) ≡ None =
                fill_numbered-later n version later apart ∙ fill_numbered-below n (version.number + 1) later rise (omega arith) in
                let clash : Some fill ≡ None = sym (ap (option_and_then fill_put) (find-first n (Put fill) entries)) ∙ alike n ∙ none in
                absurd (cc clash)
          ]
    ]

-- entries that put the fill of each version under its number, and no others, put the fills of the versions
put-by_versions :
    (entries : List (ℕ × FillState)) (versions : List Version) (from : ℕ) → finite.is_sorted nat_cmp entries ≡ true → rise_from from versions ≡ true
    → ((k : ℕ) → put_in entries k ≡ fill_numbered k versions) → filter_map fill_put (map (λ entry. entry.1) entries) ≡ map (λ v. v.fill) versions
put-by_versions [] [] from sorted rise alike = refl
put-by_versions [] (version ∷ later) from sorted rise alike =
    let clash : None ≡ Some version.fill = alike version.number ∙ fill_numbered-first version.number version later refl in
    absurd (cc clash)
put-by_versions ((n, Kept fill) ∷ entries) versions from sorted rise alike =
    let parts : (are_above n entries ≡ true) × (finite.is_sorted nat_cmp entries ≡ true) = and_parts _ _ sorted in
    put-by_versions entries versions from parts.1 rise (alike_kept n fill entries versions parts.0 alike)
put-by_versions ((n, Put fill) ∷ entries) [] from sorted rise alike =
    let clash : Some fill ≡ None = sym (ap (option_and_then fill_put) (find-first n (Put fill) entries)) ∙ alike n in
    absurd (cc clash)
put-by_versions ((n, Put fill) ∷ entries) (version ∷ later) from sorted rise alike =
    let parts : (are_above n entries ≡ true) × (finite.is_sorted nat_cmp entries ≡ true) = and_parts _ _ sorted in
    let rises : (nat_le from version.number ≡ true) × (rise_from (version.number + 1) later ≡ true) = and_parts _ _ rise in
    let number : version.number ≡ n = first_number n fill entries version later parts.0 rises.1 alike in
    let fills : Some fill ≡ Some version.fill =
    sym (ap (option_and_then fill_put) (find-first n (Put fill) entries)) ∙ alike n ∙ fill_numbered-first n version later number in
    let rest_rise : rise_from (n + 1) later ≡ true = ap (λ m. rise_from (m + 1) later) (sym number) ∙ rises.1 in
    let rest : filter_map fill_put (map (λ entry. entry.1) entries) ≡ map (λ v. v.fill) later =
    put-by_versions entries later (n + 1) parts.1 rest_rise (alike_behind n (Put fill) entries version later parts.0 rest_rise number alike) in
    cc

-- a test that holds
told : (test : Bool) → T test → test ≡ true
told true holds = refl
told false holds = absurd holds

-- fills that are put by versions, under their numbers and no others, are those of the versions, in their order
pub fills_put-by_versions :
    (fills : Fills) (versions : List Version) → rise_from 0 versions ≡ true
    → ((k : ℕ) → put_at fills k ≡ option_map (λ v. v.fill) (find (λ v. v.number == k) versions))
    → fills_put fills ≡ map (λ v. v.fill) versions
fills_put-by_versions fills versions rise alike =
    put-by_versions (finite.entries fills) versions 0 (told _ (finite.entries_sorted fills)) rise
    (λ k. ap (option_and_then fill_put) (sym (finite.get-entries fills k)) ∙ alike k)
