-- The slots of an order book and the fills by number that they stand for.
use Rattle.std.proofs.Common.{◌≡◌, ℕ, zero, suc, ◌+◌, ◌-◌, ◌<◌, ◌≤◌, List, [], ◌∷◌, ◌++◌, length, get_or, set, replicate, map, Option, Some, None, true, false, refl, sym, ap, ◌∙◌, arith, inl, inr, ◌==◌, nat_lt, IsSome, if◌then◌else◌, filter_map, option_and_then, nat_cmp, is_lt, ltb-true, ltb-false, lt-ltb, ne_eqb, eq-eqb, eqb-true, get_or-set_same, get_or-set_other, append-nil, length-append}
use Rattle.std.specs.Bool.{passes}
use Rattle.std.specs.Cmp.{nat_cmp_total, unsigned_tied}
use Rattle.std.specs.FinMap as finite
use Rattle.std.specs.Ordering.{eq_by_cmp}
use Rattle.std.proofs.lemmas.Bool.{cases_Bool, and_from, eqb-false}
use Rattle.std.proofs.lemmas.List.{get_or_append_left, get_or-append_right, get_or_past, length-replicate}
use Rattle.std.proofs.lemmas.List.Elements.{filter_map-append}
use Rattle.blot_types.specs.declared.fill.Fill.{Fill}
use Rattle.blot_order.specs.declared.stored_fill.FillState.{FillState}
use Rattle.blot_order.specs.declared.stored_fill.FillState.TheVariants.{Kept, Put}
use Rattle.blot_order.specs.Fills.{Fills, fill_put, fill_kept, put_at, kept_at, fills_put}
use Rattle.blot_order.specs.Slots.{held_from, held_by, kept_under, slot_at, put_under, fills_in_slots, reaching}
use Rattle.blot_order.proofs.FillLemmas.{get-insert, are_above}

-- ---- what the slots stand for, number by number

lt_by_cmp : (m n : ℕ) → m < n → is_lt (nat_cmp m n) ≡ true
lt_by_cmp m n less = rw (lt-ltb m n less) refl

above-held_from : (low n : ℕ) (slots : List (Option FillState)) → low < n → are_above low (held_from n slots) ≡ true
above-held_from low n [] less = refl
above-held_from low n (None ∷ slots) less = above-held_from low (n + 1) slots (omega arith)
above-held_from low n (Some held ∷ slots) less = and_from _ _ (lt_by_cmp low n less) (above-held_from low (n + 1) slots (omega arith))

-- the numbers rise
sorted-held_from : (n : ℕ) (slots : List (Option FillState)) → finite.is_sorted nat_cmp (held_from n slots) ≡ true
sorted-held_from n [] = refl
sorted-held_from n (None ∷ slots) = sorted-held_from (n + 1) slots
sorted-held_from n (Some held ∷ slots) = and_from _ _ (above-held_from n (n + 1) slots (omega arith)) (sorted-held_from (n + 1) slots)

-- nothing is held under a number below the first
find-below : (k n : ℕ) (slots : List (Option FillState)) → k < n → finite.find nat_cmp k (held_from n slots) ≡ None
find-below k n [] less = refl
find-below k n (None ∷ slots) less = find-below k (n + 1) slots (omega arith)
find-below k n (Some held ∷ slots) less =
    let other : eq_by_cmp nat_cmp k n ≡ false = unsigned_tied k n ∙ ne_eqb k n (omega arith) in
    rw other (find-below k (n + 1) slots (omega arith))

-- under the number of a slot stands what the slot holds
find-held_from : (k n : ℕ) (slots : List (Option FillState)) → finite.find nat_cmp (n + k) (held_from n slots) ≡ slot_at slots k
find-held_from k n [] = sym (get_or_past [] k None (omega arith))
find-held_from zero n (None ∷ slots) = find-below (n + 0) (n + 1) slots (omega arith)
find-held_from (suc k) n (None ∷ slots) =
    let next : n + suc k ≡ (n + 1) + k = omega arith in
    ap (λ number. finite.find nat_cmp number (held_from (n + 1) slots)) next ∙ find-held_from k (n + 1) slots
find-held_from zero n (Some held ∷ slots) =
    let same : eq_by_cmp nat_cmp (n + 0) n ≡ true = unsigned_tied (n + 0) n ∙ eq-eqb (n + 0) n (omega arith) in
    rw same refl
find-held_from (suc k) n (Some held ∷ slots) =
    let next : n + suc k ≡ (n + 1) + k = omega arith in
    let other : eq_by_cmp nat_cmp (n + suc k) n ≡ false = unsigned_tied (n + suc k) n ∙ ne_eqb (n + suc k) n (omega arith) in
    rw other (ap (λ number. finite.find nat_cmp number (held_from (n + 1) slots)) next ∙ find-held_from k (n + 1) slots)

pub get-held_by : (slots : List (Option FillState)) (k : ℕ) → finite.get (held_by slots) k ≡ slot_at slots k
unfolding held_by
get-held_by slots k =
    finite.get-from_sorted nat_cmp (held_from 0 slots) k (passes _ (sorted-held_from 0 slots))
    ∙ ap (λ number. finite.find nat_cmp number (held_from 0 slots)) (omega arith) ∙ find-held_from k 0 slots

-- slots that hold the same under each number stand for the same fills
same_slots : (fills : Fills) (slots : List (Option FillState)) → ((k : ℕ) → slot_at slots k ≡ finite.get fills k) → held_by slots ≡ fills
same_slots fills slots same = finite.same_map nat_cmp_total finite.nat_cmp-IsAntisymmetric (held_by slots) fills (λ k. get-held_by slots k ∙ same k)

-- no slot holds anything
pub held_by-empty : held_by [] ≡ finite.empty
held_by-empty = same_slots finite.empty [] (λ k. get_or_past [] k None (omega arith) ∙ sym (finite.get-empty {X = FillState} nat_cmp k))

-- one slot changed is one number changed
pub held_by-set : (n : ℕ) (held : FillState) (slots : List (Option FillState)) → n < length slots → held_by (set slots n (Some held)) ≡ finite.insert (held_by slots) n held
held_by-set n held slots within =
    same_slots (finite.insert (held_by slots) n held) (set slots n (Some held)) (λ k.
    elim (cases_Bool (k == n)) [
      | inl same ↦
          let here : k ≡ n = eqb-true k n same in
          ap (slot_at (set slots n (Some held))) here ∙ get_or-set_same slots n (Some held) None within
          ∙ sym (get-insert (held_by slots) n k held ∙ ap (λ test. if test then Some held else finite.get (held_by slots) k) same)
      | inr other ↦
          get_or-set_other slots n k (Some held) None (eqb-false k n other) ∙ sym (get-held_by slots k)
          ∙ sym (get-insert (held_by slots) n k held ∙ ap (λ test. if test then Some held else finite.get (held_by slots) k) other)
    ])

-- every slot of a list of empty ones is empty
get_or-empties : {A : Type 0} (n k : ℕ) → get_or {A = Option A} (replicate n None) k None ≡ None
get_or-empties zero k = get_or_past [] k None (omega arith)
get_or-empties (suc n) zero = refl
get_or-empties (suc n) (suc k) = get_or-empties n k

-- filling up changes no slot
pub slot_at-reaching : {A : Type 0} (n k : ℕ) (slots : List (Option A)) → get_or (reaching n slots) k None ≡ get_or slots k None
slot_at-reaching n k slots =
    elim (cases_Bool (nat_lt k (length slots))) [
      | inl less ↦ get_or_append_left slots _ None k (ltb-true _ _ less)
      | inr more ↦
          let past : length slots ≤ k = ltb-false _ _ more in
          get_or-append_right slots (replicate (n + 1 - length slots) None) (length slots) k None refl past
          ∙ get_or-empties (n + 1 - length slots) (k - length slots) ∙ sym (get_or_past slots k None past)
    ]

pub held_by-reaching : (n : ℕ) (slots : List (Option FillState)) → held_by (reaching n slots) ≡ held_by slots
held_by-reaching n slots = same_slots (held_by slots) (reaching n slots) (λ k. slot_at-reaching n k slots ∙ sym (get-held_by slots k))

-- and brings no fill
fills-empties : (n : ℕ) → fills_in_slots (replicate n None) ≡ []
fills-empties zero = refl
fills-empties (suc n) = fills-empties n

pub fills_in_slots-reaching : (n : ℕ) (slots : List (Option FillState)) → fills_in_slots (reaching n slots) ≡ fills_in_slots slots
fills_in_slots-reaching n slots =
    filter_map-append (option_and_then fill_put) slots (replicate (n + 1 - length slots) None)
    ∙ ap (λ fills. fills_in_slots slots ++ fills) (fills-empties (n + 1 - length slots)) ∙ append-nil (fills_in_slots slots)

-- a list that is filled up for a number has a slot for it
pub length-reaching : {A : Type 0} (n : ℕ) (slots : List (Option A)) → n < length (reaching n slots)
length-reaching {A} n slots = omega (arith, length-append slots (replicate (n + 1 - length slots) None), length-replicate {A = Option A} (n + 1 - length slots) None)

-- and no more than that, or than it had
pub few-reaching : (n most : ℕ) (slots : List (Option FillState)) → n < most → length slots ≤ most → length (reaching n slots) ≤ most
few-reaching n most slots less few = omega (arith, length-append slots (replicate (n + 1 - length slots) None), length-replicate {A = Option FillState} (n + 1 - length slots) None)

-- something is held under a number only where there is a slot for it
pub slot_within : {A : Type 0} (n : ℕ) (slots : List (Option A)) (held : A) → get_or slots n None ≡ Some held → n < length slots
slot_within n slots held is =
    elim (cases_Bool (nat_lt n (length slots))) [
      | inl less ↦ ltb-true _ _ less
      | inr more ↦ let clash : None ≡ Some held = sym (get_or_past slots n None (ltb-false _ _ more)) ∙ is in absurd (cc clash)
    ]

put_is_there : (slot : Option FillState) (fill : Fill) → option_and_then fill_put slot ≡ Some fill → slot ≡ Some (Put fill)
put_is_there None fill is = cc
put_is_there (Some (Kept kept)) fill is = cc
put_is_there (Some (Put put)) fill is = cc

-- where a fill is kept, it is some fill
kept_there : (slot : Option FillState) → IsSome (option_and_then fill_kept slot) → (fill : Fill) × (slot ≡ Some (Kept fill))
kept_there None some = absurd (cc some)
kept_there (Some (Kept fill)) some = (fill, refl)
kept_there (Some (Put fill)) some = absurd (cc some)

pub kept-fill : (slots : List (Option FillState)) (n : ℕ) → IsSome (kept_under slots n) → (fill : Fill) × (slot_at slots n ≡ Some (Kept fill))
kept-fill slots n some = kept_there (slot_at slots n) some

-- what a slot holds, whatever is said of a number without a slot
pub slot-there : {A : Type 0} (slots : List (Option A)) (n : ℕ) (held : A) (other : Option A) → get_or slots n None ≡ Some held → get_or slots n other ≡ Some held
slot-there [] n held other is = let clash : None ≡ Some held = sym (get_or_past [] n None (omega arith)) ∙ is in absurd (cc clash)
slot-there (slot ∷ slots) zero held other is = is
slot-there (slot ∷ slots) (suc n) held other is = slot-there slots n held other is

some-same : (a b : Fill) → Some a ≡ Some b → a ≡ b
some-same a b same = cc same

-- the fill that is kept in a slot is the one that is kept under its number
pub found-kept : (slots : List (Option FillState)) (n : ℕ) (fill found : Fill) → slot_at slots n ≡ Some (Kept fill) → kept_under slots n ≡ Some found → found ≡ fill
found-kept slots n fill found kept is = some-same found fill (sym is ∙ ap (option_and_then fill_kept) kept)

-- the slot of a number under which a fill is put, and of one under which it is kept
pub slot_at-put : (n : ℕ) (slots : List (Option FillState)) (fills : Fills) (fill : Fill) → held_by slots ≡ fills → put_at fills n ≡ Some fill → slot_at slots n ≡ Some (Put fill)
slot_at-put n slots fills fill view is =
    put_is_there (slot_at slots n) fill
    (ap (option_and_then fill_put) (sym (get-held_by slots n) ∙ ap (λ shown. finite.get shown n) view) ∙ is)

-- none is put in the slot of a number under which none is
pub put_under-unput : (n : ℕ) (slots : List (Option FillState)) (fills : Fills) → held_by slots ≡ fills → put_at fills n ≡ None → put_under slots n ≡ None
put_under-unput n slots fills view is = ap (option_and_then fill_put) (sym (get-held_by slots n) ∙ ap (λ shown. finite.get shown n) view) ∙ is

-- what is kept in the slot of a number is what is kept under it
pub kept_at-held_by : (n : ℕ) (slots : List (Option FillState)) (fills : Fills) → held_by slots ≡ fills → kept_at fills n ≡ option_and_then fill_kept (slot_at slots n)
kept_at-held_by n slots fills view = ap (option_and_then fill_kept) (ap (λ shown. finite.get shown n) (sym view) ∙ get-held_by slots n)

-- ---- the fills that are put

put-held_from : (n : ℕ) (slots : List (Option FillState)) → filter_map fill_put (map (λ entry. entry.1) (held_from n slots)) ≡ fills_in_slots slots
put-held_from n [] = refl
put-held_from n (None ∷ slots) = put-held_from (n + 1) slots
put-held_from n (Some (Kept fill) ∷ slots) = put-held_from (n + 1) slots
put-held_from n (Some (Put fill) ∷ slots) = ap (λ fills. fill ∷ fills) (put-held_from (n + 1) slots)

-- the fills put, by number, are those put by slot
pub fills_put-held_by : (slots : List (Option FillState)) → fills_put (held_by slots) ≡ fills_in_slots slots
unfolding held_by
fills_put-held_by slots =
    ap (λ entries. filter_map fill_put (map (λ entry. entry.1) entries)) (finite.entries-from_sorted nat_cmp (held_from 0 slots) (passes _ (sorted-held_from 0 slots)))
    ∙ put-held_from 0 slots
