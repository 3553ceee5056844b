-- What the fills of an order in slots come to, when one slot changes.
use Rattle.std.proofs.Common.{◌≡◌, ℕ, zero, suc, ◌+◌, ◌-◌, ◌<◌, ◌≤◌, pos, ◌+ℤ◌, ◌-ℤ◌, ◌*ℤ◌, Bool, true, false, List, [], ◌∷◌, ◌++◌, length, set, get_or, replicate, Option, Some, None, refl, sym, ap, subst, ◌∙◌, arith, inl, inr, if◌then◌else◌, ℤ, Contains, nat_lt, ◌⊎◌, option_and_then, lt-ltb, le-ltb, eq-eqb, ne_eqb}
use Rattle.std.specs.List.{last_or}
use Rattle.std.proofs.lemmas.Bool.{cases_Bool}
use Rattle.std.proofs.lemmas.Int.{ints}
use Rattle.blot_types.specs.declared.{fill.Fill.Fill, keys.OrderKey.OrderKey}
use Rattle.blot_types.specs.Keys.{same_order}
use Rattle.blot_types.specs.Order.{fills_of, cum_of, value_of}
use Rattle.blot_order.specs.declared.stored_fill.FillState.{FillState}
use Rattle.blot_order.specs.declared.stored_fill.FillState.TheVariants.{Kept, Put}
use Rattle.blot_order.specs.Cells.{Tally, tally_of, with_one_kept, without_one_kept, with_fill_put, with_fill_taken}
use Rattle.blot_order.specs.Fills.{fill_put}
use Rattle.blot_order.specs.FillNumbers.{with_number, without_number}
use Rattle.blot_order.specs.Slots.{fills_in_slots, slot_at, is_of, put_under, puts, keeps, numbers_from, count_kept, reaching}
use Rattle.blot_order.proofs.SlotLemmas.{fills_in_slots-reaching}
use Rattle.blot_order.proofs.SumLemmas.{counted, sum_in, sum_in-set}

-- one where a test passes, or none
abbrev count : Bool → ℕ
count passes = if passes then 1 else 0

-- ---- the numbers of the fills that are put

-- one of some numbers is the first or a later one
first-or-later : (first : ℕ) (others : List ℕ) (number k : ℕ) → k < length (first ∷ others) → get_or (first ∷ others) k number ≡ number → (first ≡ number) ⊎ Contains others number
first-or-later first others number zero within at = inl at
first-or-later first others number (suc k) within at = inr (k, omega (arith, within), at)

module _ (order : OrderKey) where
  -- the number of a slot that puts a fill is among them
  listed-later : (test : Bool) (first : ℕ) (others : List ℕ) (number : ℕ) → Contains others number → Contains (if test then first ∷ others else others) number
  listed-later false first others number there = there
  listed-later true first others number there = (suc there.0, omega (arith, there.1), there.2)

  pub listed-number : (first n : ℕ) (slots : List (Option FillState)) → puts order (slot_at slots n) ≡ true → Contains (numbers_from first order slots) (first + n)
  listed-number first n [] put = absurd (cc put)
  listed-number first zero (slot ∷ slots) put =
      let others = numbers_from (first + 1) order slots in
      subst (λ t. Contains (if t then first ∷ others else others) (first + 0)) (sym put) (0, omega arith, omega arith)
  listed-number first (suc n) (slot ∷ slots) put =
      let others = numbers_from (first + 1) order slots in
      let next : (first + 1) + n ≡ first + suc n = omega arith in
      listed-later (puts order slot) first others (first + suc n) (subst (Contains others) next (listed-number (first + 1) n slots put))

  -- a number that is among them is that of a slot that puts a fill
  pub slot-listed : (first : ℕ) (slots : List (Option FillState)) (number : ℕ) → Contains (numbers_from first order slots) number
      → (n : ℕ) × (first + n ≡ number) × (puts order (slot_at slots n) ≡ true)
  slot-listed first [] number there = absurd (omega (arith, there.1))
  slot-listed first (slot ∷ slots) number there =
      let others = numbers_from (first + 1) order slots in
      let next : Contains others number → (n : ℕ) × (first + n ≡ number) × (puts order (slot_at (slot ∷ slots) n) ≡ true) =
      λ later. (let found = slot-listed (first + 1) slots number later in let at = found.1 in (suc found.0, omega (arith, at), found.2)) in
      elim (cases_Bool (puts order slot)) [
        | inl put ↦
            let among : Contains (first ∷ others) number = subst (λ t. Contains (if t then first ∷ others else others) number) put there in
            elim (first-or-later first others number among.0 among.1 among.2) [
              | inl here ↦ (0, omega (arith, here), put)
              | inr later ↦ next later
            ]
        | inr other ↦ next (subst (λ t. Contains (if t then first ∷ others else others) number) other there)
      ]

  -- one slot changed, which puts a fill of the order as little or as much as before
  numbers-same :
      (first n : ℕ) (slots : List (Option FillState)) (slot : Option FillState) → n < length slots → puts order slot ≡ puts order (slot_at slots n)
      → numbers_from first order (set slots n slot) ≡ numbers_from first order slots
  numbers-same first n [] slot within same = absurd (omega (arith, within))
  numbers-same first zero (was ∷ slots) slot within same =
      ap (λ t. if t then first ∷ numbers_from (first + 1) order slots else numbers_from (first + 1) order slots) same
  numbers-same first (suc n) (was ∷ slots) slot within same =
      ap (λ others. if puts order was then first ∷ others else others) (numbers-same (first + 1) n slots slot (omega (arith, within)) same)

  -- a lower number comes first
  with-lower : (number first : ℕ) (slots : List (Option FillState)) → number < first → with_number number (numbers_from first order slots) ≡ number ∷ numbers_from first order slots
  with-lower number first [] less = refl
  with-lower number first (slot ∷ slots) less =
      let others = numbers_from (first + 1) order slots in
      let above : nat_lt first number ≡ false = le-ltb first number (omega (arith, less)) in
      elim (cases_Bool (puts order slot)) [
        | inl put ↦ rw put (rw above refl)
        | inr other ↦ rw other (with-lower number (first + 1) slots (omega (arith, less)))
      ]

  -- one slot that comes to put a fill
  numbers-put :
      (first n : ℕ) (slots : List (Option FillState)) (slot : Option FillState) → n < length slots → puts order (slot_at slots n) ≡ false → puts order slot ≡ true
      → numbers_from first order (set slots n slot) ≡ with_number (first + n) (numbers_from first order slots)
  numbers-put first n [] slot within before now = absurd (omega (arith, within))
  numbers-put first zero (was ∷ slots) slot within before now =
      let others = numbers_from (first + 1) order slots in
      let here : first + 0 ≡ first = omega arith in
      rw now (rw before (sym (ap (λ number. with_number number others) here ∙ with-lower first (first + 1) slots (omega arith))))
  numbers-put first (suc n) (was ∷ slots) slot within before now =
      let others = numbers_from (first + 1) order slots in
      let next : (first + 1) + n ≡ first + suc n = omega arith in
      let below : nat_lt first (first + suc n) ≡ true = lt-ltb first (first + suc n) (omega arith) in
      let rest = numbers-put (first + 1) n slots slot (omega (arith, within)) before now ∙ ap (λ number. with_number number others) next in
      elim (cases_Bool (puts order was)) [
        | inl put ↦ rw put (rw below (ap (λ xs. first ∷ xs) rest))
        | inr other ↦ rw other rest
      ]

  -- one slot that no longer puts a fill
  numbers-taken :
      (first n : ℕ) (slots : List (Option FillState)) (slot : Option FillState) → n < length slots → puts order (slot_at slots n) ≡ true → puts order slot ≡ false
      → numbers_from first order (set slots n slot) ≡ without_number (first + n) (numbers_from first order slots)
  numbers-taken first n [] slot within before now = absurd (omega (arith, within))
  numbers-taken first zero (was ∷ slots) slot within before now =
      let here : first + 0 ≡ first = omega arith in
      rw now (rw before (rw (eq-eqb first (first + 0) (sym here)) refl))
  numbers-taken first (suc n) (was ∷ slots) slot within before now =
      let others = numbers_from (first + 1) order slots in
      let next : (first + 1) + n ≡ first + suc n = omega arith in
      let rest = numbers-taken (first + 1) n slots slot (omega (arith, within)) before now ∙ ap (λ number. without_number number others) next in
      elim (cases_Bool (puts order was)) [
        | inl put ↦ rw put (rw (ne_eqb first (first + suc n) (omega arith)) (ap (λ xs. first ∷ xs) rest))
        | inr other ↦ rw other rest
      ]

  -- the last fill is that under the last number
  last-found :
      (read : ℕ → Option Fill) (first : ℕ) (slots : List (Option FillState)) → ((k : ℕ) → read (first + k) ≡ put_under slots k)
      → (before : Option Fill) (number : Option ℕ) → before ≡ option_and_then read number
      → last_or before (fills_of (fills_in_slots slots) order) ≡ option_and_then read (last_or number (numbers_from first order slots))
  last-found read first [] reads before number is = is
  last-found read first (None ∷ slots) reads before number is = last-found read (first + 1) slots (λ k. ap read (omega arith) ∙ reads (suc k)) before number is
  last-found read first (Some (Kept fill) ∷ slots) reads before number is = last-found read (first + 1) slots (λ k. ap read (omega arith) ∙ reads (suc k)) before number is
  last-found read first (Some (Put fill) ∷ slots) reads before number is =
      let later : (k : ℕ) → read ((first + 1) + k) ≡ put_under slots k = λ k. ap read (omega arith) ∙ reads (suc k) in
      let here : Some fill ≡ read first = sym (reads 0) ∙ ap read (omega arith) in
      elim (cases_Bool (same_order fill.order order)) [
        | inl own ↦ rw own (last-found read (first + 1) slots later (Some fill) (Some first) here)
        | inr other ↦ rw other (last-found read (first + 1) slots later before number is)
      ]

  pub last_fill-is : (slots : List (Option FillState)) → last_or None (fills_of (fills_in_slots slots) order) ≡ option_and_then (put_under slots) (last_or None (numbers_from 0 order slots))
  last_fill-is slots = last-found (put_under slots) 0 slots (λ k. ap (put_under slots) (omega arith)) None None refl

  -- ---- how many fills are kept

  count-first : (slot : Option FillState) (slots : List (Option FillState)) → count_kept order (slot ∷ slots) ≡ count (keeps order slot) + count_kept order slots
  count-first slot slots =
      elim (cases_Bool (keeps order slot)) [
        | inl put ↦ rw put (omega arith)
        | inr other ↦ rw other (omega arith)
      ]

  count-set :
      (n : ℕ) (slots : List (Option FillState)) (slot : Option FillState) → n < length slots
      → count_kept order (set slots n slot) + count (keeps order (slot_at slots n)) ≡ count_kept order slots + count (keeps order slot)
  count-set n [] slot within = absurd (omega (arith, within))
  count-set zero (was ∷ slots) slot within =
      let new = count-first slot slots in
      let old = count-first was slots in
      omega (arith, new, old)
  count-set (suc n) (was ∷ slots) slot within =
      let new = count-first was (set slots n slot) in
      let old = count-first was slots in
      let rest = count-set n slots slot (omega (arith, within)) in
      omega (arith, new, old, rest)

  pub count-few : (slots : List (Option FillState)) → count_kept order slots ≤ length slots
  count-few [] = omega arith
  count-few (slot ∷ slots) =
      let one = count-first slot slots in
      let rest = count-few slots in
      elim (cases_Bool (keeps order slot)) [
        | inl one_more ↦ let is : count (keeps order slot) ≡ 1 = ap count one_more in omega (arith, one, rest, is)
        | inr other ↦ let is : count (keeps order slot) ≡ 0 = ap count other in omega (arith, one, rest, is)
      ]

  pub count-some : (n : ℕ) (slots : List (Option FillState)) → n < length slots → keeps order (slot_at slots n) ≡ true → 0 < count_kept order slots
  count-some n slots within kept =
      let one : count (keeps order (slot_at slots n)) ≡ 1 = ap count kept in
      let without = count-set n slots None within in
      omega (arith, one, without)

  -- ---- empty slots at the end

  numbers-empty : (first m : ℕ) → numbers_from first order (replicate m None) ≡ []
  numbers-empty first zero = refl
  numbers-empty first (suc m) = numbers-empty (first + 1) m

  numbers-reaching : (first m : ℕ) (slots : List (Option FillState)) → numbers_from first order (slots ++ replicate m None) ≡ numbers_from first order slots
  numbers-reaching first m [] = numbers-empty first m
  numbers-reaching first m (slot ∷ slots) = ap (λ others. if puts order slot then first ∷ others else others) (numbers-reaching (first + 1) m slots)

  count-empty : (m : ℕ) → count_kept order (replicate m None) ≡ 0
  count-empty zero = refl
  count-empty (suc m) = count-empty m

  count-reaching : (m : ℕ) (slots : List (Option FillState)) → count_kept order (slots ++ replicate m None) ≡ count_kept order slots
  count-reaching m [] = count-empty m
  count-reaching m (slot ∷ slots) =
      let new = count-first slot (slots ++ replicate m None) in
      let old = count-first slot slots in
      let rest = count-reaching m slots in
      omega (arith, new, old, rest)

  pub tally-reaching : (n : ℕ) (slots : List (Option FillState)) → tally_of (reaching n slots) order ≡ tally_of slots order
  tally-reaching n slots =
      let fills = fills_in_slots-reaching n slots in
      λ i. record {
        totals = record { cum = cum_of (fills_of (fills i) order); value = value_of (fills_of (fills i) order) };
        numbers = numbers-reaching 0 (n + 1 - length slots) slots i;
        kept = count-reaching (n + 1 - length slots) slots i;
      }

-- ---- one slot changed

-- a tally with the same fills put, and with a fill kept that wasn't, or not any more
recounted :
    (old new : Tally) (before now : Bool) → new.totals ≡ old.totals → new.numbers ≡ old.numbers → new.kept + count before ≡ old.kept + count now
    → new ≡ (if before then without_one_kept (if now then with_one_kept old else old) else (if now then with_one_kept old else old))
recounted old new true true totals numbers counts = let kept : new.kept ≡ (old.kept + 1) - 1 = omega (arith, counts) in λ i. record { totals = totals i; numbers = numbers i; kept = kept i }
recounted old new true false totals numbers counts = let kept : new.kept ≡ old.kept - 1 = omega (arith, counts) in λ i. record { totals = totals i; numbers = numbers i; kept = kept i }
recounted old new false true totals numbers counts = let kept : new.kept ≡ old.kept + 1 = omega (arith, counts) in λ i. record { totals = totals i; numbers = numbers i; kept = kept i }
recounted old new false false totals numbers counts = let kept : new.kept ≡ old.kept = omega (arith, counts) in λ i. record { totals = totals i; numbers = numbers i; kept = kept i }

module _ (order : OrderKey) (n : ℕ) (slots : List (Option FillState)) (within : n < length slots) where
  -- the slots after the change
  abbrev after : FillState → List (Option FillState)
  after held = set slots n (Some held)

  -- a sum in which a slot counts for something else
  sum-after :
      (amount : Fill → ℤ) (held : FillState) (before now : ℤ) → counted amount order (put_under slots n) ≡ before → counted amount order (fill_put held) ≡ now
      → sum_in amount order (after held) ≡ ((sum_in amount order slots -ℤ before) +ℤ now)
  sum-after amount held before now was is =
      let sums = sum_in-set amount order slots n (Some held) within in
      omega (arith, ints, sums, was, is)

  -- the same sums where it counts for the same
  totals-same : (held : FillState) → ((amount : Fill → ℤ) → counted amount order (put_under slots n) ≡ counted amount order (fill_put held)) → (tally_of (after held) order).totals ≡ (tally_of slots order).totals
  totals-same held same =
      let each : (amount : Fill → ℤ) → sum_in amount order (after held) ≡ sum_in amount order slots =
      λ amount. (let sums = sum_in-set amount order slots n (Some held) within in let is = same amount in omega (arith, ints, sums, is)) in
      λ i. record { cum = each (λ f. pos f.qty) i; value = each (λ f. pos f.qty *ℤ f.price) i }

  -- a fill that is kept where none is put
  pub tally-kept :
      (fill : Fill) → put_under slots n ≡ None
      → tally_of (after (Kept fill)) order
      ≡ (if keeps order (slot_at slots n)
      then without_one_kept (if same_order fill.order order then with_one_kept (tally_of slots order) else tally_of slots order)
      else (if same_order fill.order order then with_one_kept (tally_of slots order) else tally_of slots order))
  tally-kept fill unput =
      recounted (tally_of slots order) (tally_of (after (Kept fill)) order) (keeps order (slot_at slots n)) (same_order fill.order order)
      (totals-same (Kept fill) (λ amount. ap (counted amount order) unput))
      (numbers-same order 0 n slots (Some (Kept fill)) within (sym (ap (is_of order) unput)))
      (count-set order n slots (Some (Kept fill)) within)

  -- a fill that is kept is put
  pub tally-put :
      (fill : Fill) → slot_at slots n ≡ Some (Kept fill)
      → tally_of (after (Put fill)) order ≡ (if same_order fill.order order then with_fill_put n fill (tally_of slots order) else tally_of slots order)
  tally-put fill is =
      let unput : put_under slots n ≡ None = ap (option_and_then fill_put) is in
      let before : puts order (slot_at slots n) ≡ false = ap (puts order) is in
      let counts = count-set order n slots (Some (Put fill)) within in
      let was : keeps order (slot_at slots n) ≡ same_order fill.order order = ap (keeps order) is in
      elim (cases_Bool (same_order fill.order order)) [
        | inl own ↦
            let sum : (amount : Fill → ℤ) → sum_in amount order (after (Put fill)) ≡ (sum_in amount order slots +ℤ amount fill) =
            λ amount. (let grown = sum-after amount (Put fill) (pos 0) (amount fill) (ap (counted amount order) unput) (ap (λ t. if t then amount fill else pos 0) own) in omega (arith, ints, grown)) in
            let here : 0 + n ≡ n = omega arith in
            let numbers = numbers-put order 0 n slots (Some (Put fill)) within before own ∙ ap (λ k. with_number k (numbers_from 0 order slots)) here in
            let one : count (keeps order (slot_at slots n)) ≡ 1 = ap count (was ∙ own) in
            let kept : count_kept order (after (Put fill)) ≡ count_kept order slots - 1 = omega (arith, counts, one) in
            rw own (λ i. record {
              totals = record { cum = sum (λ f. pos f.qty) i; value = sum (λ f. pos f.qty *ℤ f.price) i };
              numbers = numbers i;
              kept = kept i;
            })
        | inr other ↦
            let totals = totals-same (Put fill) (λ amount. ap (counted amount order) unput ∙ sym (ap (λ t. if t then amount fill else pos 0) other)) in
            let numbers = numbers-same order 0 n slots (Some (Put fill)) within (other ∙ sym before) in
            let none : count (keeps order (slot_at slots n)) ≡ 0 = ap count (was ∙ other) in
            let kept : count_kept order (after (Put fill)) ≡ count_kept order slots = omega (arith, counts, none) in
            rw other (λ i. record { totals = totals i; numbers = numbers i; kept = kept i })
      ]

  -- a fill that is put is taken and kept
  pub tally-taken :
      (fill : Fill) → slot_at slots n ≡ Some (Put fill)
      → tally_of (after (Kept fill)) order ≡ (if same_order fill.order order then with_fill_taken n fill (tally_of slots order) else tally_of slots order)
  tally-taken fill is =
      let put : put_under slots n ≡ Some fill = ap (option_and_then fill_put) is in
      let before : puts order (slot_at slots n) ≡ same_order fill.order order = ap (puts order) is in
      let counts = count-set order n slots (Some (Kept fill)) within in
      let none : count (keeps order (slot_at slots n)) ≡ 0 = ap (λ slot. count (keeps order slot)) is in
      elim (cases_Bool (same_order fill.order order)) [
        | inl own ↦
            let sum : (amount : Fill → ℤ) → sum_in amount order (after (Kept fill)) ≡ (sum_in amount order slots -ℤ amount fill) =
            λ amount. (let shrunk = sum-after amount (Kept fill) (amount fill) (pos 0) (ap (counted amount order) put ∙ ap (λ t. if t then amount fill else pos 0) own) refl in omega (arith, ints, shrunk)) in
            let here : 0 + n ≡ n = omega arith in
            let numbers = numbers-taken order 0 n slots (Some (Kept fill)) within (before ∙ own) refl ∙ ap (λ k. without_number k (numbers_from 0 order slots)) here in
            let one : count (keeps order (Some (Kept fill))) ≡ 1 = ap count own in
            let kept : count_kept order (after (Kept fill)) ≡ count_kept order slots + 1 = omega (arith, counts, none, one) in
            rw own (λ i. record {
              totals = record { cum = sum (λ f. pos f.qty) i; value = sum (λ f. pos f.qty *ℤ f.price) i };
              numbers = numbers i;
              kept = kept i;
            })
        | inr other ↦
            let totals = totals-same (Kept fill) (λ amount. ap (counted amount order) put ∙ ap (λ t. if t then amount fill else pos 0) other) in
            let numbers = numbers-same order 0 n slots (Some (Kept fill)) within (sym (before ∙ other)) in
            let zero : count (keeps order (Some (Kept fill))) ≡ 0 = ap count other in
            let kept : count_kept order (after (Kept fill)) ≡ count_kept order slots = omega (arith, counts, none, zero) in
            rw other (λ i. record { totals = totals i; numbers = numbers i; kept = kept i })
      ]
