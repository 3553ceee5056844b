-- The sums of the fills of an order that are put in slots, when one slot changes, and that they are never large.
use Rattle.std.proofs.Common.{◌≡◌, ℕ, zero, suc, ◌*◌, ◌^◌, ◌<◌, pos, ◌+ℤ◌, ◌-ℤ◌, ◌*ℤ◌, ◌≤ℤ◌, List, [], ◌∷◌, length, set, Option, Some, None, arith, inl, inr, if◌then◌else◌, ℤ, neg_ℤ, IfSome, option_and_then}
use Rattle.std.proofs.lemmas.Bool.{cases_Bool}
use Rattle.std.proofs.lemmas.Int.{ints}
use Rattle.blot_types.specs.declared.{fill.Fill.Fill, keys.OrderKey.OrderKey}
use Rattle.blot_types.specs.Keys.{same_order}
use Rattle.blot_types.specs.Order.{total, fills_of, cum_of, value_of}
use Rattle.blot_types.proofs.SumLemmas.{total-cons}
use Rattle.blot_order.specs.declared.stored_fill.FillState.{FillState}
use Rattle.blot_order.specs.declared.stored_fill.FillState.TheVariants.{Kept, Put}
use Rattle.blot_order.specs.Fills.{fill_put}
use Rattle.blot_order.specs.Slots.{fills_in_slots, put_under}
use Rattle.blot_order.specs.Totals.{Fits}

-- ---- sums

-- the sum of an amount over the fills of an order in slots
abbrev pub sum_in : (Fill → ℤ) → OrderKey → List (Option FillState) → ℤ
sum_in amount order slots = total amount (fills_of (fills_in_slots slots) order)

-- the amount of a fill, where it is put and of an order
abbrev pub counted : (Fill → ℤ) → OrderKey → Option Fill → ℤ
counted amount order None = pos 0
counted amount order (Some fill) = if same_order fill.order order then amount fill else pos 0

-- the amount of the first slot, and of the later ones
sum_in-cons :
    (amount : Fill → ℤ) (order : OrderKey) (slot : Option FillState) (slots : List (Option FillState))
    → sum_in amount order (slot ∷ slots) ≡ (counted amount order (option_and_then fill_put slot) +ℤ sum_in amount order slots)
sum_in-cons amount order None slots = omega (arith, ints)
sum_in-cons amount order (Some (Kept fill)) slots = omega (arith, ints)
sum_in-cons amount order (Some (Put fill)) slots =
    elim (cases_Bool (same_order fill.order order)) [
      | inl own ↦ rw own (total-cons amount fill (fills_of (fills_in_slots slots) order))
      | inr other ↦ rw other (omega (arith, ints))
    ]

-- one slot changed
pub sum_in-set :
    (amount : Fill → ℤ) (order : OrderKey) (slots : List (Option FillState)) (n : ℕ) (slot : Option FillState) → n < length slots
    → sum_in amount order (set slots n slot) ≡ ((sum_in amount order slots -ℤ counted amount order (put_under slots n)) +ℤ counted amount order (option_and_then fill_put slot))
sum_in-set amount order [] n slot within = absurd (omega arith)
sum_in-set amount order (first ∷ slots) zero slot within =
    let new = sum_in-cons amount order slot slots in
    let old = sum_in-cons amount order first slots in
    omega (arith, ints, new, old)
sum_in-set amount order (first ∷ slots) (suc n) slot within =
    let new = sum_in-cons amount order first (set slots n slot) in
    let old = sum_in-cons amount order first slots in
    let rest = sum_in-set amount order slots n slot (omega arith) in
    omega (arith, ints, new, old, rest)

-- ---- bounds

-- what fits is counted with at most 10^16 and 10^32 units, or not at all
pub record IsSmallCount (order : OrderKey) (fill : Option Fill) : Type 0 where
  pub cum_low : pos 0 ≤ℤ counted (λ f. pos f.qty) order fill
  pub cum_high : counted (λ f. pos f.qty) order fill ≤ℤ pos (10 ^ 16)
  pub value_low : neg_ℤ (pos (10 ^ 32)) ≤ℤ counted (λ f. pos f.qty *ℤ f.price) order fill
  pub value_high : counted (λ f. pos f.qty *ℤ f.price) order fill ≤ℤ pos (10 ^ 32)

small_count : (order : OrderKey) (fill : Option Fill) → IfSome fill Fits → IsSmallCount order fill
small_count order None fits = record {
  cum_low = omega (arith, ints);
  cum_high = omega (arith, ints);
  value_low = omega (arith, ints);
  value_high = omega (arith, ints);
}
small_count order (Some fill) fits =
    elim (cases_Bool (same_order fill.order order)) [
      | inl own ↦ record {
        cum_low = rw own (omega (arith, ints));
        cum_high = rw own (omega (arith, ints, fits.qty));
        value_low = rw own fits.value_low;
        value_high = rw own fits.value_high;
      }
      | inr other ↦ record {
        cum_low = rw other (omega (arith, ints));
        cum_high = rw other (omega (arith, ints));
        value_low = rw other (omega (arith, ints));
        value_high = rw other (omega (arith, ints));
      }
    ]

-- the sums over slots are those of at most as many fills
pub record IsWithinSlots (order : OrderKey) (slots : List (Option FillState)) : Type 0 where
  pub cum_low : pos 0 ≤ℤ cum_of (fills_of (fills_in_slots slots) order)
  pub cum_high : cum_of (fills_of (fills_in_slots slots) order) ≤ℤ pos (length slots * 10 ^ 16)
  pub value_low : neg_ℤ (pos (length slots * 10 ^ 32)) ≤ℤ value_of (fills_of (fills_in_slots slots) order)
  pub value_high : value_of (fills_of (fills_in_slots slots) order) ≤ℤ pos (length slots * 10 ^ 32)

pub within_slots : (order : OrderKey) (slots : List (Option FillState)) → ((n : ℕ) → IfSome (put_under slots n) Fits) → IsWithinSlots order slots
within_slots order [] fits = record {
  cum_low = omega (arith, ints);
  cum_high = omega (arith, ints);
  value_low = omega (arith, ints);
  value_high = omega (arith, ints);
}
within_slots order (slot ∷ slots) fits =
    let first = small_count order (option_and_then fill_put slot) (fits 0) in
    let rest = within_slots order slots (λ n. fits (suc n)) in
    let cum = sum_in-cons (λ f. pos f.qty) order slot slots in
    let value = sum_in-cons (λ f. pos f.qty *ℤ f.price) order slot slots in
    record {
      cum_low = omega (arith, ints, cum, first.cum_low, rest.cum_low);
      cum_high = omega (arith, ints, cum, first.cum_high, rest.cum_high);
      value_low = omega (arith, ints, value, first.value_low, rest.value_low);
      value_high = omega (arith, ints, value, first.value_high, rest.value_high);
    }
