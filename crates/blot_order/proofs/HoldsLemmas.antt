-- The cells of the fills in slots: what they say, and that they hold where room is made, and where a fill is kept, put or taken.
use Rattle.std.proofs.Common.{◌≡◌, ℕ, ◌+◌, ◌<◌, ◌≤◌, true, false, List, length, set, Option, Some, None, refl, sym, ap, subst, ◌∙◌, arith, inl, inr, if◌then◌else◌, ◌==◌, Bool, Contains, IfSome, option_and_then, option_map, eqb-true, get_or-set_same, get_or-set_other, length-set}
use Rattle.std.proofs.lemmas.Bool.{cases_Bool, eqb-false, false≢true}
use Rattle.std.proofs.lemmas.Int.{ints}
use Rattle.blot_types.specs.declared.{TheConstants.EVENTS_MAX, fill.Fill.Fill, keys.OrderKey.OrderKey}
use Rattle.blot_types.specs.Keys.{same_order}
use Rattle.blot_types.specs.Order.{fills_of, line_of, line_by}
use Rattle.blot_order.specs.declared.stored_fill.FillState.{FillState}
use Rattle.blot_order.specs.declared.stored_fill.FillState.TheVariants.{Kept, Put}
use Rattle.blot_order.specs.Cells.{Tally, tally_at, tally_of, line_in, with_one_kept, without_one_kept, with_fill_put, with_fill_taken, Changes, ChangesWhere, CountsKept, CanPut, CanTake, HoldsOrders}
use Rattle.blot_order.specs.Fills.{Fills, fill_put, fill_kept, fills_put}
use Rattle.blot_order.specs.Slots.{held_by, slot_at, fills_in_slots, put_under, kept_under, puts, keeps, keeps_under, numbers_from, reaching}
use Rattle.blot_order.specs.Totals.{Fits, AreSmall}
use Rattle.blot_order.proofs.PlaceLemmas.{same_order-refl}
use Rattle.blot_order.proofs.SlotLemmas.{slot_at-reaching, few-reaching, fills_put-held_by, slot_within}
use Rattle.blot_order.proofs.SumLemmas.{within_slots}
use Rattle.blot_order.proofs.TallyLemmas.{slot-listed, listed-number, last_fill-is, count-few, count-some, tally-reaching, tally-kept, tally-put, tally-taken}

-- one more fill that is kept, or none, leaves one
still_one : (test : Bool) (tally : Tally) → 0 < tally.kept → 0 < (if test then with_one_kept tally else tally).kept
still_one true tally one = omega (arith, one)
still_one false tally one = one

-- a tally that stays either way
either_way : (test : Bool) (tally : Tally) → (if test then tally else tally) ≡ tally
either_way true tally = refl
either_way false tally = refl

-- ---- what cells that hold say

module _ (cells : List (OrderKey × Tally)) (slots : List (Option FillState)) (are : HoldsOrders cells slots) where
  -- no sum is large
  pub small : (order : OrderKey) → AreSmall (tally_at cells order).totals
  small order =
      let within = within_slots order slots are.fits in
      let cum = ap (λ (t : Tally). t.totals.cum) (are.tallies order) in
      let value = ap (λ (t : Tally). t.totals.value) (are.tallies order) in
      record {
        cum_low = omega (arith, ints, cum, within.cum_low);
        cum_high = omega (arith, ints, cum, within.cum_high, are.few);
        value_low = omega (arith, ints, value, within.value_low, are.few);
        value_high = omega (arith, ints, value, within.value_high, are.few);
      }

  -- no more fills are kept than there are slots
  pub few_kept : (order : OrderKey) → (tally_at cells order).kept ≤ EVENTS_MAX + 1
  few_kept order =
      let count = ap (λ (t : Tally). t.kept) (are.tallies order) in
      let few = count-few order slots in
      omega (arith, count, few, are.few)

  -- where a fill is kept, its order has one
  has_kept : (n : ℕ) (fill : Fill) → slot_at slots n ≡ Some (Kept fill) → 0 < (tally_at cells fill.order).kept
  has_kept n fill is =
      let one : keeps fill.order (slot_at slots n) ≡ true = ap (keeps fill.order) is ∙ same_order-refl fill.order in
      subst (λ (t : Tally). 0 < t.kept) (sym (are.tallies fill.order)) (count-some fill.order n slots (slot_within n slots (Kept fill) is) one)

  -- and no number of its order is that of the fill
  lists_none : (n : ℕ) (fill : Fill) → slot_at slots n ≡ Some (Kept fill) → ¬ (Contains (tally_at cells fill.order).numbers n)
  lists_none n fill is there =
      let found = slot-listed fill.order 0 slots n (subst (λ (t : Tally). Contains t.numbers n) (are.tallies fill.order) there) in
      let at = found.1 in
      let here : found.0 ≡ n = omega (arith, at) in
      false≢true (sym (ap (puts fill.order) is) ∙ subst (λ k. puts fill.order (slot_at slots k) ≡ true) here found.2)

  pub can_put : (n : ℕ) (fill : Fill) → slot_at slots n ≡ Some (Kept fill) → CanPut n (tally_at cells fill.order)
  can_put n fill is =
      let within = slot_within n slots (Kept fill) is in
      record { kept = has_kept n fill is; within = omega (arith, within, are.few); unlisted = lists_none n fill is; small = small fill.order }

  -- where a fill is put, its order lists the number
  lists : (n : ℕ) (fill : Fill) → slot_at slots n ≡ Some (Put fill) → Contains (tally_at cells fill.order).numbers n
  lists n fill is =
      let there = listed-number fill.order 0 n slots (ap (puts fill.order) is ∙ same_order-refl fill.order) in
      let here : 0 + n ≡ n = omega arith in
      subst (λ (t : Tally). Contains t.numbers n) (sym (are.tallies fill.order)) (subst (Contains (numbers_from 0 fill.order slots)) here there)

  pub can_take : (n : ℕ) (fill : Fill) → slot_at slots n ≡ Some (Put fill) → CanTake n (tally_at cells fill.order)
  can_take n fill is = record { listed = lists n fill is; small = small fill.order }

  -- the line of an order, as it is read
  pub line-read :
      (read : List (Option FillState)) (fills : Fills) (order : OrderKey) (tally : Tally) → held_by slots ≡ fills → read ≡ slots → tally ≡ tally_at cells order
      → line_in read tally ≡ line_of (fills_of (fills_put fills) order)
  line-read read fills order tally view same is =
      let tallies : tally ≡ tally_of slots order = is ∙ are.tallies order in
      (λ i. line_in (same i) (tallies i))
      ∙ ap (option_map (line_by (fills_of (fills_in_slots slots) order))) (sym (last_fill-is order slots))
      ∙ ap (λ shown. line_of (fills_of shown order)) (sym (fills_put-held_by slots) ∙ ap fills_put view)

  -- ---- room

  -- more empty slots
  pub reached : (n : ℕ) → n ≤ EVENTS_MAX → (new : List (Option FillState)) → new ≡ reaching n slots → HoldsOrders cells new
  reached n within new is =
      subst (HoldsOrders cells) (sym is) (record {
        few = few-reaching n (EVENTS_MAX + 1) slots (omega arith) are.few;
        fits = λ k. subst (λ slot. IfSome (option_and_then fill_put slot) Fits) (sym (slot_at-reaching n k slots)) (are.fits k);
        tallies = λ order. are.tallies order ∙ sym (tally-reaching order n slots);
      })

  -- other cells with the same tallies
  pub holds-same : (new : List (OrderKey × Tally)) (key : OrderKey) → Changes key (λ tally. tally) cells new → HoldsOrders new slots
  holds-same new key same = record {
    few = are.few;
    fits = are.fits;
    tallies = λ order. same order ∙ either_way (same_order key order) (tally_at cells order) ∙ are.tallies order;
  }

  -- ---- one slot changed

  module _ (new : List (OrderKey × Tally)) (n : ℕ) (within : n < length slots) where
    holds-set :
        (held : FillState) → IfSome (fill_put held) Fits → ((order : OrderKey) → tally_at new order ≡ tally_of (set slots n (Some held)) order)
        → HoldsOrders new (set slots n (Some held))
    holds-set held fits tallies =
        let after = set slots n (Some held) in
        record {
          few = omega (arith, are.few, length-set slots n (Some held));
          fits = λ k. elim (cases_Bool (k == n)) [
            | inl same ↦
                let here : slot_at after k ≡ Some held = ap (slot_at after) (eqb-true k n same) ∙ get_or-set_same slots n (Some held) None within in
                subst (λ slot. IfSome (option_and_then fill_put slot) Fits) (sym here) fits
            | inr other ↦
                subst (λ slot. IfSome (option_and_then fill_put slot) Fits) (sym (get_or-set_other slots n k (Some held) None (eqb-false k n other))) (are.fits k)
          ];
          tallies = tallies;
        }

    -- where none is put, nothing has to fit
    kept_fits : (fill : Fill) → IfSome (fill_put (Kept fill)) Fits
    kept_fits fill = search

    -- a fill that is kept is put
    pub holds-put :
        (fill : Fill) → Fits fill → slot_at slots n ≡ Some (Kept fill) → Changes fill.order (with_fill_put n fill) cells new
        → HoldsOrders new (set slots n (Some (Put fill)))
    holds-put fill fits is changes =
        holds-set (Put fill) fits
        (λ order. changes order
        ∙ ap (λ tally. if same_order fill.order order then with_fill_put n fill tally else tally) (are.tallies order)
        ∙ sym (tally-put order n slots within fill is))

    -- a fill that is put is taken and kept
    pub holds-taken :
        (fill : Fill) → slot_at slots n ≡ Some (Put fill) → Changes fill.order (with_fill_taken n fill) cells new
        → HoldsOrders new (set slots n (Some (Kept fill)))
    holds-taken fill is changes =
        holds-set (Kept fill) (kept_fits fill)
        (λ order. changes order
        ∙ ap (λ tally. if same_order fill.order order then with_fill_taken n fill tally else tally) (are.tallies order)
        ∙ sym (tally-taken order n slots within fill is))

    -- a fill is kept where none is put: its order has one more, and then that of the fill that was kept there has one less
    pub holds-kept :
        (counted : List (OrderKey × Tally)) (fill : Fill) → put_under slots n ≡ None → Changes fill.order with_one_kept cells counted
        → (read : List (Option FillState)) → read ≡ slots
        → ChangesWhere (keeps_under read n) without_one_kept counted new
        → HoldsOrders new (set slots n (Some (Kept fill)))
    holds-kept counted fill unput one_more read same one_less =
        holds-set (Kept fill) (kept_fits fill)
        (λ order. one_less order
        ∙ ap (λ these. if keeps order (slot_at these n) then without_one_kept (tally_at counted order) else tally_at counted order) same
        ∙ ap (λ tally. if keeps order (slot_at slots n) then without_one_kept tally else tally)
        (one_more order ∙ ap (λ tally. if same_order fill.order order then with_one_kept tally else tally) (are.tallies order))
        ∙ sym (tally-kept order n slots within fill unput))

  -- the order of a fill that is kept has one, also once one more is counted of some order
  one-counted :
      (counted : List (OrderKey × Tally)) (key : OrderKey) (n : ℕ) → Changes key with_one_kept cells counted → (slot : Option FillState) → slot_at slots n ≡ slot
      → CountsKept counted (option_and_then fill_kept slot)
  one-counted counted key n changes None is = search
  one-counted counted key n changes (Some (Put fill)) is = search
  one-counted counted key n changes (Some (Kept fill)) is =
      let one : 0 < (tally_at counted fill.order).kept =
      subst (λ (t : Tally). 0 < t.kept) (sym (changes fill.order)) (still_one (same_order key fill.order) (tally_at cells fill.order) (has_kept n fill is)) in
      search

  pub has_one-counted :
      (counted : List (OrderKey × Tally)) (key : OrderKey) (n : ℕ) (read : List (Option FillState)) → read ≡ slots → Changes key with_one_kept cells counted
      → CountsKept counted (kept_under read n)
  has_one-counted counted key n read same changes = one-counted counted key n changes (slot_at read n) (ap (λ these. slot_at these n) (sym same))
