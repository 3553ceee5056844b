-- The fills in slots, each with the place of the cell of its order: what the slots hold, and that the cells stand at their places
-- where room is made, and where a fill is kept, put or taken.
use Rattle.std.proofs.Common.{◌≡◌, ℕ, zero, suc, ◌+◌, ◌-◌, ◌<◌, ◌≤◌, Bool, true, false, List, length, set, get_or, replicate, Option, Some, None, refl, sym, ap, subst, ◌∙◌, arith, inl, inr, ◌==◌, ◌∷◌, ◌++◌, IfSome, IsSome, option_map, eqb-true, get_or-set_same, get_or-set_other}
use Rattle.std.proofs.Math.ListN.{get_or-map}
use Rattle.std.proofs.lemmas.Bool.{cases_Bool, eqb-false}
use Rattle.std.proofs.lemmas.List.{length-map, map-append, map-set}
use Rattle.std.proofs.lemmas.Option.{same_Some}
use Rattle.blot_types.specs.declared.{TheConstants.EVENTS_MAX, fill.Fill.Fill, keys.OrderKey.OrderKey}
use Rattle.blot_order.specs.Cells.{Tally, HoldsOrders, HoldsSlots, IsPlaced, KeepsPlaces}
use Rattle.blot_order.specs.Fills.{Fills, put_at}
use Rattle.blot_order.specs.Slots.{Placed, held_as, held_by, held_in, held_in_slots, kept_under, marked, placed_at, reaching, slot_at}
use Rattle.blot_order.proofs.HoldsLemmas.{reached}
use Rattle.blot_order.proofs.SlotLemmas.{held_by-reaching, kept-fill, slot-there, slot_at-put, slot_at-reaching, slot_within}

-- ---- what slots hold

-- what the slot of a number holds
pub slot_at-held : (n : ℕ) (slots : List (Option Placed)) → slot_at (held_in_slots slots) n ≡ option_map held_in (placed_at slots n)
slot_at-held n slots = get_or-map (option_map held_in) slots n None

-- one slot changed
pub held-set : (n : ℕ) (placed : Placed) (slots : List (Option Placed)) → held_in_slots (set slots n (Some placed)) ≡ set (held_in_slots slots) n (Some (held_in placed))
held-set n placed slots = map-set (option_map held_in) slots n (Some placed)

-- more empty slots
held-empties : (m : ℕ) → held_in_slots (replicate m None) ≡ replicate m None
held-empties zero = refl
held-empties (suc m) = ap (λ slots. None ∷ slots) (held-empties m)

pub held-reaching : (n : ℕ) (slots : List (Option Placed)) → held_in_slots (reaching n slots) ≡ reaching n (held_in_slots slots)
held-reaching n slots =
    map-append (option_map held_in) slots (replicate (n + 1 - length slots) None)
    ∙ ap (λ rest. held_in_slots slots ++ rest) (held-empties (n + 1 - length slots))
    ∙ ap (λ m. held_in_slots slots ++ replicate (n + 1 - m) None) (sym (length-map slots (option_map held_in)))

pub view-reached : (n : ℕ) (old new : List (Option Placed)) → new ≡ reaching n old → held_by (held_in_slots new) ≡ held_by (held_in_slots old)
view-reached n old new is =
    ap (λ (slots : List (Option Placed)). held_by (held_in_slots slots)) is ∙ ap held_by (held-reaching n old) ∙ held_by-reaching n (held_in_slots old)

-- as many
pub within-held : (n : ℕ) (slots : List (Option Placed)) → n < length slots → n < length (held_in_slots slots)
within-held n slots within = omega (arith, within, length-map slots (option_map held_in))

-- a fill in its slot
abbrev pub placed_as : Bool → Fill → ℕ → Placed
placed_as is_put fill place = record { fill = fill; is_put = is_put; place = place }

-- what is held where it is tells the fill, and whether it is put
same-placed : (was is_put : Bool) (held fill : Fill) (place : ℕ) → Some (held_as was held) ≡ Some (held_as is_put fill)
    → Some (placed_as was held place) ≡ Some (placed_as is_put fill place)
same-placed true true held fill place is = let same : held ≡ fill = cc is in ap (λ it. Some (placed_as true it place)) same
same-placed true false held fill place is = absurd (cc is)
same-placed false true held fill place is = absurd (cc is)
same-placed false false held fill place is = let same : held ≡ fill = cc is in ap (λ it. Some (placed_as false it place)) same

placed-there : (is_put : Bool) (fill : Fill) (slot : Option Placed) → option_map held_in slot ≡ Some (held_as is_put fill)
    → (place : ℕ) × (slot ≡ Some (placed_as is_put fill place))
placed-there is_put fill None is = absurd (cc is)
placed-there is_put fill (Some placed) is = (placed.place, same-placed placed.is_put is_put placed.fill fill placed.place is)

-- a fill that is kept, or put, has a place

pub placed-kept : (slots : List (Option Placed)) (n : ℕ) → IsSome (kept_under (held_in_slots slots) n)
    → (fill : Fill) × (place : ℕ) × (placed_at slots n ≡ Some (placed_as false fill place))
placed-kept slots n some =
    let kept = kept-fill (held_in_slots slots) n some in
    let there = placed-there false kept.0 (placed_at slots n) (sym (slot_at-held n slots) ∙ kept.1) in
    (kept.0, there.0, there.1)

pub placed-put : (slots : List (Option Placed)) (n : ℕ) (fills : Fills) (fill : Fill) → held_by (held_in_slots slots) ≡ fills → put_at fills n ≡ Some fill
    → (place : ℕ) × (placed_at slots n ≡ Some (placed_as true fill place))
placed-put slots n fills fill view is = placed-there true fill (placed_at slots n) (sym (slot_at-held n slots) ∙ slot_at-put n (held_in_slots slots) fills fill view is)

-- what is held where a fill is
pub held-placed : (n : ℕ) (slots : List (Option Placed)) (placed : Placed) → placed_at slots n ≡ Some placed → slot_at (held_in_slots slots) n ≡ Some (held_in placed)
held-placed n slots placed is = slot_at-held n slots ∙ ap (option_map held_in) is

-- ---- a slot that is marked

pub slot-marked : (slots : List (Option Placed)) (n : ℕ) (placed : Placed) (is_put : Bool) (old new : Option Placed)
    → placed_at slots n ≡ Some placed → old ≡ get_or slots n old → new ≡ option_map (marked is_put) old → new ≡ Some (marked is_put placed)
slot-marked slots n placed is_put old new there read marks = marks ∙ ap (option_map (marked is_put)) (read ∙ slot-there slots n placed old there)

-- what stands in it then
pub stands-marked : (slots these : List (Option Placed)) (n : ℕ) (placed now : Placed) (slot : Option Placed)
    → placed_at slots n ≡ Some placed → slot ≡ Some now → these ≡ set slots n slot → placed_at these n ≡ Some now
stands-marked slots these n placed now slot there marks changed =
    ap (λ (list : List (Option Placed)). placed_at list n) changed ∙ ap (λ (it : Option Placed). placed_at (set slots n it) n) marks
    ∙ get_or-set_same slots n (Some now) None (slot_within n slots placed there)

-- and is found in it
pub found-marked : (slots these : List (Option Placed)) (n : ℕ) (placed now found : Placed) (slot : Option Placed)
    → placed_at slots n ≡ Some placed → slot ≡ Some now → these ≡ set slots n slot → Some found ≡ placed_at these n → found ≡ now
found-marked slots these n placed now found slot there marks changed finds =
    same_Some found now (finds ∙ stands-marked slots these n placed now slot there marks changed)

-- ---- the places

-- what is at its place is still there
still-placed : (old new : List (OrderKey × Tally)) → KeepsPlaces old new → (slot : Option Placed) → IfSome slot (IsPlaced old) → IfSome slot (IsPlaced new)
still-placed old new keeps None is = is
still-placed old new keeps (Some placed) is = keeps placed.place placed.fill.order is

module _ (cells : List (OrderKey × Tally)) (slots : List (Option Placed)) (are : HoldsSlots cells slots) where
  -- the cell of a fill is at its place
  pub is-placed : (n : ℕ) (placed : Placed) → placed_at slots n ≡ Some placed → IsPlaced cells placed
  is-placed n placed is = subst (λ slot. IfSome slot (IsPlaced cells)) is (are.places n)

  -- other cells with the same tallies, at the same places
  pub slots-same : (new : List (OrderKey × Tally)) → HoldsOrders new (held_in_slots slots) → KeepsPlaces cells new → HoldsSlots new slots
  slots-same new holds keeps = record { orders = holds; places = λ k. still-placed cells new keeps (placed_at slots k) (are.places k) }

  -- more empty slots
  pub slots-reached : (n : ℕ) → n ≤ EVENTS_MAX → (new : List (Option Placed)) → new ≡ reaching n slots → HoldsSlots cells new
  slots-reached n within new is = subst (HoldsSlots cells) (sym is) (record {
    orders = reached cells (held_in_slots slots) are.orders n within (held_in_slots (reaching n slots)) (held-reaching n slots);
    places = λ k. subst (λ slot. IfSome slot (IsPlaced cells)) (sym (slot_at-reaching n k slots)) (are.places k);
  })

  -- one slot changed
  pub slots-set :
      (new : List (OrderKey × Tally)) (n : ℕ) (placed : Placed) → n < length slots → HoldsOrders new (set (held_in_slots slots) n (Some (held_in placed)))
      → KeepsPlaces cells new → IsPlaced new placed → HoldsSlots new (set slots n (Some placed))
  slots-set new n placed within holds keeps is =
      let after = set slots n (Some placed) in
      record {
        orders = subst (HoldsOrders new) (sym (held-set n placed slots)) holds;
        places = λ k. elim (cases_Bool (k == n)) [
          | inl same ↦
              let here : placed_at after k ≡ Some placed = ap (placed_at after) (eqb-true k n same) ∙ get_or-set_same slots n (Some placed) None within in
              subst (λ slot. IfSome slot (IsPlaced new)) (sym here) is
          | inr other ↦
              subst (λ slot. IfSome slot (IsPlaced new)) (sym (get_or-set_other slots n k (Some placed) None (eqb-false k n other)))
              (still-placed cells new keeps (placed_at slots k) (are.places k))
        ];
      }

  -- one that is marked
  pub slots-marked :
      (new : List (OrderKey × Tally)) (n : ℕ) (placed : Placed) (is_put : Bool) → placed_at slots n ≡ Some placed
      → HoldsOrders new (set (held_in_slots slots) n (Some (held_in (marked is_put placed)))) → KeepsPlaces cells new
      → HoldsSlots new (set slots n (Some (marked is_put placed)))
  slots-marked new n placed is_put there holds keeps =
      slots-set new n (marked is_put placed) (slot_within n slots placed there) holds keeps (keeps placed.place placed.fill.order (is-placed n placed there))
