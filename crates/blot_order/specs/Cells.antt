-- The cells of the orders: what the fills of an order come to, those that are put and those that are kept.
use Rattle.std.specs.Prelude.{◌≡◌, ℕ, ◌+◌, ◌-◌, ◌<◌, ◌≤◌, Bool, List, [], length, slice_get, Contains, Option, None, Some, IfSome, if◌then◌else◌, option_and_then, option_map, unwrap_or}
use Rattle.std.specs.List.{last_or}
use Rattle.std.specs.Map.{keys_of, lookup}
use Rattle.blot_types.specs.declared.{TheConstants.EVENTS_MAX, fill.Fill.Fill, keys.OrderKey.OrderKey, lines.OrderLine.OrderLine}
use Rattle.blot_types.specs.Keys.{same_order}
use Rattle.blot_types.specs.Order.{fills_of, cum_of, value_of}
use Rattle.blot_order.specs.declared.{stored_fill.FillState.FillState, totals.Totals.Totals}
use Rattle.blot_order.specs.FillNumbers.{with_number, without_number}
use Rattle.blot_order.specs.Slots.{Placed, held_in_slots, placed_at, fills_in_slots, put_under, numbers_from, count_kept}
use Rattle.blot_order.specs.Totals.{no_fills, with_one, without_one, line_with, Fits, AreSmall}

-- what the fills of an order come to: the sums of those that are put, their numbers, and how many are kept
pub record Tally : Type 0 where
  pub totals : Totals
  pub numbers : List ℕ
  pub kept : ℕ

-- the tally of no fills
abbrev pub no_tally : Tally
no_tally = record { totals = no_fills; numbers = []; kept = 0 }

-- the tally of an order, by the fills in slots
abbrev pub tally_of : List (Option FillState) → OrderKey → Tally
tally_of slots order = record {
  totals = record { cum = cum_of (fills_of (fills_in_slots slots) order); value = value_of (fills_of (fills_in_slots slots) order) };
  numbers = numbers_from 0 order slots;
  kept = count_kept order slots;
}

-- a tally with one more fill that is kept, and with one less
abbrev pub with_one_kept : Tally → Tally
with_one_kept tally = record { totals = tally.totals; numbers = tally.numbers; kept = tally.kept + 1 }

abbrev pub without_one_kept : Tally → Tally
without_one_kept tally = record { totals = tally.totals; numbers = tally.numbers; kept = tally.kept - 1 }

-- a tally once a fill that is kept is put under its number, and once one that is put is taken and kept
abbrev pub with_fill_put : ℕ → Fill → Tally → Tally
with_fill_put number fill tally = record { totals = with_one fill tally.totals; numbers = with_number number tally.numbers; kept = tally.kept - 1 }

abbrev pub with_fill_taken : ℕ → Fill → Tally → Tally
with_fill_taken number fill tally = record { totals = without_one fill tally.totals; numbers = without_number number tally.numbers; kept = tally.kept + 1 }

-- the line of a tally whose fills are in slots: its sums, and what the fill under its last number says; none where no fill is put
abbrev pub line_in : List (Option FillState) → Tally → Option OrderLine
line_in slots tally = option_map (line_with tally.totals) (option_and_then (put_under slots) (last_or None tally.numbers))

-- a fill that is kept can be put: one is counted, its number is within the range and not listed, and the sums are small
pub record CanPut (number : ℕ) (tally : Tally) : Type 0 where
  pub kept : 0 < tally.kept
  pub within : number ≤ EVENTS_MAX
  pub unlisted : ¬ (Contains tally.numbers number)
  pub small : AreSmall tally.totals

-- a fill that is put can be taken: its number is listed, and the sums are small
pub record CanTake (number : ℕ) (tally : Tally) : Type 0 where
  pub listed : Contains tally.numbers number
  pub small : AreSmall tally.totals

-- the tally of an order in its cell; without a cell that of no fills
abbrev pub tally_at : List (OrderKey × Tally) → OrderKey → Tally
tally_at cells order = unwrap_or (lookup (same_order order) cells) no_tally

-- the order whose cell is at a place
abbrev pub order_at : List (OrderKey × Tally) → ℕ → Option OrderKey
order_at cells place = slice_get (keys_of cells) place

-- the cell of the order of a fill in a slot is at its place
abbrev pub IsPlaced : List (OrderKey × Tally) → Placed → Type 0
IsPlaced cells placed = order_at cells placed.place ≡ Some placed.fill.order

-- a cell that was at a place is still there
abbrev pub KeepsPlaces : List (OrderKey × Tally) → List (OrderKey × Tally) → Type 0
KeepsPlaces old new = (place : ℕ) (order : OrderKey) → order_at old place ≡ Some order → order_at new place ≡ Some order

-- the tallies of the orders that pass a test are changed, and those of the others are as they were
abbrev pub ChangesWhere : (OrderKey → Bool) → (Tally → Tally) → List (OrderKey × Tally) → List (OrderKey × Tally) → Type 0
ChangesWhere test change old new = (order : OrderKey) → tally_at new order ≡ (if test order then change (tally_at old order) else tally_at old order)

-- the same of one order
abbrev pub Changes : OrderKey → (Tally → Tally) → List (OrderKey × Tally) → List (OrderKey × Tally) → Type 0
Changes order = ChangesWhere (same_order order)

-- a fill that is kept is counted as one of its order, if there is one
abbrev pub CountsKept : List (OrderKey × Tally) → Option Fill → Type 0
CountsKept cells kept = IfSome kept (λ fill. 0 < (tally_at cells fill.order).kept)

-- The cells are those of the fills in slots: the cell of each order has the sums of its fills that are put, their numbers, and the
-- count of those that are kept, for which it has room (that is the invariant of `FillNumbers`). What is put is small, and there are few
-- slots, so no sum is large.
pub record HoldsOrders (cells : List (OrderKey × Tally)) (slots : List (Option FillState)) : Type 0 where
  pub few : length slots ≤ EVENTS_MAX + 1
  pub fits : (number : ℕ) → IfSome (put_under slots number) Fits
  pub tallies : (order : OrderKey) → tally_at cells order ≡ tally_of slots order

-- The cells are those of the fills in slots, and each slot has the place of the cell of its fill's order.
pub record HoldsSlots (cells : List (OrderKey × Tally)) (slots : List (Option Placed)) : Type 0 where
  pub orders : HoldsOrders cells (held_in_slots slots)
  pub places : (number : ℕ) → IfSome (placed_at slots number) (IsPlaced cells)
