-- The slots in which an order book stores its fills: slot n is that of number n, and the numbers past the
-- last slot hold nothing.
use Rattle.std.specs.Prelude.{ℕ, Bool, true, false, ◌+◌, ◌-◌, List, [], ◌∷◌, ◌++◌, length, map, get_or, replicate, Option, Some, None, if◌then◌else◌, filter, filter_map, option_and_then, option_map}
use Rattle.std.specs.FinMap as finite
use Rattle.blot_types.specs.declared.{fill.Fill.Fill, keys.OrderKey.OrderKey}
use Rattle.blot_types.specs.Keys.{same_order}
use Rattle.blot_order.specs.declared.stored_fill.FillState.{FillState}
use Rattle.blot_order.specs.declared.stored_fill.FillState.TheVariants.{Kept, Put}
use Rattle.blot_order.specs.Fills.{Fills, fill_put, fill_kept}

-- what slots hold, under the numbers from that of the first slot on
abbrev pub held_from : ℕ → List (Option FillState) → List (ℕ × FillState)
held_from number [] = []
held_from number (None ∷ slots) = held_from (number + 1) slots
held_from number (Some held ∷ slots) = (number, held) ∷ held_from (number + 1) slots

-- the fills by number
unfoldable pub held_by : List (Option FillState) → Fills
held_by slots = finite.from_sorted (held_from 0 slots)

-- a fill that is put, or kept
abbrev pub held_as : Bool → Fill → FillState
held_as true fill = Put fill
held_as false fill = Kept fill

-- a fill in its slot: whether it is put, and the place of the cell of its order among the cells
pub record Placed : Type 0 where
  pub fill : Fill
  pub is_put : Bool
  pub place : ℕ

-- a fill in its slot, put or kept from now on
abbrev pub marked : Bool → Placed → Placed
marked is_put placed = record placed { is_put = is_put }

-- what is held in a slot, wherever the cell is
abbrev pub held_in : Placed → FillState
held_in placed = held_as placed.is_put placed.fill

-- what slots hold, wherever the cells are
abbrev pub held_in_slots : List (Option Placed) → List (Option FillState)
held_in_slots slots = map (option_map held_in) slots

-- the fill in the slot of a number, with its place
abbrev pub placed_at : List (Option Placed) → ℕ → Option Placed
placed_at slots number = get_or slots number None

-- the slot of a number
abbrev pub slot_at : List (Option FillState) → ℕ → Option FillState
slot_at slots number = get_or slots number None

-- the fills that are put, by slot
abbrev pub fills_in_slots : List (Option FillState) → List Fill
fills_in_slots slots = filter_map (option_and_then fill_put) slots

-- the slots filled up with empty ones until there is one for a number
abbrev pub reaching : {A : Type 0} → ℕ → List (Option A) → List (Option A)
reaching number slots = slots ++ replicate (number + 1 - length slots) None

-- the fill that is put under a number
abbrev pub put_under : List (Option FillState) → ℕ → Option Fill
put_under slots number = option_and_then fill_put (slot_at slots number)

-- the fill that is kept under a number
abbrev pub kept_under : List (Option FillState) → ℕ → Option Fill
kept_under slots number = option_and_then fill_kept (slot_at slots number)

-- whether a fill is one of an order
abbrev pub is_of : OrderKey → Option Fill → Bool
is_of order None = false
is_of order (Some fill) = same_order fill.order order

-- whether a slot puts a fill of an order, and whether it keeps one
abbrev pub puts : OrderKey → Option FillState → Bool
puts order slot = is_of order (option_and_then fill_put slot)

abbrev pub keeps : OrderKey → Option FillState → Bool
keeps order slot = is_of order (option_and_then fill_kept slot)

-- whether a fill of an order is kept under a number
abbrev pub keeps_under : List (Option FillState) → ℕ → OrderKey → Bool
keeps_under slots number order = is_of order (kept_under slots number)

-- the numbers under which a fill of an order is put, from that of the first slot on
abbrev pub numbers_from : ℕ → OrderKey → List (Option FillState) → List ℕ
numbers_from number order [] = []
numbers_from number order (slot ∷ slots) = if puts order slot then number ∷ numbers_from (number + 1) order slots else numbers_from (number + 1) order slots

-- how many slots keep a fill of an order
abbrev pub count_kept : OrderKey → List (Option FillState) → ℕ
count_kept order slots = length (filter (keeps order) slots)
