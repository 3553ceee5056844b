-- Slots, newest first: after a slot stand the earlier ones. A slot is live, or lifted out of what the list shows.
use Rattle.std.specs.Prelude.{ℕ, ◌<◌, ◌≤◌, Bool, true, false, ◌&&◌, not, nat_eq, nat_le, nat_lt, List, [], ◌∷◌, map, find, length, slice_get, slice_index_or, Option, Some, None, if◌then◌else◌, filter, filter_map, option_and_then, option_map}
use Rattle.std.specs.List.{list_all}
use Rattle.std.specs.List.Sorted.{IsPartitionedBy}
use Rattle.std.specs.Option.{option_map_or}
use Rattle.blot_places.specs.declared.slots.Slot.{Slot}

module _ {T : Type 0} where
  -- the items of all slots, of the live ones, and of those that are lifted out
  abbrev pub items : List (Slot T) → List T
  items slots = map (λ slot. slot.item) slots

  abbrev pub live : List (Slot T) → List T
  live slots = items (filter (λ slot. slot.is_live) slots)

  abbrev pub lifted : List (Slot T) → List T
  lifted slots = items (filter (λ slot. not slot.is_live) slots)

  -- the places of the items that pass a test, newest first: the oldest slot is at place 0
  abbrev pub places_by : (T → Bool) → List (Slot T) → List ℕ
  places_by test [] = []
  places_by test (slot ∷ earlier) = if test slot.item then length earlier ∷ places_by test earlier else places_by test earlier

  -- whether the slot at this place is live. Here and below the slots stand oldest first
  abbrev pub is_live_at : List (Slot T) → ℕ → Bool
  is_live_at slots place = option_map_or (λ slot. slot.is_live) (slice_get slots place) false

  -- the item of the first live slot at one of these places
  abbrev pub newest_live : List (Slot T) → List ℕ → Option T
  newest_live slots places = option_map (λ slot. slot.item) (option_and_then (slice_get slots) (find (is_live_at slots) places))

  -- the item at a place, if its slot is live; and those at some places
  abbrev pub live_item : List (Slot T) → ℕ → Option T
  live_item slots place = option_and_then (λ slot. if slot.is_live then Some slot.item else None) (slice_get slots place)

  abbrev pub live_items : List (Slot T) → List ℕ → List T
  live_items slots places = filter_map (live_item slots) places

-- where items have numbers. A list of items stands newest first again; a mark looks at no order
module _ {T : Type 0} (number_of : T → ℕ) where
  -- whether a number is above those of the items
  abbrev pub is_above : ℕ → List T → Bool
  is_above number items = list_all (λ item. nat_lt (number_of item) number) items

  -- whether the numbers fall from the newest item to the oldest
  abbrev pub numbers_fall : List T → Bool
  numbers_fall [] = true
  numbers_fall (item ∷ earlier) = is_above (number_of item) earlier && numbers_fall earlier

  -- the slot of this number is live now, or lifted; any other stays as it is
  abbrev pub mark : ℕ → Bool → Slot T → Slot T
  mark number is_live slot = if nat_eq (number_of slot.item) number then record slot { is_live = is_live } else slot

  abbrev pub marked : ℕ → Bool → List (Slot T) → List (Slot T)
  marked number is_live slots = map (mark number is_live) slots

  -- whether the item at a place has a number up to this one, or below it
  abbrev pub is_up_to : ℕ → List (Slot T) → ℕ → Bool
  is_up_to number slots place = option_map_or (λ slot. nat_le (number_of slot.item) number) (slice_get slots place) false

  abbrev pub is_below : ℕ → List (Slot T) → ℕ → Bool
  is_below number slots place = option_map_or (λ slot. nat_lt (number_of slot.item) number) (slice_get slots place) false

  -- those of some places at which no item is numbered up to this number; and those at which an item is numbered below it
  abbrev pub places_above : ℕ → List (Slot T) → List ℕ → List ℕ
  places_above number slots places = filter (λ place. not (is_up_to number slots place)) places

  abbrev pub places_below : ℕ → List (Slot T) → List ℕ → List ℕ
  places_below number slots places = filter (is_below number slots) places

  -- on a stack, the places of the items up to a number come first; so do those of the items below it
  abbrev pub UpToFirst : ℕ → List (Slot T) → List ℕ → Type 0
  UpToFirst number slots stack = IsPartitionedBy (is_up_to number slots) stack

  abbrev pub BelowFirst : ℕ → List (Slot T) → List ℕ → Type 0
  BelowFirst number slots stack = IsPartitionedBy (is_below number slots) stack

  -- the oldest live item above a number, on a stack
  abbrev pub oldest_above : ℕ → List (Slot T) → List ℕ → Option T
  oldest_above number slots stack = newest_live slots (places_above number slots stack)

  -- the slots before a place have numbers below this one, and no slot from it on has
  abbrev pub AreBelow : ℕ → ℕ → List (Slot T) → Type 0
  AreBelow number place slots = (k : ℕ) (d : Slot T) → k < place → number_of (slice_index_or slots k d).item < number

  abbrev pub NoneBelow : ℕ → ℕ → List (Slot T) → Type 0
  NoneBelow number place slots = (k : ℕ) (d : Slot T) → place ≤ k → k < length slots → number ≤ number_of (slice_index_or slots k d).item
