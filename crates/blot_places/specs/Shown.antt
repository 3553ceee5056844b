-- What a contract sees of slots: a list of items, and the items that are lifted out of it, whose slots are kept. Both stand newest first.
use Rattle.std.specs.Prelude.{ℕ, not, nat_eq, nat_lt, List, [], ◌∷◌, find, Option, Some, None, if◌then◌else◌, filter}
use Rattle.blot_places.specs.declared.slots.Slot.{Slot}
use Rattle.blot_places.specs.Slots.{lifted, live}

-- the items that are listed, and those that are kept beside the list
pub record Shown (T : Type 0) : Type 0 where
  pub list : List T
  pub kept : List T

-- what is shown of slots: the live items are listed, the lifted ones kept
abbrev pub shown_of : {T : Type 0} → List (Slot T) → Shown T
shown_of slots = record { list = live slots; kept = lifted slots }

-- where items have numbers
module _ {T : Type 0} (number_of : T → ℕ) where
  -- the item of a number
  abbrev pub item_at : ℕ → List T → Option T
  item_at number items = find (λ item. nat_eq (number_of item) number) items

  -- the items without that of a number
  abbrev pub without : ℕ → List T → List T
  without number items = filter (λ item. not (nat_eq (number_of item) number)) items

  -- the items with one more at its place, by its number
  abbrev pub with_item : T → List T → List T
  with_item item [] = item ∷ []
  with_item item (other ∷ earlier) =
      if nat_lt (number_of item) (number_of other) then other ∷ with_item item earlier else item ∷ other ∷ earlier

  -- the same, if there is one
  abbrev pub with_some : Option T → List T → List T
  with_some None items = items
  with_some (Some item) items = with_item item items

  -- the listed item of this number is lifted out of the list, and kept
  abbrev pub lifted_out : ℕ → Shown T → Shown T
  lifted_out number shown =
      record { list = without number shown.list; kept = with_some (item_at number shown.list) shown.kept }

  -- the kept item of this number is put back at its place in the list
  abbrev pub put_back : ℕ → Shown T → Shown T
  put_back number shown =
      record { list = with_some (item_at number shown.kept) shown.list; kept = without number shown.kept }
