-- What a call does to an index that names the places of slots. The slots stand newest first. `IsIndexed` is the index's own word for the
-- slots that it names.
use Rattle.std.specs.Prelude.{◌≡◌, ℕ, List, ◌∷◌, length}
use Rattle.blot_places.specs.declared.slots.Slot.{Slot}

module _ {I T : Type 0} (IsIndexed : I → List (Slot T) → Type 0) where
  -- it names the places of the slots that it named
  abbrev pub NamesSame : I → I → Type 0
  NamesSame old new = (slots : List (Slot T)) → IsIndexed old slots → IsIndexed new slots

  -- and that of one slot more, at this place after them
  abbrev pub NamesOneMore : Slot T → ℕ → I → I → Type 0
  NamesOneMore slot place old new = (slots : List (Slot T)) → IsIndexed old slots → place ≡ length slots → IsIndexed new (slot ∷ slots)

  -- and no longer that of the newest
  abbrev pub NamesOneLess : Slot T → I → I → Type 0
  NamesOneLess slot old new = (slots : List (Slot T)) → IsIndexed old (slot ∷ slots) → IsIndexed new slots
