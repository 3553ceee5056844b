-- The last entry of the live list is that of the last slot whose entry is there.
use Rattle.std.proofs.Common.{◌≡◌, ℕ, Bool, List, [], ◌∷◌, reverse, Option, Some, None, refl, sym, ap, ◌∙◌, inl, inr, find, option_map}
use Rattle.std.specs.List.{last_or}
use Rattle.std.specs.Option.{option_or}
use Rattle.std.proofs.lemmas.Bool.{cases_Bool}
use Rattle.std.proofs.lemmas.List.{reverse-append}
use Rattle.std.proofs.lemmas.List.Folds.{find-append}
use Rattle.blot_types.specs.declared.command.Entry.{Entry}
use Rattle.blot_types.proofs.GeneralLemmas.{or-none}
use Rattle.blot_places.specs.declared.slots.Slot.{Slot}
use Rattle.blot_places.proofs.SlotLemmas.{find_here, find_on, live_here, live_on}
use Rattle.blot_command.specs.Book.{entry_number}
use Rattle.blot_command.specs.Slots.{entries_in}

abbrev is_there : Slot Entry → Bool
is_there slot = slot.is_live

abbrev pub slot_number : Slot Entry → ℕ
slot_number slot = slot.item.number

-- the number of the last of some entries, if there is one, or else of this one
abbrev last_number : Option Entry → List Entry → Option ℕ
last_number entry entries = option_map entry_number (last_or entry entries)

-- the number of the last slot whose entry is there
abbrev pub last_there : List (Slot Entry) → Option ℕ
last_there slots = option_map slot_number (find is_there (reverse slots))

-- the last of some entries comes before any other
last-first : (entry : Option Entry) (entries : List Entry) → last_number entry entries ≡ option_or (last_number None entries) (option_map entry_number entry)
last-first entry [] = refl
last-first entry (first ∷ entries) = first-of entries first
  where
    first-of : (entries : List Entry) (first : Entry) → last_number (Some first) entries ≡ option_or (last_number (Some first) entries) (option_map entry_number entry)
    first-of [] first = refl
    first-of (next ∷ entries) first = first-of entries next

map-either : (a b : Option (Slot Entry)) → option_map slot_number (option_or a b) ≡ option_or (option_map slot_number a) (option_map slot_number b)
map-either None b = refl
map-either (Some slot) b = refl

there-first : (slot : Slot Entry) (later : List (Slot Entry)) → last_there (slot ∷ later) ≡ option_or (last_there later) (option_map slot_number (find is_there (slot ∷ [])))
there-first slot later =
    ap (λ l. option_map slot_number (find is_there l)) (reverse-append (slot ∷ []) later)
    ∙ ap (option_map slot_number) (find-append is_there (reverse later) (slot ∷ []))
    ∙ map-either (find is_there (reverse later)) (find is_there (slot ∷ []))

-- so its number is that of the last entry of the list
pub last-there : (slots : List (Slot Entry)) → last_there slots ≡ last_number None (entries_in slots)
last-there [] = refl
last-there (slot ∷ later) = elim (cases_Bool slot.is_live) [
  | inl there ↦
      there-first slot later ∙ ap (λ found. option_or (last_there later) (option_map slot_number found)) (find_here is_there slot [] there)
      ∙ ap (λ found. option_or found (Some slot.item.number)) (last-there later) ∙ sym (last-first (Some slot.item) (entries_in later))
      ∙ ap (last_number None) (sym (live_here slot later there))
  | inr out ↦
      there-first slot later ∙ ap (λ found. option_or (last_there later) (option_map slot_number found)) (find_on is_there slot [] out)
      ∙ or-none (last_there later) ∙ last-there later ∙ ap (last_number None) (sym (live_on slot later out))
]
