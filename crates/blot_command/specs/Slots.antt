-- The slots of the live list, in rising order of number: each has an entry, which is there, or was taken out.
use Rattle.std.specs.Prelude.{◌≡◌, true, List, [], ◌∷◌, reverse, Some, ⊤, IfSome, None, if◌then◌else◌}
use Rattle.std.specs.List.{cons_option}
use Rattle.blot_types.specs.declared.{allocation.Instruction.Instruction, command.Entry.Entry}
use Rattle.blot_types.specs.Allocations.{instruction_by}
use Rattle.blot_types.specs.Chains.{taker_in}
use Rattle.blot_types.specs.Refusals.{exec_key}
use Rattle.blot_types.specs.Survivors.{links_in}
use Rattle.blot_places.specs.declared.slots.Slot.{Slot}
use Rattle.blot_places.specs.Shown.{item_at}
use Rattle.blot_places.specs.Slots.{items, live, lifted, numbers_fall}
use Rattle.blot_command.specs.Book.{entry_number}

-- the entries that are there, and those that were taken out, newest first
abbrev pub entries_in : List (Slot Entry) → List Entry
entries_in slots = live slots

abbrev pub left_in : List (Slot Entry) → List Entry
left_in slots = lifted (reverse slots)

-- the numbers rise
abbrev pub AreNumbered : List (Slot Entry) → Type 0
AreNumbered slots = numbers_fall entry_number (items (reverse slots)) ≡ true

-- an entry was taken out
abbrev pub IsLeft : Entry → List (Slot Entry) → Type 0
IsLeft entry slots = item_at entry_number entry.number (left_in slots) ≡ Some entry

-- ---- newest first: after a slot stand the earlier ones

-- the instructions of the entries that were taken out: the roots are those that all earlier slots tell
abbrev pub left_instructions : List (Slot Entry) → List Instruction
left_instructions [] = []
left_instructions (slot ∷ earlier) =
    if slot.is_live
    then left_instructions earlier else cons_option (instruction_by (links_in (items earlier)) slot.item.number slot.item.command) (left_instructions earlier)

-- of the slots whose entries take up one execution, none but the newest has its entry there
abbrev pub NewestThere : List (Slot Entry) → Type 0
NewestThere [] = ⊤
NewestThere (slot ∷ earlier) = IfSome (exec_key slot.item.command) (λ key. taker_in (links_in (live earlier)) key ≡ None) × NewestThere earlier
