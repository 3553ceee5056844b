-- What the allocations keep.
use Rattle.std.specs.Prelude.{◌≡◌, List, true}
use Rattle.std.specs.List.{list_all}
use Rattle.blot_types.specs.declared.allocation.Instruction.{Instruction}
use Rattle.blot_types.specs.Instructions.{are_apart, is_instructed}
use Rattle.blot_places.specs.declared.slots.Slot.{Slot}
use Rattle.blot_places.specs.Slots.{items, live, numbers_fall}
use Rattle.blot_alloc.specs.declared.index.Index.{Index}
use Rattle.blot_alloc.specs.Allocs.{number_of}
use Rattle.blot_alloc.specs.Index.{IsIndexed}

-- of all slots, newest first: the numbers fall, no instruction lists a root twice, and the index names their places; of the live ones:
-- each instruction might follow those before it
pub record HoldsAllocs (index : Index) (slots : List (Slot Instruction)) : Type 0 where
  pub fall : numbers_fall number_of (items slots) ≡ true
  pub apart : list_all (λ instruction. are_apart instruction.roots) (items slots) ≡ true
  pub indexed : IsIndexed index slots
  pub instructed : is_instructed (live slots) ≡ true
