-- Where the instructions that take up a key, that end the allocation of a key, and that name the chain of a root are.
use Rattle.std.specs.Prelude.{◌≡◌, ℕ, reverse, List, IfSome, All}
use Rattle.blot_types.specs.declared.{allocation.AllocRole.AllocRole, allocation.Instruction.Instruction, keys.AllocKey.AllocKey, keys.ExecKey.ExecKey}
use Rattle.blot_types.specs.Instructions.{is_keyed, names, reference_of}
use Rattle.blot_types.specs.Keys.{same_alloc, same_exec}
use Rattle.blot_places.specs.declared.slots.Slot.{Slot}
use Rattle.blot_places.specs.Places.{HasRoom, Stacks, places_in}
use Rattle.blot_places.specs.Slots.{places_by}
use Rattle.blot_alloc.specs.declared.index.Index.{Index}
use Rattle.blot_alloc.specs.Allocs.{is_ending}

-- the index names the places of these slots, live or lifted
pub record IsIndexed (index : Index) (slots : List (Slot Instruction)) : Type 0 where
  pub takers : (key : AllocKey) → places_in same_alloc index.takers key ≡ places_by (is_keyed key) slots
  pub endings : (key : AllocKey) → places_in same_alloc index.endings key ≡ places_by (is_ending key) slots
  pub holders : (root : ExecKey) → places_in same_exec index.holders root ≡ places_by (names root) slots

-- there is room for the place of one more instruction: under its key, under that of the allocation that it ends, and under each root
pub record HasRoomFor (index : Index) (key : AllocKey) (role : AllocRole) (roots : List ExecKey) : Type 0 where
  pub takers : HasRoom same_alloc index.takers key
  pub endings : IfSome (reference_of role) (HasRoom same_alloc index.endings)
  pub holders : All (HasRoom same_exec index.holders) roots

-- the same, for that of a slot
abbrev pub HasRoomForSlot : Index → Slot Instruction → Type 0
HasRoomForSlot index slot = HasRoomFor index slot.item.key slot.item.role slot.item.roots

-- the places under a root, oldest first
abbrev pub stack_under : Stacks ExecKey → ExecKey → List ℕ
stack_under holders root = reverse (places_in same_exec holders root)
