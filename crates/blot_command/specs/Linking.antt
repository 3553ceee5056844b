-- An entry as the chains and the allocations see it.
use Rattle.std.specs.Prelude.{◌≡◌, Bool, true, false, List, [], ◌∷◌, reverse, None, IfSome, IsSome, if◌then◌else◌}
use Rattle.std.specs.List.{cons_option}
use Rattle.blot_types.specs.declared.{allocation.Instruction.Instruction, command.Command.Command, command.Entry.Entry, link.Link.Link}
use Rattle.blot_types.specs.declared.command.Command.TheVariants.{Trade, Correct, Bust, AllocNew, AllocReplace, AllocCancel}
use Rattle.blot_types.specs.Allocations.{instruction_by}
use Rattle.blot_types.specs.Chains.{link_refusal, is_above_links, is_chained}
use Rattle.blot_types.specs.Instructions.{may_follow, is_above_instructions, is_instructed}
use Rattle.blot_types.specs.Legal.{HoldsList}
use Rattle.blot_types.specs.Survivors.{link_of, links_in}
use Rattle.blot_places.specs.declared.slots.Slot.{Slot}
use Rattle.blot_places.specs.Shown.{Shown}
use Rattle.blot_chain.specs.Steps.{CanReturn as CanReturnLink, link_at, lifted_out as lifted_link, put_back as put_back_link}
use Rattle.blot_alloc.specs.Allocs.{instruction_at, lifted_out as lifted_instruction, put_back as put_back_instruction}
use Rattle.blot_command.specs.Slots.{AreNumbered, NewestThere, entries_in, left_in, left_instructions}

-- the links, and the instructions, with one more entry, newest first; at most one of the two changes
abbrev pub with_link : Entry → List Link → List Link
with_link entry links = cons_option (link_of entry) links

abbrev pub with_instruction : Entry → List Link → List Instruction → List Instruction
with_instruction entry links instructions = cons_option (instruction_by links entry.number entry.command) instructions

-- a link may come next: it is accepted, and its number is above the others
pub record CanLinkNext (links : List Link) (link : Link) : Type 0 where
  pub accepted : link_refusal links link.key link.role ≡ None
  pub above : is_above_links link.number links ≡ true

-- an instruction may come next: it may follow the others, and its number is above them
pub record CanInstructNext (instructions : List Instruction) (instruction : Instruction) : Type 0 where
  pub accepted : may_follow instructions instruction.key instruction.role instruction.roots ≡ true
  pub above : is_above_instructions instruction.number instructions ≡ true

-- an entry may come next, as the link or the instruction that it is
pub record CanLink (entry : Entry) (links : List Link) (instructions : List Instruction) : Type 0 where
  pub link : IfSome (link_of entry) (CanLinkNext links)
  pub instruction : IfSome (instruction_by links entry.number entry.command) (CanInstructNext instructions)

-- an entry came last: the newest link or instruction is its own
abbrev pub IsLinkedLast : Entry → List Link → List Instruction → Type 0
IsLinkedLast entry links instructions =
    (earlier : List Link) × (before : List Instruction) × (links ≡ with_link entry earlier) × (instructions ≡ with_instruction entry earlier before)

-- a list without its first item; an empty one as it is
abbrev pub rest_of : {A : Type 0} → List A → List A
rest_of [] = []
rest_of (item ∷ rest) = rest

-- the links without the newest, where a command is a link
abbrev pub without_link : Command → List Link → List Link
without_link (Trade trade) links = rest_of links
without_link (Correct correct) links = rest_of links
without_link (Bust bust) links = rest_of links
without_link _ links = links

-- the instructions without the newest, where a command is an instruction
abbrev pub without_instruction : Command → List Instruction → List Instruction
without_instruction (AllocNew new) instructions = rest_of instructions
without_instruction (AllocReplace replace) instructions = rest_of instructions
without_instruction (AllocCancel cancel) instructions = rest_of instructions
without_instruction _ instructions = instructions

-- whether a command is a link, or an instruction
abbrev pub is_link : Command → Bool
is_link (Trade trade) = true
is_link (Correct correct) = true
is_link (Bust bust) = true
is_link _ = false

abbrev pub is_instruction : Command → Bool
is_instruction (AllocNew new) = true
is_instruction (AllocReplace replace) = true
is_instruction (AllocCancel cancel) = true
is_instruction _ = false

-- the chains and the allocations once an entry is lifted out of them, whatever came later; and once it is put back
abbrev pub lifted_chains : Entry → Shown Link → Shown Link
lifted_chains entry chains = if is_link entry.command then lifted_link entry.number chains else chains

abbrev pub lifted_allocs : Entry → Shown Instruction → Shown Instruction
lifted_allocs entry allocs = if is_instruction entry.command then lifted_instruction entry.number allocs else allocs

abbrev pub returned_chains : Entry → Shown Link → Shown Link
returned_chains entry chains = if is_link entry.command then put_back_link entry.number chains else chains

abbrev pub returned_allocs : Entry → Shown Instruction → Shown Instruction
returned_allocs entry allocs = if is_instruction entry.command then put_back_instruction entry.number allocs else allocs

-- an entry can be lifted out of the chains and the allocations: it is listed there, and what is left is chained, and instructed
pub record CanLift (entry : Entry) (chains : Shown Link) (allocs : Shown Instruction) : Type 0 where
  pub link : is_link entry.command ≡ true → IsSome (link_at entry.number chains.list) × (is_chained (lifted_link entry.number chains).list ≡ true)
  pub instruction :
      is_instruction entry.command ≡ true → IsSome (instruction_at entry.number allocs.list) × (is_instructed (lifted_instruction entry.number allocs).list ≡ true)

-- and it can be put back
pub record CanUnLift (entry : Entry) (chains : Shown Link) (allocs : Shown Instruction) : Type 0 where
  pub link : is_link entry.command ≡ true → CanReturnLink entry.number chains × (is_chained (put_back_link entry.number chains).list ≡ true)
  pub instruction :
      is_instruction entry.command ≡ true → IsSome (instruction_at entry.number allocs.kept) × (is_instructed (put_back_instruction entry.number allocs).list ≡ true)

-- what the live list keeps: its slots hold a book, the links and the instructions are those of the entries that are there; those
-- that are kept are of the entries that were taken out. Of the slots of one execution none but the newest has its entry there
pub record HoldsLive (slots : List (Slot Entry)) (chains : Shown Link) (allocs : Shown Instruction) : Type 0 where
  pub numbered : AreNumbered slots
  pub holds : HoldsList (entries_in slots) chains.list allocs.list
  pub kept_links : chains.kept ≡ links_in (left_in slots)
  pub kept_instructions : allocs.kept ≡ left_instructions (reverse slots)
  pub newest : NewestThere (reverse slots)
