-- What a contract sees of the allocations, newest first: one instruction more and one less, one lifted out and put back.
use Rattle.std.specs.Prelude.{◌≡◌, ℕ, Bool, true, List, ◌∷◌, Option, find, option_map}
use Rattle.blot_types.specs.declared.{allocation.AllocRole.AllocRole, allocation.Instruction.Instruction, keys.AllocKey.AllocKey, keys.ExecKey.ExecKey}
use Rattle.blot_types.specs.Instructions.{ended_roots, ends, first_instruction, is_above_instructions, is_keyed, names_any}
use Rattle.blot_places.specs.Shown.{Shown, item_at, lifted_out as item_lifted_out, put_back as item_put_back}

-- the roots of the chains that the instruction which takes up a key lists
abbrev pub roots_in : List Instruction → AllocKey → Option (List ExecKey)
roots_in instructions key = option_map (λ instruction. instruction.roots) (find (is_keyed key) instructions)

-- whether an instruction ends the allocation of a key
abbrev pub is_ending : AllocKey → Instruction → Bool
is_ending key instruction = ends key instruction.role

-- an instruction of this role ended an allocation, which named some chains: the number of the first instruction above a number
-- that lists an execution of one of these
abbrev pub first_after_end : List Instruction → AllocRole → ℕ → Option ℕ
first_after_end instructions role number = first_instruction (names_any (ended_roots instructions role)) number instructions

-- the number of an instruction
abbrev pub number_of : Instruction → ℕ
number_of instruction = instruction.number

-- the instruction of a number
abbrev pub instruction_at : ℕ → List Instruction → Option Instruction
instruction_at number instructions = item_at number_of number instructions

-- the instruction of this number is lifted out of the list, and kept; and it is put back at its place
abbrev pub lifted_out : ℕ → Shown Instruction → Shown Instruction
lifted_out number shown = item_lifted_out number_of number shown

abbrev pub put_back : ℕ → Shown Instruction → Shown Instruction
put_back number shown = item_put_back number_of number shown

-- the later list is the earlier one with one instruction more, of this number, key, role and roots
abbrev pub Adds : ℕ → AllocKey → AllocRole → List ExecKey → Shown Instruction → Shown Instruction → Type 0
Adds number key role roots earlier later =
    later.list ≡ record { number = number; key = key; role = role; roots = roots } ∷ earlier.list

-- the same, whatever the number and the roots
abbrev pub AddsOne : AllocKey → AllocRole → Shown Instruction → Shown Instruction → Type 0
AddsOne key role earlier later = (number : ℕ) × (roots : List ExecKey) × Adds number key role roots earlier later

-- the newest instruction has this key and role, and came after each one that is kept
abbrev pub IsNewest : AllocKey → AllocRole → Shown Instruction → Type 0
IsNewest key role shown =
    (number : ℕ) × (roots : List ExecKey) × (earlier : List Instruction)
    × (shown.list ≡ record { number = number; key = key; role = role; roots = roots } ∷ earlier)
    × (is_above_instructions number shown.kept ≡ true)
