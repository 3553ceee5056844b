-- The allocations that instructions bring: an AllocNew brings one, an AllocReplace one in the place of another,
-- an AllocCancel ends one. Each word reads the instructions newest first: after one stand the earlier ones.
use Rattle.std.specs.Prelude.{ℕ, Bool, true, false, ◌&&◌, ◌||◌, not, List, [], ◌∷◌, filter, reverse, Option, Some, None, find, is_none, nat_eq, nat_lt, flat_map, option_map, option_and_then}
use Rattle.std.specs.List.{list_any, list_all}
use Rattle.std.specs.Option.{option_map_or}
use Rattle.blot_types.specs.declared.{allocation.AllocRole.AllocRole, allocation.Instruction.Instruction, keys.AllocKey.AllocKey, keys.ExecKey.ExecKey}
use Rattle.blot_types.specs.declared.allocation.AllocRole.TheVariants.{Allocates, Replaces, Cancels}
use Rattle.blot_types.specs.Keys.{is_among, same_exec, same_alloc}

-- whether an instruction takes up this key
abbrev pub is_keyed : AllocKey → Instruction → Bool
is_keyed key instruction = same_alloc instruction.key key

-- the number of the instruction that takes up a key
abbrev pub alloc_taker_in : List Instruction → AllocKey → Option ℕ
alloc_taker_in instructions key = option_map (λ instruction. instruction.number) (find (is_keyed key) instructions)

-- whether an instruction of this role brings an allocation
abbrev pub brings_allocation : AllocRole → Bool
brings_allocation (Cancels reference) = false
brings_allocation _ = true

-- whether an instruction brings the allocation of this key
abbrev pub is_allocation_of : AllocKey → Instruction → Bool
is_allocation_of key instruction = is_keyed key instruction && brings_allocation instruction.role

-- whether there is an allocation of this key, live or ended
abbrev pub is_allocation_in : List Instruction → AllocKey → Bool
is_allocation_in instructions key = list_any (is_allocation_of key) instructions

-- whether an instruction of this role ends the allocation of this key: it replaces or cancels it
abbrev pub ends : AllocKey → AllocRole → Bool
ends key Allocates = false
ends key (Replaces reference) = same_alloc reference key
ends key (Cancels reference) = same_alloc reference key

-- the number of the instruction that ended the allocation of a key
abbrev pub ended_in : List Instruction → AllocKey → Option ℕ
ended_in instructions key = option_map (λ instruction. instruction.number) (find (λ instruction. ends key instruction.role) instructions)

-- whether an instruction's allocation is live: none of the instructions ended it (FIX 4.4 volume 5, AllocTransType)
abbrev pub is_live_in : List Instruction → Instruction → Bool
is_live_in instructions instruction = brings_allocation instruction.role && is_none (ended_in instructions instruction.key)

-- whether an instruction lists an execution of the chain of this root
abbrev pub names : ExecKey → Instruction → Bool
names root instruction = list_any (λ named. same_exec named root) instruction.roots

-- whether an instruction's allocation is live, and names the chain of this root
abbrev pub holds_in : List Instruction → ExecKey → Instruction → Bool
holds_in instructions root instruction = is_live_in instructions instruction && names root instruction

-- the number of the live allocation that names the chain of a root
abbrev pub holder_in : List Instruction → ExecKey → Option ℕ
holder_in instructions root = option_map (λ instruction. instruction.number) (find (holds_in instructions root) instructions)

-- the roots of the chains that live allocations name
abbrev pub named_in : List Instruction → List ExecKey
named_in instructions = flat_map (λ instruction. instruction.roots) (filter (is_live_in instructions) instructions)

-- whether a key is this one, if there is one
abbrev pub is_reference : Option AllocKey → AllocKey → Bool
is_reference reference key = option_map_or (λ other. same_alloc other key) reference false

-- whether an instruction's allocation is live, names the chain of this root, and isn't the one referred to
abbrev pub holds_beside : List Instruction → Option AllocKey → ExecKey → Instruction → Bool
holds_beside instructions reference root instruction = holds_in instructions root instruction && not (is_reference reference instruction.key)

-- the number of the live allocation that names the chain of a root, other than the one referred to
abbrev pub other_holder_in : List Instruction → Option AllocKey → ExecKey → Option ℕ
other_holder_in instructions reference root =
    option_map (λ instruction. instruction.number) (find (holds_beside instructions reference root) instructions)

-- the allocation that an instruction of this role refers to
abbrev pub reference_of : AllocRole → Option AllocKey
reference_of Allocates = None
reference_of (Replaces reference) = Some reference
reference_of (Cancels reference) = Some reference

-- whether there is a live allocation of this key
abbrev pub is_live_key : List Instruction → AllocKey → Bool
is_live_key instructions key = is_allocation_in instructions key && is_none (ended_in instructions key)

-- whether no root stands twice
abbrev pub are_apart : List ExecKey → Bool
are_apart [] = true
are_apart (root ∷ roots) = not (is_among roots root) && are_apart roots

-- whether an instruction may follow the earlier ones: its key is new, the allocation that it refers to is live, and
-- the chains that it names are all different, and named by no other live allocation
abbrev pub may_follow : List Instruction → AllocKey → AllocRole → List ExecKey → Bool
may_follow earlier key role roots =
    is_none (alloc_taker_in earlier key) && option_map_or (is_live_key earlier) (reference_of role) true
    && are_apart roots && list_all (λ root. is_none (other_holder_in earlier (reference_of role) root)) roots

-- whether each instruction may follow those before it
abbrev pub is_instructed : List Instruction → Bool
is_instructed [] = true
is_instructed (instruction ∷ earlier) = may_follow earlier instruction.key instruction.role instruction.roots && is_instructed earlier

-- whether a number is above those of the instructions
abbrev pub is_above_instructions : ℕ → List Instruction → Bool
is_above_instructions number instructions = list_all (λ instruction. nat_lt instruction.number number) instructions

-- the number of the first instruction above a number that passes a test
abbrev pub first_instruction : (Instruction → Bool) → ℕ → List Instruction → Option ℕ
first_instruction test number instructions =
    option_map (λ instruction. instruction.number)
    (find (λ instruction. nat_lt number instruction.number && test instruction) (reverse instructions))

-- the number of the first instruction above a number that lists an execution of the chain of this root
abbrev pub first_naming : List Instruction → ℕ → ExecKey → Option ℕ
first_naming instructions number root = first_instruction (names root) number instructions

-- the roots that the allocation names which an instruction of this role ended
abbrev pub ended_roots : List Instruction → AllocRole → List ExecKey
ended_roots instructions role =
    option_map_or (λ ended. ended.roots) (option_and_then (λ key. find (is_keyed key) instructions) (reference_of role)) []

-- whether an instruction lists an execution of the chain of one of these roots
abbrev pub names_any : List ExecKey → Instruction → Bool
names_any roots instruction = list_any (λ root. names root instruction) roots

-- whether one instruction needs another: it refers to the other's allocation, or lists an execution of a chain that the
-- allocation names which the other ended
abbrev pub needs_instruction : List Instruction → Instruction → Instruction → Bool
needs_instruction instructions other instruction =
    ends other.key instruction.role || names_any (ended_roots instructions other.role) instruction

-- the number of the first instruction above that of another, given by its number, that needs the other
abbrev pub first_needing_instruction : List Instruction → ℕ → Option ℕ
first_needing_instruction instructions number =
    option_and_then (λ other. first_instruction (needs_instruction instructions other) number instructions)
    (find (λ instruction. nat_eq instruction.number number) instructions)
