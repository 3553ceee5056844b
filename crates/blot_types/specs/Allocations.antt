-- The instructions of a list of entries, and the allocations that are live.
use Rattle.std.specs.Prelude.{ℕ, List, [], ◌∷◌, filter, reverse, Option, Some, None, is_none, filter_map}
use Rattle.std.specs.List.{cons_option}
use Rattle.blot_types.specs.declared.allocation.AllocRole.TheVariants.{Allocates, Replaces, Cancels}
use Rattle.blot_types.specs.declared.{allocation.Instruction.Instruction, allocation.Terms.Terms, command.Command.Command, command.Entry.Entry, keys.AllocKey.AllocKey, keys.ExecKey.ExecKey, link.Link.Link}
use Rattle.blot_types.specs.declared.command.Command.TheVariants.{AllocNew, AllocReplace, AllocCancel}
use Rattle.blot_types.specs.Chains.{root_in}
use Rattle.blot_types.specs.Instructions.{ended_in, named_in}
use Rattle.blot_types.specs.Survivors.{links_in}

-- the roots of the executions that terms list, among the links before them
abbrev pub roots_of_terms : List Link → Terms → List ExecKey
roots_of_terms links terms = filter_map (root_in links) terms.execs

-- an entry as the allocations see it, where these links stand before it: that of an allocation is an
-- instruction, and no other
abbrev pub instruction_by : List Link → ℕ → Command → Option Instruction
instruction_by links number (AllocNew new) =
    Some (record { number = number; key = new.key; role = Allocates; roots = roots_of_terms links new.terms })
instruction_by links number (AllocReplace replace) =
    Some (record { number = number; key = replace.key; role = Replaces replace.reference; roots = roots_of_terms links replace.terms })
instruction_by links number (AllocCancel cancel) =
    Some (record { number = number; key = cancel.key; role = Cancels cancel.reference; roots = [] })
instruction_by links number _ = None

-- the instructions of entries, newest first
abbrev pub instructions_in : List Entry → List Instruction
instructions_in [] = []
instructions_in (entry ∷ earlier) = cons_option (instruction_by (links_in earlier) entry.number entry.command) (instructions_in earlier)

abbrev pub instructions_of : List Entry → List Instruction
instructions_of list = instructions_in (reverse list)

-- an allocation: its key and its terms
pub record Allocation : Type 0 where
  pub key : AllocKey
  pub terms : Terms

-- the allocation that a command brings: an AllocNew and an AllocReplace bring one
abbrev pub allocation_of : Command → Option Allocation
allocation_of (AllocNew new) = Some (record { key = new.key; terms = new.terms })
allocation_of (AllocReplace replace) = Some (record { key = replace.key; terms = replace.terms })
allocation_of _ = None

-- the allocations that stand, in list order: those to which no AllocReplace or AllocCancel refers
abbrev pub live_allocations : List Entry → List Allocation
live_allocations list =
    filter (λ allocation. is_none (ended_in (instructions_of list) allocation.key)) (filter_map (λ entry. allocation_of entry.command) list)

-- the roots of the chains that are named: those of the executions that live allocations list
abbrev pub named_roots : List Entry → List ExecKey
named_roots list = named_in (instructions_of list)
