-- An entry as the chains and the allocations see it.
use Rattle.std.specs.Prelude.{Bool, List, Option, Some, None, if◌then◌else◌}
use Rattle.blot_types.specs.declared.{allocation.Instruction.Instruction, command.Entry.Entry, keys.ExecKey.ExecKey, link.Link.Link}
use Rattle.blot_types.specs.Allocations.{instruction_by}
use Rattle.blot_types.specs.Chains.{is_root, own_root, root_in, takes_up}
use Rattle.blot_types.specs.Survivors.{links_of}

-- a link, if there is one and it takes up this key
abbrev pub link_keyed : ExecKey → Option Link → Option Link
link_keyed key None = None
link_keyed key (Some link) = if takes_up key link then Some link else None

-- whether a link after these entries brings a version to the chain of a root
abbrev pub is_version : List Entry → ExecKey → Link → Bool
is_version earlier root link = is_root root (own_root (root_in (links_of earlier)) link.key link.role)

-- an entry as the allocations see it, after these entries
abbrev pub instruction_after : List Entry → Entry → Option Instruction
instruction_after earlier entry = instruction_by (links_of earlier) entry.number entry.command
