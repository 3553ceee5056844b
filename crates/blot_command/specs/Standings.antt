-- What each entry of a list comes to, as the links and the instructions of the list tell it.
use Rattle.std.specs.Prelude.{ℕ, Bool, false, List, map, Option, Some, None, is_none, if◌then◌else◌}
use Rattle.std.specs.Option.{option_map_or}
use Rattle.blot_types.specs.declared.{allocation.Instruction.Instruction, command.Entry.Entry, keys.AllocKey.AllocKey, keys.ExecKey.ExecKey, lines.Version.Version, link.Link.Link}
use Rattle.blot_types.specs.Allocations.{Allocation, allocation_of, instructions_of}
use Rattle.blot_types.specs.Chains.{root_in}
use Rattle.blot_types.specs.Instructions.{ended_in, named_in}
use Rattle.blot_types.specs.Keys.{is_among}
use Rattle.blot_types.specs.Survivors.{links_of, stands_under, version_of}
use Rattle.blot_command.specs.declared.standing.Standing.{Standing}
use Rattle.blot_command.specs.declared.standing.Standing.TheVariants.{Stands, Live, Neither}

-- whether the chain of a key is named by a live allocation
abbrev pub is_named_in : List Link → List Instruction → ExecKey → Bool
is_named_in links instructions key = option_map_or (is_among (named_in instructions)) (root_in links key) false

-- an execution, by its number and key, stands, and its chain is named by a live allocation or isn't; or it doesn't stand
abbrev pub execution_standing : List Link → List Instruction → ℕ → ExecKey → Standing
execution_standing links instructions number key =
    if stands_under links number (root_in links key) then Stands (is_named_in links instructions key) else Neither

-- the allocation of a key is live, or was ended
abbrev pub allocation_standing : List Instruction → AllocKey → Standing
allocation_standing instructions key = if is_none (ended_in instructions key) then Live else Neither

-- that of the version or of the allocation that an entry brings; one that brings neither is neither
abbrev pub standing_by : List Link → List Instruction → Option Version → Option Allocation → Standing
standing_by links instructions (Some version) allocation = execution_standing links instructions version.number version.key
standing_by links instructions None (Some allocation) = allocation_standing instructions allocation.key
standing_by links instructions None None = Neither

abbrev pub standing_in : List Link → List Instruction → Entry → Standing
standing_in links instructions entry = standing_by links instructions (version_of entry) (allocation_of entry.command)

-- an entry, with what it comes to
pub record Told : Type 0 where
  pub entry : Entry
  pub standing : Standing

-- what an entry comes to in a list, and what each of the list's own does, in list order
abbrev pub standing_of : List Entry → Entry → Standing
standing_of list entry = standing_in (links_of list) (instructions_of list) entry

abbrev pub standings_of : List Entry → List Standing
standings_of list = map (standing_of list) list

-- an entry as a list tells it, and each of the list's own, in list order
abbrev pub told_in : List Entry → Entry → Told
told_in list entry = record { entry = entry; standing = standing_of list entry }

abbrev pub told_of : List Entry → List Told
told_of list = map (told_in list) list
