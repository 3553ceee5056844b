-- The rules as the code asks them: over the chains and the allocations that the live list keeps.
use Rattle.std.specs.Prelude.{◌≡◌, false, ℤ, List, [], reverse, Option, pos, find, is_none, if◌then◌else◌, Some, None, filter_map, option_map}
use Rattle.std.specs.Option.{option_map_or, option_or}
use Rattle.blot_types.specs.declared.{allocation.Instruction.Instruction, allocation.Terms.Terms, command.Entry.Entry, keys.AllocKey.AllocKey, keys.ExecKey.ExecKey, link.Link.Link, refused.Refused.Refused}
use Rattle.blot_types.specs.declared.refused.Refused.TheVariants.{UnknownAlloc, DeadAlloc, UnknownExec, BustedExec, RepeatedExec, ExecTaken, Instrument}
use Rattle.blot_types.specs.Allocations.{instructions_of}
use Rattle.blot_types.specs.Chains.{root_in}
use Rattle.blot_types.specs.Instructions.{is_allocation_in, ended_in}
use Rattle.blot_types.specs.Order.{cum_of}
use Rattle.blot_types.specs.Refusals.{first_of, bust_of_key, repeated_in, other_holder, current_fill, differs, booked, mismatch}
use Rattle.blot_types.specs.Survivors.{links_of}
use Rattle.blot_command.specs.declared.slots.EntrySlot.{EntrySlot}
use Rattle.blot_command.specs.Slots.{AreNumbered, entries_in}

-- the chains are those of the entries in slots whose numbers rise
pub record HoldsChainsOf (slots : List EntrySlot) (links : List Link) : Type 0 where
  pub links_are : links ≡ links_of (entries_in slots)
  pub numbered : AreNumbered slots

-- and the allocations are those of their instructions
pub record HoldsBoth (slots : List EntrySlot) (links : List Link) (instructions : List Instruction) : Type 0 where
  pub chains : HoldsChainsOf slots links
  pub instructions_are : instructions ≡ instructions_of (entries_in slots)

-- why a reference to an allocation is refused
abbrev pub reference_refusal : List Instruction → AllocKey → Option Refused
reference_refusal instructions reference =
    option_or (if is_allocation_in instructions reference then None else Some UnknownAlloc) (option_map DeadAlloc (ended_in instructions reference))

-- the first of some executions whose last version is of another instrument or side than the terms
abbrev pub other_instrument : List Entry → Terms → List ExecKey → Option ExecKey
other_instrument entries terms execs = find (λ key. option_map_or (differs terms) (current_fill (reverse entries) key) false) execs

-- the quantity of the last versions of some executions
abbrev pub wanted : List Entry → List ExecKey → ℤ
wanted entries execs = cum_of (filter_map (current_fill (reverse entries)) execs)

-- why terms are refused
abbrev pub terms_refusal : List Entry → Option AllocKey → Terms → Option Refused
terms_refusal entries reference terms =
    option_or (option_map UnknownExec (find (λ key. is_none (root_in (links_of entries) key)) terms.execs))
    (option_or (option_map BustedExec (first_of (bust_of_key (links_of entries)) terms.execs))
    (option_or (option_map RepeatedExec (repeated_in (links_of entries) [] terms.execs))
    (option_or (option_map ExecTaken (first_of (other_holder (links_of entries) (instructions_of entries) reference) terms.execs))
    (option_or (option_map Instrument (other_instrument entries terms terms.execs))
    (mismatch (wanted entries terms.execs) (pos terms.block) (booked terms.lines))))))
