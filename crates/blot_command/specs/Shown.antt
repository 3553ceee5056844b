-- What ties the chains and the fills that the book keeps to its live list.
use Rattle.std.specs.Prelude.{◌≡◌, ℕ, ◌≤◌, ◌==◌, List, Option, Some, None, true, find, All, if◌then◌else◌, filter_map, option_map, option_and_then}
use Rattle.blot_types.specs.declared.{allocation.Terms.Terms, command.Command.Command, command.Entry.Entry, fill.Fill.Fill, keys.AllocKey.AllocKey, keys.ExecKey.ExecKey, link.Link.Link, lines.Version.Version, TheConstants.EVENTS_MAX}
use Rattle.blot_types.specs.Allocations.{allocation_of, instructions_of}
use Rattle.blot_types.specs.Chains.{replaced_by, current_of_key}
use Rattle.blot_types.specs.Instructions.{is_keyed}
use Rattle.blot_types.specs.Keys.{same_alloc}
use Rattle.blot_types.specs.Legal.{is_book}
use Rattle.blot_types.specs.StandingVersion.{chain_of, standing}
use Rattle.blot_types.specs.Survivors.{link_of, links_of, versions_of, survivors, version_numbered}
use Rattle.blot_order.specs.Fills.{Fills, put_at, kept_at, held_at, with_put as with_put_at, with_kept as with_kept_at}
use Rattle.blot_command.specs.Book.{Shown, has_number}

-- the last version of the chain of a key
abbrev pub current_version : List Entry → ExecKey → Option Version
current_version list key = option_and_then (version_numbered list) (current_of_key (links_of list) key)

-- the version whose place a link takes after a list, or which it busts
abbrev pub version_replaced_by : List Entry → Option Link → Option Version
version_replaced_by list link = option_and_then (version_numbered list) (replaced_by (links_of list) link)

-- the same of the link of an entry
abbrev pub version_replaced : List Entry → Entry → Option Version
version_replaced list entry = version_replaced_by list (link_of entry)

-- the root of the chain of the entry of a number
abbrev pub chain_numbered : List Entry → ℕ → Option ExecKey
chain_numbered list number = option_and_then (chain_of list) (find (has_number number) list)

-- the fill of the version of a number
abbrev pub fill_numbered : ℕ → List Version → Option Fill
fill_numbered number versions = option_map (λ version. version.fill) (find (λ version. version.number == number) versions)

-- the fill of the version that stands of the chain of a root
abbrev pub standing_fill : List Entry → ExecKey → Option Fill
standing_fill list root = option_map (λ version. version.fill) (standing list root)

-- the terms of a command, where it brings the allocation of a key
abbrev pub terms_of_key : AllocKey → Command → Option Terms
terms_of_key key command =
    option_and_then (λ allocation. if same_alloc key allocation.key then Some allocation.terms else None) (allocation_of command)

-- the terms of the allocation of a key
abbrev pub terms_keyed : List Entry → AllocKey → Option Terms
terms_keyed list key =
    option_map (λ allocation. allocation.terms) (find (λ allocation. same_alloc key allocation.key) (filter_map (λ entry. allocation_of entry.command) list))

-- the roots that the instruction of a key lists
abbrev pub roots_keyed : List Entry → AllocKey → Option (List ExecKey)
roots_keyed list key = option_map (λ instruction. instruction.roots) (find (is_keyed key) (instructions_of list))

-- the fill of each version of some entries is held
abbrev pub HoldsFills : List Entry → Fills → Type 0
HoldsFills entries fills = All (λ version. held_at fills version.number ≡ Some version.fill) (versions_of entries)

-- the live list is a book, the fills that are put are those of the survivors, and the fill of each version is held, so that it
-- can be put again without memory; so is that of each version that is kept
pub record Shows (shown : Shown) (fills : Fills) : Type 0 where
  pub book : is_book shown.list ≡ true
  pub put : (number : ℕ) → put_at fills number ≡ fill_numbered number (survivors shown.list)
  pub held : HoldsFills shown.list fills
  pub held_kept : HoldsFills shown.kept fills

-- the fills by number with that of a version put, or kept; without a version they are as they were
abbrev pub with_put : Option Version → Fills → Fills
with_put None fills = fills
with_put (Some version) fills = with_put_at version.number version.fill fills

abbrev pub with_kept : Option Version → Fills → Fills
with_kept None fills = fills
with_kept (Some version) fills = with_kept_at version.number version.fill fills

-- a version's fill can be put: none is put under its number, up to EVENTS_MAX
pub record CanPut (version : Version) (fills : Fills) : Type 0 where
  pub unput : put_at fills version.number ≡ None
  pub within : version.number ≤ EVENTS_MAX

-- a version's fill is put; it is kept
abbrev pub IsPut : Version → Fills → Type 0
IsPut version fills = put_at fills version.number ≡ Some version.fill

abbrev pub IsKept : Version → Fills → Type 0
IsKept version fills = kept_at fills version.number ≡ Some version.fill
