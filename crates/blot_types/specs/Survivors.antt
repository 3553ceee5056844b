-- The executions of a list of entries that stand. A list of entries is in rising order of number; its links
-- are newest first, as `Chains` reads them.
use Rattle.std.specs.Prelude.{ℕ, ◌==◌, Bool, false, List, filter, reverse, Option, Some, None, find, filter_map, option_and_then}
use Rattle.std.specs.Option.{option_map_or}
use Rattle.blot_types.specs.declared.{command.Command.Command, command.Entry.Entry, keys.ExecKey.ExecKey, lines.Version.Version, link.Link.Link}
use Rattle.blot_types.specs.declared.command.Command.TheVariants.{Trade, Correct, Bust}
use Rattle.blot_types.specs.declared.link.Role.TheVariants.{Begins, Corrects, Busts}
use Rattle.blot_types.specs.Chains.{root_in, busted_roots_in, standing_version_in}

-- an entry as the chains see it: that of an execution is a link, and no other
abbrev pub link_by : ℕ → Command → Option Link
link_by number (Trade trade) = Some (record { number = number; key = trade.key; role = Begins })
link_by number (Correct correct) = Some (record { number = number; key = correct.key; role = Corrects correct.reference })
link_by number (Bust bust) = Some (record { number = number; key = bust.key; role = Busts bust.reference })
link_by number _ = None

abbrev pub link_of : Entry → Option Link
link_of entry = link_by entry.number entry.command

-- the links of entries, newest first
abbrev pub links_in : List Entry → List Link
links_in entries = filter_map link_of entries

abbrev pub links_of : List Entry → List Link
links_of list = links_in (reverse list)

-- the root of a key
abbrev pub root_of : List Entry → ExecKey → Option ExecKey
root_of list key = root_in (links_of list) key

-- the roots of the chains that are busted
abbrev pub busted_roots : List Entry → List ExecKey
busted_roots list = busted_roots_in (links_of list)

-- the version of an execution that an entry brings: a Trade and a Correct bring one
abbrev pub version_by : ℕ → Command → Option Version
version_by number (Trade trade) = Some (record { number = number; key = trade.key; fill = trade.fill })
version_by number (Correct correct) = Some (record { number = number; key = correct.key; fill = correct.fill })
version_by number _ = None

abbrev pub version_of : Entry → Option Version
version_of entry = version_by entry.number entry.command

-- the versions of all executions, in list order
abbrev pub versions_of : List Entry → List Version
versions_of list = filter_map version_of list

-- the version of a number
abbrev pub version_numbered : List Entry → ℕ → Option Version
version_numbered list number = find (λ version. version.number == number) (versions_of list)

-- whether there is a number, and it is this one
abbrev pub is_number : ℕ → Option ℕ → Bool
is_number number found = option_map_or (λ other. other == number) found false

-- whether the version of a number stands, where this is its root: it is its chain's last version, and no Bust ended the chain
abbrev pub stands_under : List Link → ℕ → Option ExecKey → Bool
stands_under links number found = is_number number (option_and_then (standing_version_in links) found)

abbrev pub stands_in : List Link → Version → Bool
stands_in links version = stands_under links version.number (root_in links version.key)

-- the executions that stand: of each chain that isn't busted its last version, in list order
abbrev pub survivors : List Entry → List Version
survivors list = filter (stands_in (links_of list)) (versions_of list)
