-- The version that stands of a chain: found by its root, or by an entry of it.
use Rattle.std.specs.Prelude.{List, Option, Some, option_and_then}
use Rattle.blot_types.specs.declared.{command.Entry.Entry, keys.ExecKey.ExecKey, lines.Version.Version, link.Link.Link, link.Role.Role}
use Rattle.blot_types.specs.declared.link.Role.TheVariants.{Begins, Corrects, Busts}
use Rattle.blot_types.specs.Chains.{root_in, standing_version_in}
use Rattle.blot_types.specs.Survivors.{link_of, links_of, version_numbered}

-- the last version of a chain that isn't busted
abbrev pub standing : List Entry → ExecKey → Option Version
standing list root = option_and_then (version_numbered list) (standing_version_in (links_of list) root)

-- the root of the chain that a link of this key and role begins, corrects or busts, where `root` tells the roots of references
abbrev pub chain_root : (ExecKey → Option ExecKey) → ExecKey → Role → Option ExecKey
chain_root root key Begins = Some key
chain_root root key (Corrects reference) = root reference
chain_root root key (Busts reference) = root reference

-- the same among links newest first; of an entry's link, if it is one
abbrev pub chain_under : List Link → ExecKey → Role → Option ExecKey
chain_under links key role = chain_root (root_in links) key role

abbrev pub chain_by : List Link → Option Link → Option ExecKey
chain_by links found = option_and_then (λ link. chain_under links link.key link.role) found

abbrev pub chain_of : List Entry → Entry → Option ExecKey
chain_of list entry = chain_by (links_of list) (link_of entry)

-- the version that stands of the chain of an entry
abbrev pub stood : List Entry → Entry → Option Version
stood list entry = option_and_then (standing list) (chain_of list entry)
