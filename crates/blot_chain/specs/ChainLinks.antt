-- The links with the roots of their chains, newest first: after one stand the earlier ones. Each stands in a slot, live or lifted.
use Rattle.std.specs.Prelude.{◌≡◌, ℕ, Bool, true, false, ◌&&◌, List, [], ◌∷◌, map, find, Option, Some, None, if◌then◌else◌, option_and_then, ⊤}
use Rattle.blot_types.specs.declared.{keys.ExecKey.ExecKey, link.Link.Link, link.Role.Role}
use Rattle.blot_types.specs.declared.link.Role.TheVariants.{Begins, Corrects, Busts}
use Rattle.blot_types.specs.Chains.{refers_to, brings_version}
use Rattle.blot_types.specs.Keys.{same_exec}
use Rattle.blot_types.specs.StandingVersion.{chain_root}
use Rattle.blot_places.specs.declared.slots.Slot.{Slot}
use Rattle.blot_places.specs.Slots.{items, live}
use Rattle.blot_chain.specs.declared.chain_link.ChainLink.{ChainLink}

-- whether a link of this role is a Bust
abbrev pub is_bust : Role → Bool
is_bust Begins = false
is_bust (Corrects reference) = false
is_bust (Busts reference) = true

-- whether a stored link takes up this key
abbrev pub has_key : ExecKey → ChainLink → Bool
has_key key item = same_exec item.link.key key

-- whether it brings a version to the chain of this root
abbrev pub is_version_of : ExecKey → ChainLink → Bool
is_version_of root item = brings_version item.link.role && same_exec item.root root

-- whether it busts the chain of this root
abbrev pub is_bust_of : ExecKey → ChainLink → Bool
is_bust_of root item = is_bust item.link.role && same_exec item.root root

-- whether it refers to a key
abbrev pub refers : ExecKey → ChainLink → Bool
refers key item = refers_to key item.link.role

-- the root of its own key: the key of a Bust has none
abbrev pub kept_root : ChainLink → Option ExecKey
kept_root item = if brings_version item.link.role then Some item.root else None

-- the number of its link
abbrev pub link_number : ChainLink → ℕ
link_number item = item.link.number

-- the links alone
abbrev pub links_in : List ChainLink → List Link
links_in rooted = map (λ item. item.link) rooted

-- the root of a key, as the newest slot of that key tells it, live or lifted
abbrev pub slot_root : List (Slot ChainLink) → ExecKey → Option ExecKey
slot_root slots key = option_and_then kept_root (find (has_key key) (items slots))

abbrev pub slot_chain : List (Slot ChainLink) → ExecKey → Role → Option ExecKey
slot_chain earlier key role = chain_root (slot_root earlier) key role

-- each slot has the root that the earlier slots tell, live or lifted
abbrev pub HaveRoots : List (Slot ChainLink) → Type 0
HaveRoots [] = ⊤
HaveRoots (slot ∷ earlier) = (slot_chain earlier slot.item.link.key slot.item.link.role ≡ Some slot.item.root) × HaveRoots earlier

-- of the slots of a key none but the newest is live
abbrev pub NewestLive : List (Slot ChainLink) → Type 0
NewestLive [] = ⊤
NewestLive (slot ∷ earlier) = (find (has_key slot.item.link.key) (live earlier) ≡ None) × NewestLive earlier
