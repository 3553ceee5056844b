-- Where the slots of a key, and of the chain of a root, are.
use Rattle.std.specs.Prelude.{◌≡◌, ℕ, reverse, All, List, Option, Some, None, is_none, if◌then◌else◌, option_and_then, option_map}
use Rattle.blot_types.specs.declared.keys.ExecKey.{ExecKey}
use Rattle.blot_types.specs.Keys.{same_exec}
use Rattle.blot_types.specs.Refusals.{first_of}
use Rattle.blot_places.specs.declared.slots.Slot.{Slot}
use Rattle.blot_places.specs.Slots.{items, live_item, newest_live, places_above, places_below, places_by}
use Rattle.blot_chain.specs.declared.{cell.Cell.Cell, index.Index.Index, chain_link.ChainLink.ChainLink}
use Rattle.blot_chain.specs.Cells.{CellsByKey, busts_in, key_at, takers_in, versions_in}
use Rattle.blot_chain.specs.ChainLinks.{has_key, is_bust_of, is_version_of, link_number, refers}

-- the cell of a link's key is at its place
abbrev pub IsPlaced : CellsByKey ExecKey → ChainLink → Type 0
IsPlaced cells item = key_at cells item.place ≡ Some item.link.key

-- the index names the places of these slots, by key and by root, and the place in each of their links is that of its key's cell
pub record IsIndexed (index : Index) (slots : List (Slot ChainLink)) : Type 0 where
  pub takers : (key : ExecKey) → takers_in same_exec index.cells key ≡ places_by (has_key key) slots
  pub versions : (root : ExecKey) → versions_in same_exec index.cells root ≡ places_by (is_version_of root) slots
  pub busts : (root : ExecKey) → busts_in same_exec index.cells root ≡ places_by (is_bust_of root) slots
  pub placed : All (IsPlaced index.cells) (items slots)

-- ---- what is found on a stack. The slots and the places stand oldest first

-- the newest live link on a stack, and the newest below a number
abbrev pub newest_on : List (Slot ChainLink) → List ℕ → Option ChainLink
newest_on slots stack = newest_live slots (reverse stack)

abbrev pub newest_below : ℕ → List (Slot ChainLink) → List ℕ → Option ChainLink
newest_below number slots stack = newest_live slots (reverse (places_below link_number number slots stack))

-- the number of the last version of a root's chain, where no Bust ended it, as the root's cell tells
abbrev pub standing_at : List (Slot ChainLink) → Cell → Option ℕ
standing_at slots cell =
    if is_none (newest_live slots cell.busts.places) then option_map link_number (newest_live slots cell.versions.places) else None

-- the number of the link at a place, if it is live and refers to a key
abbrev pub number_if_referring : List (Slot ChainLink) → ExecKey → ℕ → Option ℕ
number_if_referring slots key place =
    option_and_then (λ item. if refers key item then Some item.link.number else None) (live_item slots place)

-- the number of the oldest live link above a number, on a stack, that refers to a key
abbrev pub referring_at : List (Slot ChainLink) → List ℕ → ℕ → ExecKey → Option ℕ
referring_at slots stack number key = first_of (number_if_referring slots key) (places_above link_number number slots stack)
