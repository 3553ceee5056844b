-- What the cell of a key tells: the root of the key, and which version of a root's chain stands.
use Rattle.std.proofs.Common.{◌≡◌, ℕ, Bool, true, false, ◌&&◌, List, [], reverse, Option, Some, None, refl, sym, ap, ◌∙◌, is_none, nat_eq, if◌then◌else◌, option_map, option_and_then}
use Rattle.std.specs.Bool.{then_some}
use Rattle.std.specs.Map.{lookup}
use Rattle.std.specs.Option.{option_eq, option_map_or}
use Rattle.std.proofs.lemmas.Option.{same_Some}
use Rattle.blot_types.specs.declared.{keys.ExecKey.ExecKey, link.Link.Link}
use Rattle.blot_types.specs.Chains.{bust_in, current_in, root_in, standing_version_in}
use Rattle.blot_types.specs.Keys.{same_exec}
use Rattle.blot_types.specs.Survivors.{is_number, stands_under}
use Rattle.blot_places.specs.declared.slots.Slot.{Slot}
use Rattle.blot_places.specs.Shown.{Shown}
use Rattle.blot_places.specs.Slots.{newest_live}
use Rattle.blot_chain.specs.declared.{cell.Cell.Cell, index.Index.Index, chain_link.ChainLink.ChainLink}
use Rattle.blot_chain.specs.Holds.{HoldsChains, shown_of}
use Rattle.blot_chain.specs.Index.{standing_at}
use Rattle.blot_chain.specs.ChainLinks.{kept_root, link_number}
use Rattle.blot_chain.specs.RootedLink.{begun}
use Rattle.blot_chain.specs.Standing.{standing_root_in}
use Rattle.blot_chain.proofs.HoldsLemmas.{bust-held, current-held, root-held, taker-key}

-- ---- by the cell, if the key has one

abbrev number_found : Option ChainLink → Option ℕ
number_found found = option_map link_number found

none-numbered : (found : Option ChainLink) → is_none found ≡ is_none (number_found found)
none-numbered None = refl
none-numbered (Some item) = refl

version-by_cell :
    (slots : List (Slot ChainLink)) (found : Option Cell)
    → option_and_then (standing_at slots) found
    ≡ (if is_none (number_found (newest_live slots (option_map_or (λ cell. cell.busts.places) found [])))
    then number_found (newest_live slots (option_map_or (λ cell. cell.versions.places) found [])) else None)
version-by_cell slots None = refl
version-by_cell slots (Some cell) =
    ap (λ none. if none then number_found (newest_live slots cell.versions.places) else None) (none-numbered (newest_live slots cell.busts.places))

abbrev pub root_by_cell : List (Slot ChainLink) → Option Cell → Option ExecKey
root_by_cell slots found = option_and_then (λ cell. option_and_then kept_root (newest_live slots cell.takers.places)) found

root-by_cell :
    (slots : List (Slot ChainLink)) (found : Option Cell)
    → root_by_cell slots found ≡ option_and_then kept_root (newest_live slots (option_map_or (λ cell. cell.takers.places) found []))
root-by_cell slots None = refl
root-by_cell slots (Some cell) = refl

-- a root that is the link's own key
begun-root : (item : ChainLink) (root : ExecKey) → item ≡ begun item.link.number item.link.key item.place → kept_root item ≡ Some root → item.link.key ≡ root
begun-root item root is kept = same_Some item.link.key root (sym (ap kept_root is) ∙ kept)

module _ (index : Index) (slots : List (Slot ChainLink)) (shown : Shown Link) (holds : HoldsChains index (reverse slots)) (is : shown_of (reverse slots) ≡ shown) where
  -- the cell of a root tells which version stands, and that of a key tells the root
  pub version-told :
      (root : ExecKey) (found : Option Cell) → found ≡ lookup (same_exec root) index.cells.cells
      → option_and_then (standing_at slots) found ≡ standing_version_in shown.list root
  version-told root found there =
      ap (option_and_then (standing_at slots)) there ∙ version-by_cell slots (lookup (same_exec root) index.cells.cells)
      ∙ (λ i. if is_none (bust-held index slots root holds i) then current-held index slots root holds i else None)
      ∙ ap (λ shown. standing_version_in shown.list root) is

  pub root-told :
      (key : ExecKey) (found : Option Cell) → found ≡ lookup (same_exec key) index.cells.cells → root_by_cell slots found ≡ root_in shown.list key
  root-told key found there =
      ap (root_by_cell slots) there ∙ root-by_cell slots (lookup (same_exec key) index.cells.cells) ∙ root-held index slots key holds
      ∙ ap (λ shown. root_in shown.list key) is

  -- the newest link in the cell of a key has that key
  pub key-told :
      (key : ExecKey) (cell : Cell) (item : ChainLink) → Some cell ≡ lookup (same_exec key) index.cells.cells → newest_live slots cell.takers.places ≡ Some item
      → key ≡ item.link.key
  key-told key cell item there newest =
      let places = ap (λ found. option_map_or (λ (cell : Cell). cell.takers.places) found []) there in
      taker-key index slots key holds item (ap (newest_live slots) (sym places) ∙ newest)

  -- where it begins its chain, the key is the root
  pub version-beside :
      (key : ExecKey) (cell : Cell) (item : ChainLink) (root : ExecKey) → Some cell ≡ lookup (same_exec key) index.cells.cells
      → newest_live slots cell.takers.places ≡ Some item → item ≡ begun item.link.number item.link.key item.place → kept_root item ≡ Some root
      → standing_at slots cell ≡ standing_version_in shown.list root
  version-beside key cell item root there newest begins kept =
      let one : key ≡ root = key-told key cell item there newest ∙ begun-root item root begins kept in
      version-told key (Some cell) there ∙ ap (standing_version_in shown.list) one

-- ---- a version of a number and key

pub rootless-stands : (links : List Link) (number : ℕ) (key : ExecKey) → root_in links key ≡ None → standing_root_in links number key ≡ None
rootless-stands links number key none = rw none refl

is_numbered : (number : ℕ) (found : Option ℕ) → is_number number found ≡ option_eq nat_eq found (Some number)
is_numbered number None = refl
is_numbered number (Some found) = refl

told-some : (stands : Bool) (root : ExecKey) → then_some stands root ≡ (if stands then Some root else None)
told-some true root = refl
told-some false root = refl

-- under a root it stands where it is the one that stands there
pub rooted-stands :
    (links : List Link) (number : ℕ) (key root : ExecKey) (standing : Option ℕ) → root_in links key ≡ Some root → standing ≡ standing_version_in links root
    → then_some (option_eq nat_eq standing (Some number)) root ≡ standing_root_in links number key
rooted-stands links number key root standing is told =
    let stands : option_eq nat_eq standing (Some number) ≡ stands_under links number (Some root) =
    ap (λ found. option_eq nat_eq found (Some number)) told ∙ sym (is_numbered number (standing_version_in links root)) in
    ap (λ stands. then_some stands root) stands ∙ told-some (stands_under links number (Some root)) root
    ∙ ap (λ found. if stands_under links number found then found else None) (sym is)
