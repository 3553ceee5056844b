-- The places under a key, by what the links there are to it: those that take it up, the versions of its chain, and its Busts.
use Rattle.std.specs.Prelude.{◌≡◌, ℕ, Bool, true, false, ◌&&◌, ◌<◌, List, [], ◌∷◌, drop, slice_get, Option, Some, if◌then◌else◌, IsSomeAnd}
use Rattle.std.specs.Map.{keys_of, lookup}
use Rattle.std.specs.Option.{option_map_or}
use Rattle.blot_types.specs.declared.link.Role.{Role}
use Rattle.blot_types.specs.declared.link.Role.TheVariants.{Begins, Corrects, Busts}
use Rattle.blot_chain.specs.declared.{cell.Cell.Cell, cell.Relation.Relation}
use Rattle.blot_chain.specs.declared.cell.Relation.TheVariants.{First, Taker, Version, Bust}

-- on which stacks the place of a link stands that has this relation to the key
abbrev pub has_taker : Relation → Bool
has_taker First = true
has_taker Taker = true
has_taker Version = false
has_taker Bust = false

abbrev pub has_version : Relation → Bool
has_version First = true
has_version Taker = false
has_version Version = true
has_version Bust = false

abbrev pub has_bust : Relation → Bool
has_bust First = false
has_bust Taker = false
has_bust Version = false
has_bust Bust = true

-- what a link of this role is to the key of its root, if that isn't its own
abbrev pub relation_in_chain : Role → Relation
relation_in_chain Begins = Version
relation_in_chain (Corrects reference) = Version
relation_in_chain (Busts reference) = Bust

-- one place more, where it is wanted, and one less
abbrev pub one_more : Bool → ℕ → List ℕ → List ℕ
one_more wanted place places = if wanted then place ∷ places else places

abbrev pub one_less : Bool → List ℕ → List ℕ
one_less wanted places = if wanted then drop 1 places else places

-- a cell has the places that it had; it has one more on the stacks of a relation; it has one less
pub record HasSame (old new : Cell) : Type 0 where
  pub takers : new.takers.places ≡ old.takers.places
  pub versions : new.versions.places ≡ old.versions.places
  pub busts : new.busts.places ≡ old.busts.places

pub record HasMore (relation : Relation) (place : ℕ) (old new : Cell) : Type 0 where
  pub takers : new.takers.places ≡ one_more (has_taker relation) place old.takers.places
  pub versions : new.versions.places ≡ one_more (has_version relation) place old.versions.places
  pub busts : new.busts.places ≡ one_more (has_bust relation) place old.busts.places

pub record HasOneLess (relation : Relation) (old new : Cell) : Type 0 where
  pub takers : new.takers.places ≡ one_less (has_taker relation) old.takers.places
  pub versions : new.versions.places ≡ one_less (has_version relation) old.versions.places
  pub busts : new.busts.places ≡ one_less (has_bust relation) old.busts.places

-- ---- all keys

-- what a contract sees of the cells: that of each key that was there once
pub record CellsByKey (K : Type 0) : Type 0 where
  pub cells : List (K × Cell)

module _ {K : Type 0} (same : K → K → Bool) (by_key : CellsByKey K) (key : K) where
  -- the places under a key, newest first: of the links that take it up, of the versions of its chain, of its Busts
  abbrev pub takers_in : List ℕ
  takers_in = option_map_or (λ cell. cell.takers.places) (lookup (same key) by_key.cells) []

  abbrev pub versions_in : List ℕ
  versions_in = option_map_or (λ cell. cell.versions.places) (lookup (same key) by_key.cells) []

  abbrev pub busts_in : List ℕ
  busts_in = option_map_or (λ cell. cell.busts.places) (lookup (same key) by_key.cells) []

module _ {K : Type 0} where
  -- the key whose cell is at a place
  abbrev pub key_at : CellsByKey K → ℕ → Option K
  key_at by_key place = slice_get (keys_of by_key.cells) place

  -- a cell that was at a place is still there
  abbrev pub KeepsPlaces : CellsByKey K → CellsByKey K → Type 0
  KeepsPlaces old new = (place : ℕ) (key : K) → key_at old place ≡ Some key → key_at new place ≡ Some key

  -- the cell at a place has room for the place of one more link that takes up its key
  abbrev pub HasTakerRoom : CellsByKey K → ℕ → Type 0
  HasTakerRoom by_key place = IsSomeAnd (slice_get by_key.cells place) (λ entry. 0 < entry.1.takers.room)

  -- each cell that had such room has it
  abbrev pub KeepsTakerRoom : CellsByKey K → CellsByKey K → Type 0
  KeepsTakerRoom old new = (place : ℕ) → HasTakerRoom old place → HasTakerRoom new place

-- what a call does to the cells of all keys
module _ {K : Type 0} (same : K → K → Bool) where
  -- each key has the places that it had
  pub record SameUnder (old new : CellsByKey K) : Type 0 where
    pub takers : (other : K) → takers_in same new other ≡ takers_in same old other
    pub versions : (other : K) → versions_in same new other ≡ versions_in same old other
    pub busts : (other : K) → busts_in same new other ≡ busts_in same old other

  -- one more stands under a key, on the stacks of a relation
  pub record PutsUnder (relation : Relation) (key : K) (place : ℕ) (old new : CellsByKey K) : Type 0 where
    pub takers : (other : K) → takers_in same new other ≡ one_more (has_taker relation && same key other) place (takers_in same old other)
    pub versions : (other : K) → versions_in same new other ≡ one_more (has_version relation && same key other) place (versions_in same old other)
    pub busts : (other : K) → busts_in same new other ≡ one_more (has_bust relation && same key other) place (busts_in same old other)

  -- the same under the key whose cell is at a place
  abbrev pub PutsAt : Relation → ℕ → ℕ → CellsByKey K → CellsByKey K → Type 0
  PutsAt relation at place old new = (key : K) → key_at old at ≡ Some key → PutsUnder relation key place old new

  -- one less does
  pub record TakesUnder (relation : Relation) (key : K) (old new : CellsByKey K) : Type 0 where
    pub takers : (other : K) → takers_in same new other ≡ one_less (has_taker relation && same key other) (takers_in same old other)
    pub versions : (other : K) → versions_in same new other ≡ one_less (has_version relation && same key other) (versions_in same old other)
    pub busts : (other : K) → busts_in same new other ≡ one_less (has_bust relation && same key other) (busts_in same old other)
