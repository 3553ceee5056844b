-- What one written cell changes under each key.
use Rattle.std.proofs.Common.{◌≡◌, ℕ, Bool, true, false, cond, ◌&&◌, List, [], Option, Some, None, refl, ap, ◌∙◌, inl, inr, if◌then◌else◌, unwrap_or}
use Rattle.std.specs.Cmp.{IsEquivalence}
use Rattle.std.specs.HashMap.Eq.{lookup_congr}
use Rattle.std.specs.Map.{lookup}
use Rattle.std.specs.Option.{option_map_or}
use Rattle.std.proofs.lemmas.Bool.{cases_Bool}
use Rattle.blot_places.specs.Stack.{Stack}
use Rattle.blot_chain.specs.declared.{cell.Cell.Cell, cell.Relation.Relation}
use Rattle.blot_chain.specs.Cells.{CellsByKey, HasMore, HasOneLess, HasSame, PutsUnder, SameUnder, TakesUnder, busts_in, has_bust, has_taker, has_version, one_less, one_more, takers_in, versions_in}

more-where : (wanted here : Bool) (place : ℕ) (places : List ℕ) → (if here then one_more wanted place places else places) ≡ one_more (wanted && here) place places
more-where true true place places = refl
more-where true false place places = refl
more-where false true place places = refl
more-where false false place places = refl

less-where : (wanted here : Bool) (places : List ℕ) → (if here then one_less wanted places else places) ≡ one_less (wanted && here) places
less-where true true places = refl
less-where true false places = refl
less-where false true places = refl
less-where false false places = refl

same-where : (here : Bool) (places : List ℕ) → (if here then places else places) ≡ places
same-where true places = refl
same-where false places = refl

module _ {K : Type 0} (same : K → K → Bool) where
  -- the places of a key on one of its stacks
  abbrev places_by : (Cell → Stack) → CellsByKey K → K → List ℕ
  places_by stack by_key key = option_map_or (λ cell. (stack cell).places) (lookup (same key) by_key.cells) []

  -- a cell has the places of a key
  pub record HasPlaces (by_key : CellsByKey K) (key : K) (cell : Cell) : Type 0 where
    pub takers : cell.takers.places ≡ takers_in same by_key key
    pub versions : cell.versions.places ≡ versions_in same by_key key
    pub busts : cell.busts.places ≡ busts_in same by_key key

  pub there-places : (by_key : CellsByKey K) (key : K) (cell : Cell) → Some cell ≡ lookup (same key) by_key.cells → HasPlaces by_key key cell
  there-places by_key key cell at_key = record {
    takers = ap (λ found. option_map_or (λ (c : Cell). c.takers.places) found []) at_key;
    versions = ap (λ found. option_map_or (λ (c : Cell). c.versions.places) found []) at_key;
    busts = ap (λ found. option_map_or (λ (c : Cell). c.busts.places) found []) at_key;
  }

  -- the cell that is found has, and so has a new one where none is
  pub found-places :
      (by_key : CellsByKey K) (key : K) (found : Option Cell) (fresh cell : Cell)
      → found ≡ lookup (same key) by_key.cells → cell ≡ unwrap_or found fresh
      → fresh.takers.places ≡ [] → fresh.versions.places ≡ [] → fresh.busts.places ≡ []
      → HasPlaces by_key key cell
  found-places by_key key None fresh cell at_key is takers versions busts = record {
    takers = ap (λ (c : Cell). c.takers.places) is ∙ takers ∙ ap (λ found. option_map_or (λ (c : Cell). c.takers.places) found []) at_key;
    versions = ap (λ (c : Cell). c.versions.places) is ∙ versions ∙ ap (λ found. option_map_or (λ (c : Cell). c.versions.places) found []) at_key;
    busts = ap (λ (c : Cell). c.busts.places) is ∙ busts ∙ ap (λ found. option_map_or (λ (c : Cell). c.busts.places) found []) at_key;
  }
  found-places by_key key (Some there) fresh cell at_key is takers versions busts =
      there-places by_key key cell (ap (λ c. Some c) is ∙ at_key)

  -- a cell is written under a key, and the others stay
  abbrev pub IsWritten : CellsByKey K → CellsByKey K → K → Cell → Type 0
  IsWritten old new key cell = (other : K) → lookup (same other) new.cells ≡ cond (same key other) (Some cell) (lookup (same other) old.cells)

  module _ (laws : IsEquivalence same) (old new : CellsByKey K) (key : K) (cell was : Cell) (had : HasPlaces old key was) (writes : IsWritten old new key cell) where
    written-places :
        (stack : Cell → Stack) (change : List ℕ → List ℕ) → (stack cell).places ≡ change (places_by stack old key) → (other : K)
        → places_by stack new other ≡ (if same key other then change (places_by stack old other) else places_by stack old other)
    written-places stack change changed other =
        ap (λ found. option_map_or (λ cell. (stack cell).places) found []) (writes other)
        ∙ elim (cases_Bool (same key other)) [
          | inl here ↦ rw here (changed ∙ ap (λ found. change (option_map_or (λ cell. (stack cell).places) found [])) (lookup_congr same laws.congr old.cells key other here))
          | inr apart ↦ rw apart refl
        ]

    pub puts-under : (relation : Relation) (place : ℕ) → HasMore relation place was cell → PutsUnder same relation key place old new
    puts-under relation place more = record {
      takers = λ other.
          written-places (λ cell. cell.takers) (one_more (has_taker relation) place) (more.takers ∙ ap (one_more (has_taker relation) place) had.takers) other
          ∙ more-where (has_taker relation) (same key other) place (takers_in same old other);
      versions = λ other.
          written-places (λ cell. cell.versions) (one_more (has_version relation) place) (more.versions ∙ ap (one_more (has_version relation) place) had.versions) other
          ∙ more-where (has_version relation) (same key other) place (versions_in same old other);
      busts = λ other.
          written-places (λ cell. cell.busts) (one_more (has_bust relation) place) (more.busts ∙ ap (one_more (has_bust relation) place) had.busts) other
          ∙ more-where (has_bust relation) (same key other) place (busts_in same old other);
    }

    pub takes-under : (relation : Relation) → HasOneLess relation was cell → TakesUnder same relation key old new
    takes-under relation less = record {
      takers = λ other.
          written-places (λ cell. cell.takers) (one_less (has_taker relation)) (less.takers ∙ ap (one_less (has_taker relation)) had.takers) other
          ∙ less-where (has_taker relation) (same key other) (takers_in same old other);
      versions = λ other.
          written-places (λ cell. cell.versions) (one_less (has_version relation)) (less.versions ∙ ap (one_less (has_version relation)) had.versions) other
          ∙ less-where (has_version relation) (same key other) (versions_in same old other);
      busts = λ other.
          written-places (λ cell. cell.busts) (one_less (has_bust relation)) (less.busts ∙ ap (one_less (has_bust relation)) had.busts) other
          ∙ less-where (has_bust relation) (same key other) (busts_in same old other);
    }

    pub same-under : HasSame was cell → SameUnder same old new
    same-under kept = record {
      takers = λ other. written-places (λ cell. cell.takers) (λ places. places) (kept.takers ∙ had.takers) other ∙ same-where (same key other) (takers_in same old other);
      versions = λ other. written-places (λ cell. cell.versions) (λ places. places) (kept.versions ∙ had.versions) other ∙ same-where (same key other) (versions_in same old other);
      busts = λ other. written-places (λ cell. cell.busts) (λ places. places) (kept.busts ∙ had.busts) other ∙ same-where (same key other) (busts_in same old other);
    }
