-- Under each key a stack of places.
use Rattle.std.specs.Prelude.{◌≡◌, ℕ, ◌<◌, Bool, false, List, [], ◌∷◌, drop, if◌then◌else◌, IsSomeAnd}
use Rattle.std.specs.Map.{lookup}
use Rattle.std.specs.Option.{option_map_or}
use Rattle.blot_places.specs.Stack.{Stack}

-- what a contract sees of the places: the stack of each key that was there once
pub record Stacks (K : Type 0) : Type 0 where
  pub cells : List (K × Stack)

module _ {K : Type 0} (same : K → K → Bool) (stacks : Stacks K) (key : K) where
  -- the places under a key, newest first
  abbrev pub places_in : List ℕ
  places_in = option_map_or (λ stack. stack.places) (lookup (same key) stacks.cells) []

  -- there is room for one more place under a key
  abbrev pub HasRoom : Type 0
  HasRoom = IsSomeAnd (lookup (same key) stacks.cells) (λ stack. 0 < stack.room)

-- what a call does to the stacks of all keys
module _ {K : Type 0} (same : K → K → Bool) where
  -- each key has the places that it had
  abbrev pub SamePlaces : Stacks K → Stacks K → Type 0
  SamePlaces old new = (other : K) → places_in same new other ≡ places_in same old other

  -- a place stands on the stack of each key that passes a test; the other stacks are as they were
  abbrev pub PutsPlace : (K → Bool) → ℕ → Stacks K → Stacks K → Type 0
  PutsPlace test place old new =
      (other : K) → places_in same new other ≡ (if test other then place ∷ places_in same old other else places_in same old other)

  -- the newest place is off the stack of each key that passes a test
  abbrev pub TakesPlace : (K → Bool) → Stacks K → Stacks K → Type 0
  TakesPlace test old new =
      (other : K) → places_in same new other ≡ (if test other then drop 1 (places_in same old other) else places_in same old other)

  -- each key that had room for one more place has it; so has each but this one
  abbrev pub KeepsRoom : Stacks K → Stacks K → Type 0
  KeepsRoom old new = (other : K) → HasRoom same old other → HasRoom same new other

  abbrev pub KeepsOtherRoom : K → Stacks K → Stacks K → Type 0
  KeepsOtherRoom key old new = (other : K) → same key other ≡ false → HasRoom same old other → HasRoom same new other
