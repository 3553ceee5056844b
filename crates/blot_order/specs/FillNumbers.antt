-- The numbers of the fills of an order: those that are put, and the list that has them.
use Rattle.std.specs.Prelude.{◌≡◌, ◌≢◌, ℕ, ◌+◌, ◌≤◌, ◌<◌, Bool, true, List, [], ◌∷◌, length, All, slice_index_or, nat_eq, nat_lt, if◌then◌else◌}
use Rattle.blot_order.specs.declared.fill_numbers.ListedNumber.{ListedNumber}

-- the numbers of the fills of an order that are put, rising, and how many of its fills are kept
pub record PutAndKept : Type 0 where
  pub put : List ℕ
  pub kept : ℕ

-- rising numbers with one more, after those below it
abbrev pub with_number : ℕ → List ℕ → List ℕ
with_number number [] = number ∷ []
with_number number (first ∷ others) = if nat_lt first number then first ∷ with_number number others else number ∷ first ∷ others

-- numbers without the first that is this one
abbrev pub without_number : ℕ → List ℕ → List ℕ
without_number number [] = []
without_number number (first ∷ others) = if nat_eq first number then others else first ∷ without_number number others

-- the numbers that are listed as put
abbrev pub numbers_put : List ListedNumber → List ℕ
numbers_put [] = []
numbers_put (first ∷ listed) = if first.is_put then first.number ∷ numbers_put listed else numbers_put listed

-- listed numbers rise, from a number on
abbrev pub RiseFrom : ℕ → List ListedNumber → Type 0
RiseFrom number [] = Unit {0}
RiseFrom number (first ∷ listed) = (number ≤ first.number) × RiseFrom (first.number + 1) listed

-- whether the last is put; without any, what stands before them
abbrev pub ends_put : Bool → List ListedNumber → Bool
ends_put before [] = before
ends_put before (first ∷ listed) = ends_put first.is_put listed

-- a list in good order: the numbers rise, and the last is put, if there is one
pub record AreListed (listed : List ListedNumber) : Type 0 where
  pub rise : RiseFrom 0 listed
  pub last : ends_put true listed ≡ true

-- a number stands at a place of the list
pub record StandsAt (number : ℕ) (listed : List ListedNumber) (place : ℕ) : Type 0 where
  pub within : place < length listed
  pub at : (d : ListedNumber) → (slice_index_or listed place d).number ≡ number

-- a number isn't listed, and belongs at a place: those before it are lower, and those from it on higher
pub record BelongsAt (number : ℕ) (listed : List ListedNumber) (place : ℕ) : Type 0 where
  pub within : place ≤ length listed
  pub below : (k : ℕ) (d : ListedNumber) → k < place → (slice_index_or listed k d).number < number
  pub above : (k : ℕ) (d : ListedNumber) → place ≤ k → k < length listed → number < (slice_index_or listed k d).number

-- a number isn't listed
abbrev pub IsUnlisted : ℕ → List ListedNumber → Type 0
IsUnlisted number = All (λ it. it.number ≢ number)
