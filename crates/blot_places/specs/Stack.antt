-- What a contract sees of a stack of places.
use Rattle.std.specs.Prelude.{ℕ, List}

-- the places, newest first, and for how many more there is room
pub record Stack : Type 0 where
  pub places : List ℕ
  pub room : ℕ
