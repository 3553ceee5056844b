-- Numbers of which there may be none.
use Rattle.std.specs.Prelude.{ℕ, min, Option, Some, None}

-- the lesser of two numbers, where there are both
abbrev pub lesser : Option ℕ → Option ℕ → Option ℕ
lesser None b = b
lesser (Some a) None = Some a
lesser (Some a) (Some b) = Some (min a b)
