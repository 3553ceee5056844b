-- The sums of the stretches of a text.
use Rattle.std.specs.Prelude.{◌≡◌, ℕ, ◌-◌, ◌≤◌, ◌%◌, List, length, take, drop, sum}
use Rattle.blot_tag.specs.declared.sums.Summed.{Summed}

-- the sum of the bytes from one place up to another
abbrev pub sum_between : List ℕ → ℕ → ℕ → ℕ
sum_between text start end = sum (take (end - start) (drop start text))

-- the stretch lies in the text, and the sum beside it is its own, modulo 256
pub record IsSummed (text : List ℕ) (known : Summed) : Type 0 where
  pub order : known.start ≤ known.end
  pub inside : known.end ≤ length text
  pub sum_is : known.sum ≡ sum_between text known.start known.end % 256
