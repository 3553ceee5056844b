-- What the cells of the positions carry: the number and the sums of some parts.
use Rattle.std.specs.Prelude.{◌≡◌, ℕ, ℤ, pos, List, if◌then◌else◌}
use Rattle.blot_types.specs.declared.part.Part.{Part}
use Rattle.blot_types.specs.Position.{is_at}
use Rattle.blot_position.specs.Positions.{Cells, sums_at}

-- an amount of a part, where it is of the position of an account in a symbol
abbrev pub amount_at : (Part → ℤ) → List ℕ → List ℕ → Part → ℤ
amount_at amount account symbol part = if is_at account symbol part then amount part else pos 0

-- the cells hold, by account and symbol, the number and the sums of some parts; `whole` sums any amount of them
pub record Carries (whole : (Part → ℤ) → ℤ) (cells : Cells) : Type 0 where
  pub parts : (account symbol : List ℕ) → pos (sums_at cells account symbol).parts ≡ whole (amount_at (λ part. pos 1) account symbol)
  pub qty : (account symbol : List ℕ) → (sums_at cells account symbol).qty ≡ whole (amount_at (λ part. part.qty) account symbol)
  pub value : (account symbol : List ℕ) → (sums_at cells account symbol).value ≡ whole (amount_at (λ part. part.value) account symbol)
