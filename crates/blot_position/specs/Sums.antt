-- What the parts of a position come to.
use Rattle.std.specs.Prelude.{◌+◌, ◌-◌, ◌<◌, ◌==◌, ℤ, pos, ◌+ℤ◌, ◌-ℤ◌, Option, Some, None, if◌then◌else◌}
use Rattle.blot_decimal.specs.Sums.{FitsSum}
use Rattle.blot_types.specs.declared.lines.PositionLine.{PositionLine}
use Rattle.blot_position.specs.declared.{sums.Sums.Sums, TheConstants.PARTS_MAX}

-- the sums of no parts
abbrev pub no_parts : Sums
no_parts = record { parts = 0; qty = pos 0; value = pos 0 }

-- the sums with one more part
abbrev pub with_one : ℤ → ℤ → Sums → Sums
with_one qty value sums = record { parts = sums.parts + 1; qty = sums.qty +ℤ qty; value = sums.value +ℤ value }

-- the sums with one part less
abbrev pub without_one : ℤ → ℤ → Sums → Sums
without_one qty value sums = record { parts = sums.parts - 1; qty = sums.qty -ℤ qty; value = sums.value -ℤ value }

-- the line of a position with these sums; none without a part
abbrev pub line_by : Sums → Option PositionLine
line_by sums = if sums.parts == 0 then None else Some (record { qty = sums.qty; value = sums.value })

-- there is room for one more part: there are fewer than PARTS_MAX, and no sum leaves an `i128`
pub record HasRoom (sums : Sums) (qty value : ℤ) : Type 0 where
  pub fewer : sums.parts < PARTS_MAX
  pub fits_qty : FitsSum (sums.qty +ℤ qty)
  pub fits_value : FitsSum (sums.value +ℤ value)

-- there is a part to take away, and no sum leaves an `i128`
pub record HasPart (sums : Sums) (qty value : ℤ) : Type 0 where
  pub some : 0 < sums.parts
  pub fits_qty : FitsSum (sums.qty -ℤ qty)
  pub fits_value : FitsSum (sums.value -ℤ value)
