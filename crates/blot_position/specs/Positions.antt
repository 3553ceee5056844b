-- The positions by account and symbol: a finite map to the number and the sums of their parts.
use Rattle.std.specs.Prelude.{◌≡◌, ℕ, ℤ, Bool, ◌&&◌, List, unwrap_or}
use Rattle.std.specs.Coded.{Coded}
use Rattle.std.specs.FinMap as map
use Rattle.std.specs.List.{list_any, IsDistinct}
use Rattle.blot_types.specs.contracts.keys.PositionKey as position_rust
use Rattle.blot_types.specs.declared.keys.PositionKey.{PositionKey}
use Rattle.blot_types.specs.Keys.{same_text, position_at, position_cmp}
use Rattle.blot_position.specs.contracts.sums.Sums as sums_rust
use Rattle.blot_position.specs.declared.sums.Sums.{Sums}
use Rattle.blot_position.specs.Sums.{no_parts, with_one, without_one}

-- whether two positions are one: the same account and the same symbol
abbrev pub same_position : List ℕ → List ℕ → List ℕ → List ℕ → Bool
same_position account symbol account' symbol' = same_text account account' && same_text symbol symbol'

-- the same of their keys
abbrev pub same_key : PositionKey → PositionKey → Bool
same_key a b = same_position a.account a.symbol b.account b.symbol

-- the positions for which a cell was made, with the number and the sums of their parts
abbrev pub Cells : Type 0
Cells = map.FinMap position_cmp Sums

-- how such a map is stored as a value
abbrev pub cells_code : Coded Cells
cells_code = map.code position_rust.the_row.coded sums_rust.the_row.coded

-- the number and the sums of the parts of a position; without a cell those of none
abbrev pub sums_at : Cells → List ℕ → List ℕ → Sums
sums_at cells account symbol = unwrap_or (map.get cells (position_at account symbol)) no_parts

-- whether a cell was made for a position
abbrev pub has_cell : Cells → List ℕ → List ℕ → Bool
has_cell cells account symbol = map.contains_key cells (position_at account symbol)

-- these are the positions for which a cell was made, each once
pub record AreKeysOf (cells : Cells) (keys : List PositionKey) : Type 0 where
  pub all : (key : PositionKey) → list_any (same_key key) keys ≡ has_cell cells key.account key.symbol
  pub once : IsDistinct same_key keys

-- the cells with one for a position, whose sums stay as they were
abbrev pub with_cell : List ℕ → List ℕ → Cells → Cells
with_cell account symbol cells = map.insert cells (position_at account symbol) (sums_at cells account symbol)

-- the cells with one more part of a position
abbrev pub with_part : List ℕ → List ℕ → ℤ → ℤ → Cells → Cells
with_part account symbol qty value cells = map.insert cells (position_at account symbol) (with_one qty value (sums_at cells account symbol))

-- the cells with one part less of a position
abbrev pub without_part : List ℕ → List ℕ → ℤ → ℤ → Cells → Cells
without_part account symbol qty value cells = map.insert cells (position_at account symbol) (without_one qty value (sums_at cells account symbol))
