-- The cells as they are stored: a map of sums by position, as the list of its entries.
use Rattle.std.specs.Prelude.{ℤ, Bool, List}
use Rattle.std.specs.FinMap as finite
use Rattle.blot_types.specs.declared.keys.PositionKey.{PositionKey}
use Rattle.blot_position.specs.declared.sums.Sums.{Sums}
use Rattle.blot_position.specs.Positions.{Cells, has_cell, sums_at, with_cell, with_part, without_part}

-- the map that the entries stand for
unfoldable pub cells_in : List (PositionKey × Sums) → Cells
cells_in entries = finite.from_entries entries

-- the sums of a position by the entries, and whether a cell was made for it
abbrev pub sums_in : List (PositionKey × Sums) → PositionKey → Sums
sums_in entries position = sums_at (cells_in entries) position.account position.symbol

abbrev pub has_cell_in : List (PositionKey × Sums) → PositionKey → Bool
has_cell_in entries position = has_cell (cells_in entries) position.account position.symbol

-- the map with a cell for a position; with one part more of it; with one part less
abbrev pub opened_in : PositionKey → List (PositionKey × Sums) → Cells
opened_in position entries = with_cell position.account position.symbol (cells_in entries)

abbrev pub added_in : PositionKey → ℤ → ℤ → List (PositionKey × Sums) → Cells
added_in position qty value entries = with_part position.account position.symbol qty value (cells_in entries)

abbrev pub taken_in : PositionKey → ℤ → ℤ → List (PositionKey × Sums) → Cells
taken_in position qty value entries = without_part position.account position.symbol qty value (cells_in entries)
