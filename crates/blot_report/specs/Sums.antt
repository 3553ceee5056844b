-- How the parts of a day are summed, and the rows that come of them.
use Rattle.std.specs.Prelude.{◌≡◌, ℕ, ◌<◌, ◌^◌, ◌==◌, ◌||◌, List, map, filter, not, Option, unsigned_abs, if◌then◌else◌, filter_map, option_map}
use Rattle.std.specs.List.{list_any}
use Rattle.blot_types.specs.declared.{part.Part.Part, keys.PositionKey.PositionKey}
use Rattle.blot_types.specs.Position.{is_at, position_by}
use Rattle.blot_types.specs.Order.{total}
use Rattle.blot_position.specs.Positions.{Cells, has_cell, same_key, sums_at}
use Rattle.blot_position.specs.Carried.{Carries}
use Rattle.blot_position.specs.declared.{sums.Sums.Sums, TheConstants.PARTS_MAX}
use Rattle.blot_position.specs.Sums.{line_by, with_one}
use Rattle.blot_report.specs.declared.lines.PositionRow.{PositionRow}
use Rattle.blot_report.specs.Lines.{position_key, positions_among}

-- the row of a position whose sums stand in a cell; none without a part
abbrev pub cell_row : Cells → PositionKey → Option PositionRow
cell_row cells position = option_map (λ line. record { position = position; line = line }) (line_by (sums_at cells position.account position.symbol))

-- the rows of some positions, of those that have a part
abbrev pub cell_rows : Cells → List PositionKey → List PositionRow
cell_rows cells positions = filter_map (cell_row cells) positions

-- a cell was made for each position that parts are of, and for no other
abbrev pub HasCells : List Part → Cells → Type 0
HasCells parts cells = (key : PositionKey) → has_cell cells key.account key.symbol ≡ list_any (same_key key) (map position_key parts)

-- positions that were made of parts: their sums are those of the parts, and a cell was made for each position that the parts are of
pub record MadeOf (parts : List Part) (positions : Cells) : Type 0 where
  pub sums : Carries (λ amount. total amount parts) positions
  pub cells : HasCells parts positions

-- positions show parts: the line of each is that of the parts at it, and a cell was made for each position that the parts are of
pub record ShowsParts (parts : List Part) (positions : Cells) : Type 0 where
  pub lines : (account symbol : List ℕ) → line_by (sums_at positions account symbol) ≡ position_by (filter (is_at account symbol) parts)
  pub cells : HasCells parts positions

-- no sum comes to 2^126, half of what an `i128` holds: two of such positions can be added
pub record LeavesHalf (positions : Cells) : Type 0 where
  pub parts : (account symbol : List ℕ) → (sums_at positions account symbol).parts < PARTS_MAX
  pub qty : (account symbol : List ℕ) → unsigned_abs (sums_at positions account symbol).qty < 2 ^ 126
  pub value : (account symbol : List ℕ) → unsigned_abs (sums_at positions account symbol).value < 2 ^ 126

-- positions that were made of parts, and leave room for as much again
pub record IsOfParts (parts : List Part) (positions : Cells) : Type 0 where
  pub made : MadeOf parts positions
  pub half : LeavesHalf positions

-- sums with others added as one part; as they were, where those have none
abbrev pub with_sums : Sums → Sums → Sums
with_sums others own = if others.parts == 0 then own else with_one others.qty others.value own

-- positions to which others were added: the sums of each to its own, and a cell for each that has a part
pub record AddsSums (own : Cells) (others : PositionKey → Sums) (both : Cells) : Type 0 where
  pub sums : (key : PositionKey) → sums_at both key.account key.symbol ≡ with_sums (others key) (sums_at own key.account key.symbol)
  pub cells : (key : PositionKey) → has_cell both key.account key.symbol ≡ (has_cell own key.account key.symbol || not ((others key).parts == 0))

-- some positions are those of any parts that the cells were made for, sorted
abbrev pub ArePositionsOf : Cells → List PositionKey → Type 0
ArePositionsOf cells positions = (parts : List Part) → HasCells parts cells → positions ≡ positions_among parts
