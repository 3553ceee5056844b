-- What always holds of the lines of a day.
use Rattle.std.specs.Prelude.{◌≡◌, ℕ, ℤ, true, false, ◌&&◌, None, List, All, Option, Some, find, option_map}
use Rattle.blot_types.specs.declared.{command.Entry.Entry, keys.OrderKey.OrderKey, lines.OrderLine.OrderLine, lines.PositionLine.PositionLine}
use Rattle.blot_types.specs.Allocations.{live_allocations}
use Rattle.blot_types.specs.Keys.{same_order, same_text}
use Rattle.blot_types.specs.Order.{order_of}
use Rattle.blot_types.specs.Position.{position_of}
use Rattle.blot_types.specs.Survivors.{survivors}
use Rattle.blot_report.specs.declared.{lines.DayLines.DayLines, lines.OrderRow.OrderRow, lines.PositionRow.PositionRow}
use Rattle.blot_report.specs.Day.{day_order_of, day_position_of}
use Rattle.blot_report.specs.Lines.{is_of}

-- all that stands is of one day: the survivors, and the live allocations
pub record IsOfOneDay (list : List Entry) (day : ℤ) : Type 0 where
  pub fills : All (λ version. version.fill.day ≡ day) (survivors list)
  pub allocations : All (λ allocation. allocation.terms.day ≡ day) (live_allocations list)

-- the line that rows have for an order, if they have one
abbrev pub order_line_in : List OrderRow → OrderKey → Option OrderLine
order_line_in rows order = option_map (λ row. row.line) (find (λ row. same_order row.order order) rows)

-- the line that rows have for the position of an account in a symbol, if they have one
abbrev pub position_line_in : List PositionRow → List ℕ → List ℕ → Option PositionLine
position_line_in rows account symbol =
    option_map (λ row. row.line) (find (λ row. same_text row.position.account account && same_text row.position.symbol symbol) rows)

-- lines show a day: each order and each position is found among them with its line of the day, and none is that has no
-- line on it
pub record ShowsDay (list : List Entry) (day : ℤ) (lines : DayLines) : Type 0 where
  pub orders : (order : OrderKey) → order_line_in lines.orders order ≡ day_order_of list (Some day) order
  pub positions : (account symbol : List ℕ) → position_line_in lines.positions account symbol ≡ day_position_of list (Some day) account symbol

-- lines show a book: each order and each position is found among them with the line that it has in the whole list
pub record ShowsBook (list : List Entry) (lines : DayLines) : Type 0 where
  pub orders : (order : OrderKey) → order_line_in lines.orders order ≡ order_of list order
  pub positions : (account symbol : List ℕ) → position_line_in lines.positions account symbol ≡ position_of list account symbol

-- rows show the orders of a book, of all peers or of one: each such order is found among them with its line, and none is that has no line
pub record ShowsOrders (list : List Entry) (peer : Option (List ℕ)) (rows : List OrderRow) : Type 0 where
  pub orders : (order : OrderKey) → is_of order.peer peer ≡ true → order_line_in rows order ≡ order_of list order
  pub others : (order : OrderKey) → is_of order.peer peer ≡ false → order_line_in rows order ≡ None

-- and its positions, of all accounts or of one
pub record ShowsPositions (list : List Entry) (account : Option (List ℕ)) (rows : List PositionRow) : Type 0 where
  pub positions : (own symbol : List ℕ) → is_of own account ≡ true → position_line_in rows own symbol ≡ position_of list own symbol
  pub others : (own symbol : List ℕ) → is_of own account ≡ false → position_line_in rows own symbol ≡ None
