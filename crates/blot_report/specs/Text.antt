-- The text of a report. Words are divided by tabs, and each line ends with LF. Source: this project's rule.
use Rattle.std.specs.Prelude.{ℕ, ◌+◌, ℤ, List, [], ◌∷◌, ◌++◌, length, codes, decimal, flat_map}
use Rattle.blot_decimal.specs.Printed.{printed}
use Rattle.blot_time.specs.Day.{day_text}
use Rattle.blot_types.specs.declared.{command.Entry.Entry, fill.Sign.Sign, keys.OrderKey.OrderKey, lines.OrderLine.OrderLine, lines.PositionLine.PositionLine}
use Rattle.blot_types.specs.declared.fill.Sign.TheVariants.{Buy, Sell}
use Rattle.blot_report.specs.declared.{lines.DayLines.DayLines, lines.OrderRow.OrderRow, lines.PositionRow.PositionRow}
use Rattle.blot_report.specs.Lines.{day_lines_of}

-- a word and the tab after it
abbrev pub word : List ℕ → List ℕ
word bytes = bytes ++ 9 ∷ []

-- the letter of a sign
abbrev pub sign_text : Sign → List ℕ
sign_text Buy = codes "B"
sign_text Sell = codes "S"

-- the quantity filled, what is left and the value, to the line's end
abbrev pub order_amounts : OrderLine → List ℕ
order_amounts line = printed 6 line.cum ++ 9 ∷ printed 6 line.leaves ++ 9 ∷ printed 14 line.value ++ 10 ∷ []

-- the line of an order
abbrev pub order_text : OrderKey → OrderLine → List ℕ
order_text order line =
    word (codes "order") ++ word order.peer ++ word order.id ++ word line.symbol ++ word (sign_text line.sign) ++ order_amounts line

-- the quantity and the value, to the line's end
abbrev pub position_amounts : PositionLine → List ℕ
position_amounts line = printed 6 line.qty ++ 9 ∷ printed 14 line.value ++ 10 ∷ []

-- the line of a position
abbrev pub position_text : List ℕ → List ℕ → PositionLine → List ℕ
position_text account symbol line = word (codes "position") ++ word account ++ word symbol ++ position_amounts line

-- the first line of a report: its day
abbrev pub first_text : ℤ → List ℕ
first_text day = word (codes "report") ++ day_text day ++ 10 ∷ []

-- the last line: how many lines of orders and positions stand before it
abbrev pub end_text : ℕ → List ℕ
end_text count = word (codes "end") ++ decimal count ++ 10 ∷ []

-- that of the lines of a day
abbrev pub last_text : DayLines → List ℕ
last_text lines = end_text (length lines.orders + length lines.positions)

-- the lines of orders
abbrev pub order_lines_text : List OrderRow → List ℕ
order_lines_text rows = flat_map (λ row. order_text row.order row.line) rows

-- the lines of positions
abbrev pub position_lines_text : List PositionRow → List ℕ
position_lines_text rows = flat_map (λ row. position_text row.position.account row.position.symbol row.line) rows

-- the report of a day
abbrev pub report_text : DayLines → List ℕ
report_text lines =
    first_text lines.day ++ order_lines_text lines.orders ++ position_lines_text lines.positions ++ last_text lines

-- the report of a day of a list
abbrev pub report_of : List Entry → ℤ → List ℕ
report_of list day = report_text (day_lines_of list day)
