-- The lines of the orders of a day, as the entries of a map that grows a fill at a time.
use Rattle.std.specs.Prelude.{◌≡◌, ℕ, ◌+◌, List, Option, Some, if◌then◌else◌, filter_map, option_map}
use Rattle.std.specs.Map.{lookup}
use Rattle.blot_types.specs.declared.{fill.Fill.Fill, keys.OrderKey.OrderKey, lines.OrderLine.OrderLine}
use Rattle.blot_types.specs.Keys.{same_order}
use Rattle.blot_types.specs.Order.{IsWithin, line_of, fills_of, with_fill}
use Rattle.blot_report.specs.declared.lines.OrderRow.{OrderRow}
use Rattle.blot_report.specs.Lines.{orders_among}

-- the line of an order, if it has one
abbrev pub line_at : List (OrderKey × OrderLine) → OrderKey → Option OrderLine
line_at lines order = lookup (same_order order) lines

-- the line of an order with one more fill: the fill counts for its own order alone
abbrev pub with_line : Fill → List (OrderKey × OrderLine) → OrderKey → Option OrderLine
with_line fill lines order = if same_order fill.order order then Some (with_fill (line_at lines fill.order) fill) else line_at lines order

-- the later lines are the earlier ones with one more fill
abbrev pub AddsFill : Fill → List (OrderKey × OrderLine) → List (OrderKey × OrderLine) → Type 0
AddsFill fill earlier later = (order : OrderKey) → line_at later order ≡ with_line fill earlier order

-- where the line of the fill's order is that of at most n fills, with this one it is that of at most n + 1
abbrev pub GrowsByOne : Fill → List (OrderKey × OrderLine) → Type 0
GrowsByOne fill lines = (n : ℕ) → IsWithin n (line_at lines fill.order) → IsWithin (n + 1) (with_line fill lines fill.order)

-- each order has the line of its fills
abbrev pub AreLinesOf : List (OrderKey × OrderLine) → List Fill → Type 0
AreLinesOf lines fills = (order : OrderKey) → line_at lines order ≡ line_of (fills_of fills order)

-- the row of an order that has a line
abbrev pub line_row : List (OrderKey × OrderLine) → OrderKey → Option OrderRow
line_row lines order = option_map (λ line. record { order = order; line = line }) (line_at lines order)

-- the rows of some orders, of those that have a line
abbrev pub line_rows : List (OrderKey × OrderLine) → List OrderKey → List OrderRow
line_rows lines orders = filter_map (line_row lines) orders

-- some orders are those of any fills that the lines are of, sorted
abbrev pub AreOrdersOf : List (OrderKey × OrderLine) → List OrderKey → Type 0
AreOrdersOf lines orders = (fills : List Fill) → AreLinesOf lines fills → orders ≡ orders_among fills
