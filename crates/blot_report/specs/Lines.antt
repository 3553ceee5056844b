-- The lines of a day: each order and each position that is shown, once, in the order of its key.
use Rattle.std.specs.Prelude.{ℕ, ℤ, Bool, true, List, [], map, filter, fold, Option, Some, None, filter_map, option_map}
use Rattle.std.specs.BTreeSet.{insert_key}
use Rattle.std.specs.Cmp.Lexicographic.{slice_cmp}
use Rattle.std.specs.Ordering.{nat_cmp, ordering_then}
use Rattle.std.specs.declared.cmp.Ordering.{Ordering}
use Rattle.blot_types.specs.declared.{command.Entry.Entry, fill.Fill.Fill, keys.OrderKey.OrderKey, part.Part.Part, keys.PositionKey.PositionKey}
use Rattle.blot_types.specs.Keys.{position_at, position_cmp, same_text}
use Rattle.blot_types.specs.Order.{line_of, fills_of}
use Rattle.blot_types.specs.Position.{is_at, position_by}
use Rattle.blot_report.specs.declared.{lines.DayLines.DayLines, lines.OrderRow.OrderRow, lines.PositionRow.PositionRow}
use Rattle.blot_report.specs.Day.{fills_on, day_parts_of}

-- orders by peer, and then by OrderID, each by its bytes
abbrev pub order_cmp : OrderKey → OrderKey → Ordering
order_cmp a b = ordering_then (slice_cmp nat_cmp a.peer b.peer) (slice_cmp nat_cmp a.id b.id)

-- orders in that order, each once
abbrev pub sorted_orders : List OrderKey → List OrderKey
sorted_orders orders = fold (insert_key order_cmp) [] orders

-- the orders that fills fill, sorted
abbrev pub orders_among : List Fill → List OrderKey
orders_among fills = sorted_orders (map (λ fill. fill.order) fills)

-- the row of an order that fills fill; none without a fill of it
abbrev pub order_row : List Fill → OrderKey → Option OrderRow
order_row fills order = option_map (λ line. record { order = order; line = line }) (line_of (fills_of fills order))

-- the rows of the orders that fills fill
abbrev pub order_rows : List Fill → List OrderRow
order_rows fills = filter_map (order_row fills) (orders_among fills)

-- positions in that order, each once
abbrev pub sorted_positions : List PositionKey → List PositionKey
sorted_positions positions = fold (insert_key position_cmp) [] positions

-- the position that a part is of
abbrev pub position_key : Part → PositionKey
position_key part = position_at part.account part.symbol

-- the positions that parts are of, sorted
abbrev pub positions_among : List Part → List PositionKey
positions_among parts = sorted_positions (map position_key parts)

-- the row of a position that parts are of; none without a part of it
abbrev pub position_row : List Part → PositionKey → Option PositionRow
position_row parts position =
    option_map (λ line. record { position = position; line = line }) (position_by (filter (is_at position.account position.symbol) parts))

-- the rows of the positions that parts are of
abbrev pub position_rows : List Part → List PositionRow
position_rows parts = filter_map (position_row parts) (positions_among parts)

-- the lines of a day
abbrev pub day_lines_of : List Entry → ℤ → DayLines
day_lines_of list day = record { day = day; orders = order_rows (fills_on list (Some day)); positions = position_rows (day_parts_of list (Some day)) }

-- whether a key's first text is the one that is asked for, where one is
abbrev pub is_of : List ℕ → Option (List ℕ) → Bool
is_of own None = true
is_of own (Some wanted) = same_text own wanted

-- the lines of the orders of a list over all days, of all peers or of one
abbrev pub order_lines_of : List Entry → Option (List ℕ) → List OrderRow
order_lines_of list peer = filter (λ row. is_of row.order.peer peer) (order_rows (fills_on list None))

-- the lines of its positions, of all accounts or of one
abbrev pub position_lines_of : List Entry → Option (List ℕ) → List PositionRow
position_lines_of list account = filter (λ row. is_of row.position.account account) (position_rows (day_parts_of list None))
