use Rattle.std.proofs.Common.{◌≡◌, ◌++◌, drop}
use Rattle.blot_report.specs.Orders.{line_rows}
use Rattle.blot_report.proofs.orders.rows_of.Given as goal

abbrev pub invariant-loop-order : goal.invariant-loop-order
invariant-loop-order l =
    l.rows.items ++ line_rows l.lines.entries (drop l.order-index l.keys) ≡ line_rows l.lines.entries l.keys
