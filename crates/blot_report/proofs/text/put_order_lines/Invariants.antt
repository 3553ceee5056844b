use Rattle.std.proofs.Common.{◌≡◌, ◌++◌, take}
use Rattle.blot_report.specs.Text.{order_lines_text}
use Rattle.blot_report.proofs.text.put_order_lines.Given as goal

abbrev pub invariant-loop-row : goal.invariant-loop-row
invariant-loop-row l = l.text.items ≡ l.initial.text.items ++ order_lines_text (take l.row-index l.rows)
