use Rattle.std.proofs.Common.{◌≡◌, take}
use Rattle.blot_report.specs.Text.{position_lines_text}
use Rattle.blot_console.proofs.answer.positions_text.Given as goal

abbrev pub invariant-loop-row : goal.invariant-loop-row
invariant-loop-row l = l.text.items ≡ position_lines_text (take l.row-index l.rows)
