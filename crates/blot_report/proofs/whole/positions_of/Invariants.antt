use Rattle.std.proofs.Common.{◌≡◌, take, filter}
use Rattle.blot_report.specs.Lines.{is_of}
use Rattle.blot_report.proofs.whole.positions_of.Given as goal

abbrev pub invariant-loop-row : goal.invariant-loop-row
invariant-loop-row l = l.kept.items ≡ filter (λ row. is_of row.position.account l.account) (take l.row-index l.rows)
