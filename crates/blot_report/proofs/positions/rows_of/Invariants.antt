use Rattle.std.proofs.Common.{◌≡◌, ◌++◌, drop}
use Rattle.blot_report.specs.Sums.{cell_rows}
use Rattle.blot_report.proofs.positions.rows_of.Given as goal

abbrev pub invariant-loop-position : goal.invariant-loop-position
invariant-loop-position l =
    l.rows.items ++ cell_rows l.positions (drop l.position-index l.keys) ≡ cell_rows l.positions l.keys
