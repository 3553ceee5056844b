use Rattle.std.proofs.Common.{◌≤◌, All}
use Rattle.blot_types.specs.Position.{IsSmall}
use Rattle.blot_report.specs.Standings.{between, entries_in, parts_among}
use Rattle.blot_report.specs.Sums.{MadeOf}
use Rattle.blot_report.proofs.parts.add_fills.Given as goal

abbrev pub invariant-loop-place : goal.invariant-loop-place
invariant-loop-place l = record {
  low : l.first ≤ l.place;
  made : MadeOf (parts_among (entries_in l.told) l.day (between (entries_in l.told) l.first l.place)) l.positions;
  small : All IsSmall (parts_among (entries_in l.told) l.day (between (entries_in l.told) l.first l.place));
}
