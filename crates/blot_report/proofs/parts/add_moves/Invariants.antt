use Rattle.std.proofs.Common.{◌≤◌, ◌++◌, take, All}
use Rattle.blot_types.specs.Position.{TermsFit}
use Rattle.blot_report.specs.Standings.{between, entries_in, moves_among, parts_among, terms_among}
use Rattle.blot_report.specs.Sums.{MadeOf}
use Rattle.blot_report.proofs.parts.add_moves.Given as goal

abbrev pub invariant-loop-place : goal.invariant-loop-place
invariant-loop-place l = record {
  low : l.first ≤ l.place;
  made : MadeOf (parts_among (entries_in l.told) l.day (between (entries_in l.told) l.first l.after) ++ moves_among (entries_in l.told) l.day (between (entries_in l.told) l.first l.place)) l.positions;
  fit : All TermsFit (terms_among (entries_in l.told) l.day (between (entries_in l.told) l.first l.place));
}

-- the first moves of one allocation come after those of the others
abbrev pub invariant-loop-part : goal.invariant-loop-part
invariant-loop-part l = MadeOf ((parts_among (entries_in l.told) l.day (between (entries_in l.told) l.first l.after) ++ moves_among (entries_in l.told) l.day (between (entries_in l.told) l.first l.place)) ++ take l.part-index l.part-items) l.positions
