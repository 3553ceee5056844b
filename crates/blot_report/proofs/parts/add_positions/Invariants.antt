use Rattle.std.proofs.Common.{drop}
use Rattle.std.specs.List.{IsDistinct}
use Rattle.blot_position.specs.Positions.{same_key}
use Rattle.blot_report.specs.Sums.{AddsSums}
use Rattle.blot_report.proofs.HalfLemmas.{added}
use Rattle.blot_report.proofs.parts.add_positions.Given as goal

abbrev pub invariant-loop-key : goal.invariant-loop-key
invariant-loop-key l = record {
  adds : AddsSums l.initial.positions (added l.others (drop l.key-index l.key-items)) l.positions;
  apart : IsDistinct same_key (drop l.key-index l.key-items);
}
