use Rattle.std.proofs.Common.{◌≡◌, ◌*◌, ◌^◌, ◌≤◌, take, flat_map}
use Rattle.blot_types.specs.Position.{moves_of_line}
use Rattle.blot_model.specs.Sums.{sums_at, units_of, AreUpTo}
use Rattle.blot_model.proofs.positions.moves_of.Given as goal

abbrev pub invariant-loop-line : goal.invariant-loop-line
invariant-loop-line l = record {
  sums : l.sums ≡ sums_at l.account l.symbol (flat_map (moves_of_line l.terms) (take l.line-index l.line-items));
  few : AreUpTo (2 * units_of (take l.line-index l.line-items)) l.sums;
  units : units_of (take l.line-index l.line-items) ≤ 10 ^ 16 * l.line-index;
}
