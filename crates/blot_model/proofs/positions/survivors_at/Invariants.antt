use Rattle.std.proofs.Common.{◌≡◌, ◌*◌, ◌^◌, map, take}
use Rattle.blot_types.specs.Position.{part_of}
use Rattle.blot_model.specs.Sums.{sums_at, AreUpTo}
use Rattle.blot_model.proofs.positions.survivors_at.Given as goal

abbrev pub invariant-loop-version : goal.invariant-loop-version
invariant-loop-version l = record {
  sums : l.sums ≡ sums_at l.account l.symbol (map (part_of l.list) (take l.version-index l.version-items));
  few : AreUpTo (10 ^ 16 * l.version-index) l.sums;
}
