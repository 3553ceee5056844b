use Rattle.std.proofs.Common.{◌≡◌, ◌*◌, ◌^◌, take}
use Rattle.blot_model.specs.Sums.{sums_at, moves_by, AreUpTo}
use Rattle.blot_model.proofs.positions.moves_at.Given as goal

abbrev pub invariant-loop-entry : goal.invariant-loop-entry
invariant-loop-entry l = record {
  sums : l.sums ≡ sums_at l.account l.symbol (moves_by l.instructions (take l.entry-index l.list));
  few : AreUpTo (2 * 10 ^ 16 * l.entry-index) l.sums;
}
