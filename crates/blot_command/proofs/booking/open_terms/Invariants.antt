use Rattle.std.proofs.Common.{◌≡◌, true, take, All}
use Rattle.blot_types.specs.Position.{house, part_of_line, IsSmall}
use Rattle.blot_position.specs.Positions.{has_cell}
use Rattle.blot_command.specs.Carried.{Opens}
use Rattle.blot_command.proofs.booking.open_terms.Given as goal

abbrev pub invariant-loop-line : goal.invariant-loop-line
invariant-loop-line l = record {
  opens : Opens l.fn.positions l.positions;
  housed : has_cell l.positions house l.terms.symbol ≡ true;
  made : All (λ line. has_cell l.positions line.account l.terms.symbol ≡ true) (take l.line-index l.line-items);
  small : All (λ line. IsSmall (part_of_line l.terms line)) (take l.line-index l.line-items);
}
