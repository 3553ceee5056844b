use Rattle.std.proofs.Common.{◌≡◌, ◌++◌, take, All, flat_map}
use Rattle.blot_types.specs.Position.{moves_of_line, part_of_line, IsSmall}
use Rattle.blot_report.proofs.parts.put_moves.Given as goal

abbrev pub invariant-loop-line : goal.invariant-loop-line
invariant-loop-line l = record {
  items : l.parts.items ≡ l.initial.parts.items ++ flat_map (moves_of_line l.terms) (take l.line-index l.line-items);
  small : All (λ line. IsSmall (part_of_line l.terms line)) (take l.line-index l.line-items);
}
