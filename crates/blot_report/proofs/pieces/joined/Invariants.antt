use Rattle.std.proofs.Common.{◌≡◌, ◌++◌, flat_map}
use Rattle.blot_report.proofs.pieces.joined.Given as goal

abbrev pub invariant-loop-piece : goal.invariant-loop-piece
invariant-loop-piece g l =
    l.items.items ++ flat_map (λ piece. piece.items) l.piece-iterator.rest.items ≡ flat_map (λ piece. piece.items) l.fn.pieces.items
