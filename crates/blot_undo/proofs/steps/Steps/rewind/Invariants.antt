use Rattle.std.proofs.Common.{◌≡◌}
use Rattle.blot_undo.specs.Book.{book_of, book_rewound}
use Rattle.blot_undo.proofs.steps.Steps.rewind.Given as goal

abbrev pub invariant-loop : goal.invariant-loop
invariant-loop g l = book_of g.C.Undoable.meaning l.self ≡ book_rewound g.C.Undoable.meaning l.counter l.fn.self
