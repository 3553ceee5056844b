use Rattle.std.proofs.Common.{◌≡◌}
use Rattle.blot_undo.specs.Book.{book_of, rewound, redone}
use Rattle.callers.proofs.round_trip.there_and_back.Given as goal

abbrev pub invariant-loop : goal.invariant-loop
invariant-loop g l =
    let m = g.C.Undoable.meaning in
    book_of m l.steps ≡ redone m l.counter (rewound m l.count (book_of m l.fn.steps))
