use Rattle.std.proofs.Common.{subst}
use Rattle.blot_undo.proofs.BookLemmas.{round_trip}
use Rattle.blot_undo.specs.Book.{Stack, book_of}
use Rattle.blot_undo.specs.Laws.{RoundTrips}
use Rattle.blot_undo.proofs.steps.Steps.done.Goals as goal

pub returns-clause-round_trip : goal.returns-clause-round_trip
returns-clause-round_trip g c =
    subst (λ (stack : Stack _ _ _). RoundTrips g.C.Undoable.meaning (book_of g.C.Undoable.meaning stack)) c.self.view_is
    (λ count few. round_trip g.C.Undoable.meaning g.met.C.Undoable.lawful count _ _ _ c.self.inside.next c.self.invariant.1.lead few)
