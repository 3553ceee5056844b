use Rattle.std.proofs.Common.{subst}
use Rattle.blot_undo.proofs.BookLemmas.{rewinds}
use Rattle.blot_undo.specs.Book.{Stack, book_of}
use Rattle.blot_undo.specs.Laws.{LeadTo}
use Rattle.blot_undo.proofs.steps.Steps.rewind.Goals as goal

pub returns-clause-back : goal.returns-clause-back
returns-clause-back g c =
    let m = g.C.Undoable.meaning in
    rewinds m g.met.C.Undoable.lawful c.args.count c.loop.counter (book_of m c.args.self.now) (book_of m c.loop.self)
    (subst (λ (stack : Stack _ _ _). LeadTo m stack.done (m.list_of stack.state)) c.self.view_is c.self.invariant.1.lead)
    c.requires c.loop.auto.counter-end c.loop-test.false c.loop.invariant
