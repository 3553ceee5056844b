use Rattle.std.proofs.Common.{◌∙◌, ap, sym, arith}
use Rattle.blot_undo.specs.Book.{Stack, book_of, undo_in, newest_done, undo_of}
use Rattle.blot_undo.proofs.RowLemmas.{place_within, none_done, newest_at, newest_is}
use Rattle.blot_undo.proofs.StackLemmas.{undoes_stack, undo_keeps}
use Rattle.blot_undo.proofs.steps.Steps.undo.Goals as goal

pub unreachable-requires : goal.unreachable-requires
unreachable-requires g c =
    let newest = newest_at c.self.inside.steps.items _ c.in_ok-place.place _ _ _ c.self.invariant.0 (omega arith) c.swap_remove.ensures.value in
    cc (newest.3, c.in_default.is)

pub revert-command-requires : goal.revert-command-requires
revert-command-requires g c =
    undoes_stack g.C.Undoable.meaning c.self.inside.state c.self.inside.steps.items _ c.in_ok-place.place _ _ c.in-Done.step
    c.self.invariant (omega arith) c.swap_remove.ensures.value c.in-Done.is

pub invariant_of-self : goal.invariant_of-self
invariant_of-self g c =
    (undo_keeps g.C.Undoable.meaning g.met.C.Undoable.lawful c.self.inside.state _ c.self.inside.steps.items _ _ c.in_ok-place.place _ _ c.in-Done.step _
    c.self.invariant (omega arith) c.swap_remove.ensures.value c.in-Done.is c.revert-command.ensures.list c.revert-command.ensures.command c.revert-command.ensures.kept
    (λ within. c.put_back.ensures _ _ within c.swap_remove.ensures.items)).0

pub returns-clause-book : goal.returns-clause-book
returns-clause-book g c =
    (undo_keeps g.C.Undoable.meaning g.met.C.Undoable.lawful c.self.inside.state _ c.self.inside.steps.items _ _ c.in_ok-place.place _ _ c.in-Done.step _
    c.self.invariant (omega arith) c.swap_remove.ensures.value c.in-Done.is c.revert-command.ensures.list c.revert-command.ensures.command c.revert-command.ensures.kept
    (λ within. c.put_back.ensures _ _ within c.swap_remove.ensures.items)).1
    ∙ ap (λ (stack : Stack _ _ _). undo_of g.C.Undoable.meaning (book_of g.C.Undoable.meaning stack)) c.self.view_is

pub returns-clause-number : goal.returns-clause-number
returns-clause-number g c =
    let newest = newest_is c.self.inside.steps.items _ c.in_ok-place.place _ _ _ c.in-Done.step c.self.invariant.0 (omega arith) c.swap_remove.ensures.value c.in-Done.is in
    sym (ap newest_done newest.1) ∙ ap (λ (stack : Stack _ _ _). newest_done stack.done) c.self.view_is

pub swap_remove-requires : goal.swap_remove-requires
swap_remove-requires g c =
    let within = place_within c.self.inside.steps.items c.self.inside.place _ _ c.self.invariant.0 in
    omega arith

pub put_back-requires : goal.put_back-requires
put_back-requires g c =
    let within = place_within c.self.inside.steps.items c.self.inside.place _ _ c.self.invariant.0 in
    record { within = omega arith; room = omega arith }

pub returns-in_err-place-clause-book : goal.returns-in_err-place-clause-book
returns-in_err-place-clause-book g c =
    let none = none_done c.self.inside.steps.items c.self.inside.place _ _ c.self.invariant.0 (omega (arith, c.in_err-place.ensures)) in
    sym (ap (undo_in g.C.Undoable.meaning (book_of g.C.Undoable.meaning c.args.self.now)) (sym (ap (λ (stack : Stack _ _ _). stack.done) c.self.view_is) ∙ none))

pub returns-in_err-place-clause-number : goal.returns-in_err-place-clause-number
returns-in_err-place-clause-number g c =
    let none = none_done c.self.inside.steps.items c.self.inside.place _ _ c.self.invariant.0 (omega (arith, c.in_err-place.ensures)) in
    c.from_residual.ensures ∙ sym (ap newest_done (sym (ap (λ (stack : Stack _ _ _). stack.done) c.self.view_is) ∙ none))
