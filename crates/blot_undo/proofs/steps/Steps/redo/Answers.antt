use Rattle.std.proofs.Common.{◌∙◌, ap, sym, arith}
use Rattle.blot_undo.specs.Book.{Stack, book_of, redo_in, newest_undone, redo_of}
use Rattle.blot_undo.proofs.RowLemmas.{next_within, next_is, next_at, none_undone}
use Rattle.blot_undo.proofs.StackLemmas.{above_redone, redo_keeps, redo_leaves}
use Rattle.blot_undo.proofs.steps.Steps.redo.Goals as goal

pub apply-requires-clause-above : goal.apply-requires-clause-above
apply-requires-clause-above g c =
    (above_redone g.C.Undoable.meaning c.self.inside.state c.self.inside.steps.items c.self.inside.place _ _ c.in-Undone.step
    c.self.invariant (λ end. c.if-place-len.false (omega arith)) c.swap_remove.ensures.value c.in-Undone.is).0

pub apply-requires-clause-within : goal.apply-requires-clause-within
apply-requires-clause-within g c =
    (above_redone g.C.Undoable.meaning c.self.inside.state c.self.inside.steps.items c.self.inside.place _ _ c.in-Undone.step
    c.self.invariant (λ end. c.if-place-len.false (omega arith)) c.swap_remove.ensures.value c.in-Undone.is).1

pub invariant_of-self : goal.invariant_of-self
invariant_of-self g c =
    (redo_keeps g.C.Undoable.meaning g.met.C.Undoable.lawful c.self.inside.state _ c.self.inside.steps.items _ c.self.inside.place _ _ c.in-Undone.step _
    c.self.invariant (λ end. c.if-place-len.false (omega arith)) c.swap_remove.ensures.value c.in-Undone.is c.in-Ok.ensures.accepted c.in-Ok.ensures.kept
    (λ within. c.put_back.ensures _ _ within c.swap_remove.ensures.items)).0

pub returns-in-Ok-clause-book : goal.returns-in-Ok-clause-book
returns-in-Ok-clause-book g c =
    (redo_keeps g.C.Undoable.meaning g.met.C.Undoable.lawful c.self.inside.state _ c.self.inside.steps.items _ c.self.inside.place _ _ c.in-Undone.step _
    c.self.invariant (λ end. c.if-place-len.false (omega arith)) c.swap_remove.ensures.value c.in-Undone.is c.in-Ok.ensures.accepted c.in-Ok.ensures.kept
    (λ within. c.put_back.ensures _ _ within c.swap_remove.ensures.items)).1
    ∙ ap (λ (stack : Stack _ _ _). redo_of g.C.Undoable.meaning (book_of g.C.Undoable.meaning stack)) c.self.view_is

pub returns-in-Ok-clause-number : goal.returns-in-Ok-clause-number
returns-in-Ok-clause-number g c =
    let within = next_within c.self.inside.steps.items c.self.inside.place _ _ c.self.invariant.0 (λ end. c.if-place-len.false (omega arith)) in
    let next = next_is c.self.inside.steps.items c.self.inside.place _ _ _ c.in-Undone.step c.self.invariant.0 within c.swap_remove.ensures.value c.in-Undone.is in
    sym (ap newest_undone next.1) ∙ ap (λ (stack : Stack _ _ _). newest_undone stack.undone) c.self.view_is

pub invariant_of-self-in-Err : goal.invariant_of-self-in-Err
invariant_of-self-in-Err g c =
    (redo_leaves g.C.Undoable.meaning c.self.inside.state _ c.self.inside.steps.items _ c.self.inside.place _ _ c.in-Undone.step _
    c.self.invariant (λ end. c.if-place-len.false (omega arith)) c.swap_remove.ensures.value c.in-Undone.is c.in-Err.ensures.refused.command_is c.in-Err.ensures.refused.state_is
    (λ within. c.put_back-in-Err.ensures _ _ within c.swap_remove.ensures.items)).0

pub returns-clause-err : goal.returns-clause-err
returns-clause-err g c =
    (redo_leaves g.C.Undoable.meaning c.self.inside.state _ c.self.inside.steps.items _ c.self.inside.place _ _ c.in-Undone.step _
    c.self.invariant (λ end. c.if-place-len.false (omega arith)) c.swap_remove.ensures.value c.in-Undone.is c.in-Err.ensures.refused.command_is c.in-Err.ensures.refused.state_is
    (λ within. c.put_back-in-Err.ensures _ _ within c.swap_remove.ensures.items)).1
    ∙ ap (λ (stack : Stack _ _ _). book_of g.C.Undoable.meaning stack) c.self.view_is

pub unreachable-requires : goal.unreachable-requires
unreachable-requires g c =
    let within = next_within c.self.inside.steps.items c.self.inside.place _ _ c.self.invariant.0 (λ end. c.if-place-len.false (omega arith)) in
    let next = next_at c.self.inside.steps.items c.self.inside.place _ _ _ c.self.invariant.0 within c.swap_remove.ensures.value in
    cc (next.3, c.in_default.is)

pub swap_remove-requires : goal.swap_remove-requires
swap_remove-requires g c =
    let within = next_within c.self.inside.steps.items c.self.inside.place _ _ c.self.invariant.0 (λ end. c.if-place-len.false (omega arith)) in
    omega arith

pub put_back-requires : goal.put_back-requires
put_back-requires g c =
    let within = next_within c.self.inside.steps.items c.self.inside.place _ _ c.self.invariant.0 (λ end. c.if-place-len.false (omega arith)) in
    record { within = omega arith; room = omega arith }

pub put_back-requires-in-Err : goal.put_back-requires-in-Err
put_back-requires-in-Err g c =
    let within = next_within c.self.inside.steps.items c.self.inside.place _ _ c.self.invariant.0 (λ end. c.if-place-len.false (omega arith)) in
    record { within = omega arith; room = omega arith }

pub returns-then-place-len-clause-book : goal.returns-then-place-len-clause-book
returns-then-place-len-clause-book g c =
    let none = none_undone c.self.inside.steps.items c.self.inside.place _ _ c.self.invariant.0 (omega arith) in
    sym (ap (redo_in g.C.Undoable.meaning (book_of g.C.Undoable.meaning c.args.self.now)) (sym (ap (λ (stack : Stack _ _ _). stack.undone) c.self.view_is) ∙ none))

pub returns-then-place-len-clause-number : goal.returns-then-place-len-clause-number
returns-then-place-len-clause-number g c =
    let none = none_undone c.self.inside.steps.items c.self.inside.place _ _ c.self.invariant.0 (omega arith) in
    sym (ap newest_undone (sym (ap (λ (stack : Stack _ _ _). stack.undone) c.self.view_is) ∙ none))

pub overflow_add-self : goal.overflow_add-self
overflow_add-self g c =
    let within = next_within c.self.inside.steps.items c.self.inside.place _ _ c.self.invariant.0 (λ end. c.if-place-len.false (omega arith)) in
    omega arith
