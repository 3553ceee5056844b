use Rattle.std.proofs.Common.{◌≡◌, ◌≤◌, ◌∙◌, None, ap, subst, arith}
use Rattle.blot_types.specs.declared.TheConstants.{EVENTS_MAX}
use Rattle.blot_undo.specs.Book.{Stack, book_of, book_with, list_in}
use Rattle.blot_undo.proofs.StackLemmas.{above_next, undoes_taken, apply_keeps, apply_book, apply_leaves, returned}
use Rattle.blot_undo.proofs.steps.Steps.apply.Goals as goal

pub apply-requires-clause-above : goal.apply-requires-clause-above
apply-requires-clause-above g c = above_next g.C.Undoable.meaning c.self.inside.state _ _ c.self.inside.next c.self.invariant.1

pub revert-requires : goal.revert-requires
revert-requires g c =
    undoes_taken g.C.Undoable.meaning c.self.inside.state c.apply.new.state _ _ _ _ c.in-Ok.inverse c.self.invariant.1 c.in-Ok.ensures.accepted c.in-Ok.ensures.kept

pub returns-in_default-clause-fault : goal.returns-in_default-clause-fault
returns-in_default-clause-fault g c =
    let m = g.C.Undoable.meaning in
    subst (λ (stack : Stack _ _ _). (c.revert.result ≡ c.args.command) × (m.refused (list_in m stack) c.args.command ≡ None)) c.self.view_is
    (returned m g.met.C.Undoable.lawful _ _ c.args.command c.revert.result _ c.in-Ok.inverse c.in-Ok.ensures.accepted c.revert.ensures.command)

pub invariant_of-self-in_default : goal.invariant_of-self-in_default
invariant_of-self-in_default g c =
    (apply_leaves g.C.Undoable.meaning g.met.C.Undoable.lawful c.self.inside.state _ _ c.self.inside.steps.items _ _ _ _ c.in-Ok.inverse
    c.self.invariant c.in-Ok.ensures.accepted c.in-Ok.ensures.kept c.revert.ensures.list c.revert.ensures.kept c.reserve.ensures.items).0

pub returns-in_default-clause-err : goal.returns-in_default-clause-err
returns-in_default-clause-err g c =
    (apply_leaves g.C.Undoable.meaning g.met.C.Undoable.lawful c.self.inside.state _ _ c.self.inside.steps.items _ _ _ _ c.in-Ok.inverse
    c.self.invariant c.in-Ok.ensures.accepted c.in-Ok.ensures.kept c.revert.ensures.list c.revert.ensures.kept c.reserve.ensures.items).1
    ∙ ap (λ (stack : Stack _ _ _). book_of g.C.Undoable.meaning stack) c.self.view_is

pub invariant_of-self-2 : goal.invariant_of-self-2
invariant_of-self-2 g c =
    let within : c.self.inside.next ≤ EVENTS_MAX = rw (ap (λ (stack : Stack _ _ _). stack.next) c.self.view_is) c.requires in
    apply_keeps g.C.Undoable.meaning g.met.C.Undoable.lawful c.self.inside.state _ c.self.inside.steps.items c.push_reserved.new.self.items c.self.inside.place _ _ _ c.in-Ok.inverse
    c.self.invariant within c.in-Ok.ensures.accepted c.in-Ok.ensures.kept
    (rw (← c.reserve.ensures.items, ← c.truncate.ensures.items) c.push_reserved.ensures.items) (omega arith)

pub returns-clause-taken : goal.returns-clause-taken
returns-clause-taken g c =
    (apply_book g.C.Undoable.meaning g.met.C.Undoable.lawful c.self.inside.state c.apply.new.state c.self.inside.steps.items c.push_reserved.new.self.items c.self.inside.place _ _ c.in-Ok.inverse
    c.self.invariant c.in-Ok.ensures.accepted (rw (← c.reserve.ensures.items, ← c.truncate.ensures.items) c.push_reserved.ensures.items)).0
    ∙ ap (λ (stack : Stack _ _ _). book_with g.C.Undoable.meaning stack c.args.command) c.self.view_is

pub returns-clause-before : goal.returns-clause-before
returns-clause-before g c =
    (apply_book g.C.Undoable.meaning g.met.C.Undoable.lawful c.self.inside.state c.apply.new.state c.self.inside.steps.items c.push_reserved.new.self.items c.self.inside.place _ _ c.in-Ok.inverse
    c.self.invariant c.in-Ok.ensures.accepted (rw (← c.reserve.ensures.items, ← c.truncate.ensures.items) c.push_reserved.ensures.items)).1
    ∙ ap (λ (stack : Stack _ _ _). list_in g.C.Undoable.meaning stack) c.self.view_is
