use Rattle.std.proofs.Common.{◌∙◌, ap, sym, arith}
use Rattle.blot_undo.specs.Book.{Stack, newest_done}
use Rattle.blot_undo.proofs.RowLemmas.{place_within, none_done, newest_at, newest_is}
use Rattle.blot_undo.proofs.steps.Steps.newest.Goals as goal

pub unreachable-requires : goal.unreachable-requires
unreachable-requires g c =
    let newest = newest_at c.self.inside.steps.items _ c.in_ok-place.place _ _ _ c.self.invariant.0 (omega arith) c.index.ensures in
    cc (newest.3, c.in-Undone.is)

pub returns : goal.returns
returns g c =
    let newest = newest_is c.self.inside.steps.items _ c.in_ok-place.place _ _ _ c.in-Done.step c.self.invariant.0 (omega arith) c.index.ensures c.in-Done.is in
    sym (ap newest_done newest.1) ∙ ap (λ (stack : Stack _ _ _). newest_done stack.done) c.self.view_is

pub index-requires : goal.index-requires
index-requires g c =
    let within = place_within c.self.inside.steps.items c.self.inside.place _ _ c.self.invariant.0 in
    omega arith

pub returns-in_err-place : goal.returns-in_err-place
returns-in_err-place g c =
    let none = none_done c.self.inside.steps.items c.self.inside.place _ _ c.self.invariant.0 (omega (arith, c.in_err-place.ensures)) in
    c.from_residual.ensures ∙ sym (ap newest_done (sym (ap (λ (stack : Stack _ _ _). stack.done) c.self.view_is) ∙ none))
