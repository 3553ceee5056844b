use Rattle.std.proofs.Common.{◌≡◌, ◌-◌, ◌∙◌, Some, ap, sym, arith, slice_get}
use Rattle.blot_undo.specs.Book.{Stack}
use Rattle.blot_undo.proofs.RowLemmas.{back_at}
use Rattle.blot_undo.proofs.steps.Steps.done_before.Goals as goal

pub unreachable-requires : goal.unreachable-requires
unreachable-requires g c =
    let found = back_at c.self.inside.steps.items _ c.args.back (c.self.inside.place - 1 - c.args.back) _ _ c.index.result.now c.self.invariant.0 c.if-back-self.false (omega (arith, c.if-back-self.false)) c.index.ensures in
    cc (found.1, c.in-Undone.is)

pub returns : goal.returns
returns g c =
    let found = back_at c.self.inside.steps.items _ c.args.back (c.self.inside.place - 1 - c.args.back) _ _ c.index.result.now c.self.invariant.0 c.if-back-self.false (omega (arith, c.if-back-self.false)) c.index.ensures in
    let same : found.0 ≡ c.in-Done.step = cc (found.1, c.in-Done.is) in
    sym (ap (λ (stack : Stack _ _ _). slice_get stack.done c.args.back) (sym c.self.view_is) ∙ found.2 ∙ ap Some same)
