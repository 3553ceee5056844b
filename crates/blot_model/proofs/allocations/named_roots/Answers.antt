use Rattle.std.proofs.Common.{◌≡◌, ◌++◌, sym, ap, ◌∙◌}
use Rattle.blot_types.specs.declared.allocation.Instruction.{Instruction}
use Rattle.blot_types.specs.Instructions.{is_live_in}
use Rattle.blot_types.proofs.AllocationLawLemmas.{is_named_once}
use Rattle.blot_model.proofs.ListLemmas.{kept-passed, kept-failed}
use Rattle.blot_model.proofs.allocations.named_roots.Goals as goal
use Rattle.blot_model.proofs.allocations.named_roots.Goals.{then-is_live+in_ok-extend_from_slice, else-is_live}

pub returns-in_err-instructions-clause-once : goal.returns-in_err-instructions-clause-once
returns-in_err-instructions-clause-once c = is_named_once c.args.list.now

pub returns-in_err-extend_from_slice-clause-once : goal.returns-in_err-extend_from_slice-clause-once
returns-in_err-extend_from_slice-clause-once c = is_named_once c.args.list.now

pub returns-clause-once : goal.returns-clause-once
returns-clause-once c = is_named_once c.args.list.now

pub loop-instruction-preserved : goal.loop-instruction-preserved
loop-instruction-preserved c =
    let items = c.deref-instruction-items.result.now in
    let index = c.loop-instruction.instruction-index in
    let instruction = c.instruction-item.result in
    let live : c.is_live.result ≡ is_live_in items instruction =
    c.is_live.ensures ∙ ap (λ all. is_live_in all instruction) (c.deref.ensures.value ∙ sym c.deref-instruction-items.ensures.value) in
    elim c.if-is_live.branch [
      | then-is_live+in_ok-extend_from_slice w ↦
          kept-passed (λ (i : Instruction). i.roots) (is_live_in items) items index instruction c.loop-instruction.roots.items c.if-is_live.roots.items c.loop-instruction-test.true c.instruction-item.is
          c.loop-instruction.invariant (sym live ∙ w.if-is_live.true) (ap (λ v. v.items) w.roots-is ∙ w.in_ok-extend_from_slice.ensures.items ∙ ap (λ back. c.loop-instruction.roots.items ++ back) w.as_slice.ensures.items)
      | else-is_live w ↦
          kept-failed (λ (i : Instruction). i.roots) (is_live_in items) items index instruction c.loop-instruction.roots.items c.if-is_live.roots.items c.loop-instruction-test.true c.instruction-item.is
          c.loop-instruction.invariant (sym live ∙ w.if-is_live.false) (ap (λ v. v.items) w.roots-is)
    ]
