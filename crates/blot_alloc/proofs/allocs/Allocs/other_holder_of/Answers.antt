use Rattle.std.proofs.Common.{Some, None, ap, sym, ◌∙◌, cond, not, option_copied, option_map}
use Rattle.blot_types.specs.declared.allocation.Instruction.{Instruction}
use Rattle.blot_alloc.proofs.HolderLemmas.{other-holder}
use Rattle.blot_alloc.proofs.allocs.Allocs.other_holder_of.Goals as goal

pub returns-in_err-holder : goal.returns-in_err-holder
returns-in_err-holder c =
    c.from_residual.ensures
    ∙ other-holder c.args.self.now.list c.args.reference c.args.root.now None (ap option_copied (sym c.in_err-holder.was) ∙ c.holder.ensures.found) c.holder.ensures.once

pub returns-then-is_reference : goal.returns-then-is_reference
returns-then-is_reference c =
    let holder = c.in_ok-holder.holder.now in
    ap (λ b. option_map (λ (i : Instruction). i.number) (cond (not b) (Some holder) None)) c.if-is_reference.ensures
    ∙ other-holder c.args.self.now.list c.args.reference c.args.root.now (Some holder) (ap option_copied (sym c.in_ok-holder.was) ∙ c.holder.ensures.found) c.holder.ensures.once

pub returns : goal.returns
returns c =
    let holder = c.in_ok-holder.holder.now in
    ap (λ b. option_map (λ (i : Instruction). i.number) (cond (not b) (Some holder) None)) c.if-is_reference.ensures
    ∙ other-holder c.args.self.now.list c.args.reference c.args.root.now (Some holder) (ap option_copied (sym c.in_ok-holder.was) ∙ c.holder.ensures.found) c.holder.ensures.once
