use Rattle.std.proofs.Common.{◌≡◌, sym, ◌∙◌, ap, None, option_map}
use Rattle.blot_types.specs.declared.refused.Refused.TheVariants.{DuplicateAlloc}
use Rattle.blot_types.specs.Allocations.{instructions_of}
use Rattle.blot_types.specs.Instructions.{alloc_taker_in}
use Rattle.blot_types.specs.Legal.{entry_refusal}
use Rattle.blot_command.specs.Refusing.{reference_refusal}
use Rattle.blot_command.proofs.RefusalLemmas.{refusal-new, refusal-replace}
use Rattle.blot_command.specs.Slots.{entries_in}
use Rattle.blot_command.proofs.refusal.refusal.Goals as goal

pub returns-in_default : goal.returns-in_default
returns-in_default c =
    let fresh : option_map DuplicateAlloc (alloc_taker_in (instructions_of (entries_in c.args.slots.now)) c.in-AllocNew.new.key) ≡ None =
    ap (λ instructions. option_map DuplicateAlloc (alloc_taker_in instructions c.in-AllocNew.new.key)) (sym c.requires.instructions_are) ∙ sym c.duplicate_alloc.ensures ∙ c.in_default.is in
    c.terms_refusal.ensures ∙ sym (ap (entry_refusal (entries_in c.args.slots.now)) c.in-AllocNew.is ∙ refusal-new (entries_in c.args.slots.now) c.in-AllocNew.new fresh)

pub returns-in_default-reference_refusal : goal.returns-in_default-reference_refusal
returns-in_default-reference_refusal c =
    let replace = c.in-AllocReplace.replace in
    let fresh : option_map DuplicateAlloc (alloc_taker_in (instructions_of (entries_in c.args.slots.now)) replace.key) ≡ None =
    ap (λ instructions. option_map DuplicateAlloc (alloc_taker_in instructions replace.key)) (sym c.requires.instructions_are) ∙ sym c.duplicate_alloc-in-AllocReplace.ensures ∙ c.in_default-duplicate_alloc.is in
    let known : reference_refusal (instructions_of (entries_in c.args.slots.now)) replace.reference ≡ None =
    ap (λ instructions. reference_refusal instructions replace.reference) (sym c.requires.instructions_are) ∙ sym c.reference_refusal.ensures ∙ c.in_default-reference_refusal.is in
    c.terms_refusal-in-AllocReplace.ensures ∙ sym (ap (entry_refusal (entries_in c.args.slots.now)) c.in-AllocReplace.is ∙ refusal-replace (entries_in c.args.slots.now) replace fresh known)
