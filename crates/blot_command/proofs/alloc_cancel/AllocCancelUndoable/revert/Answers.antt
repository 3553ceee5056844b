use Rattle.std.proofs.Common.{refl}
use Rattle.blot_types.specs.declared.command.Command.TheVariants.{AllocCancel}
use Rattle.blot_command.specs.Kinds.{alloc_cancel_of}
use Rattle.blot_command.proofs.StepLemmas.{is_of_kind, takes_out_kind}
use Rattle.blot_command.proofs.alloc_cancel.AllocCancelUndoable.revert.Goals as goal

pub into_alloc_cancel-requires : goal.into_alloc_cancel-requires
into_alloc_cancel-requires c = is_of_kind AllocCancel alloc_cancel_of (λ command. refl) _ _ _ c.requires c.leave.ensures.command

pub returns-clause-kept : goal.returns-clause-kept
returns-clause-kept c = takes_out_kind AllocCancel alloc_cancel_of _ _ _ c.leave.ensures.kept
