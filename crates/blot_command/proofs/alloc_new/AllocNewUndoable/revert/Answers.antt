use Rattle.std.proofs.Common.{refl}
use Rattle.blot_types.specs.declared.command.Command.TheVariants.{AllocNew}
use Rattle.blot_command.specs.Kinds.{alloc_new_of}
use Rattle.blot_command.proofs.StepLemmas.{is_of_kind, takes_out_kind}
use Rattle.blot_command.proofs.alloc_new.AllocNewUndoable.revert.Goals as goal

pub into_alloc_new-requires : goal.into_alloc_new-requires
into_alloc_new-requires c = is_of_kind AllocNew alloc_new_of (λ command. refl) _ _ _ c.requires c.leave.ensures.command

pub returns-clause-kept : goal.returns-clause-kept
returns-clause-kept c = takes_out_kind AllocNew alloc_new_of _ _ _ c.leave.ensures.kept
