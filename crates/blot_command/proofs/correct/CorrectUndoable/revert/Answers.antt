use Rattle.std.proofs.Common.{refl}
use Rattle.blot_types.specs.declared.command.Command.TheVariants.{Correct}
use Rattle.blot_command.specs.Kinds.{correct_of}
use Rattle.blot_command.proofs.StepLemmas.{is_of_kind, takes_out_kind}
use Rattle.blot_command.proofs.correct.CorrectUndoable.revert.Goals as goal

pub into_correct-requires : goal.into_correct-requires
into_correct-requires c = is_of_kind Correct correct_of (λ correct. refl) _ _ _ c.requires c.leave.ensures.command

pub returns-clause-kept : goal.returns-clause-kept
returns-clause-kept c = takes_out_kind Correct correct_of _ _ _ c.leave.ensures.kept
