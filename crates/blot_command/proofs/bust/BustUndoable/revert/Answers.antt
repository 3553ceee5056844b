use Rattle.std.proofs.Common.{refl}
use Rattle.blot_types.specs.declared.command.Command.TheVariants.{Bust}
use Rattle.blot_command.specs.Kinds.{bust_of}
use Rattle.blot_command.proofs.StepLemmas.{is_of_kind, takes_out_kind}
use Rattle.blot_command.proofs.bust.BustUndoable.revert.Goals as goal

pub into_bust-requires : goal.into_bust-requires
into_bust-requires c = is_of_kind Bust bust_of (λ bust. refl) _ _ _ c.requires c.leave.ensures.command

pub returns-clause-kept : goal.returns-clause-kept
returns-clause-kept c = takes_out_kind Bust bust_of _ _ _ c.leave.ensures.kept
