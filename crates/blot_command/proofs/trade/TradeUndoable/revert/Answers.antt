use Rattle.std.proofs.Common.{refl}
use Rattle.blot_types.specs.declared.command.Command.TheVariants.{Trade}
use Rattle.blot_command.specs.Kinds.{trade_of}
use Rattle.blot_command.proofs.StepLemmas.{is_of_kind, takes_out_kind}
use Rattle.blot_command.proofs.trade.TradeUndoable.revert.Goals as goal

pub into_trade-requires : goal.into_trade-requires
into_trade-requires c = is_of_kind Trade trade_of (λ trade. refl) _ _ _ c.requires c.leave.ensures.command

pub returns-clause-kept : goal.returns-clause-kept
returns-clause-kept c = takes_out_kind Trade trade_of _ _ _ c.leave.ensures.kept
