use Rattle.std.proofs.Common.{Ok}
use Rattle.blot_desk.specs.declared.fault.DeskFault.{DeskFault}
use Rattle.blot_operator.proofs.DialogueLemmas.{tellable-at}
use Rattle.blot_operator.proofs.operated.OwnOperated.step.Goals as goal

pub returns-clause-tellable : goal.returns-clause-tellable
returns-clause-tellable c = tellable-at {E = DeskFault} c.args.held.now.book c.args.event (Ok c.in_ok-step.field-0) c.in_ok-step.ensures.reply
