use Rattle.std.proofs.Common.{Ok}
use Rattle.blot_desk.specs.declared.fault.DeskFault.{DeskFault}
use Rattle.blot_operator.proofs.DialogueLemmas.{tellable-reply}
use Rattle.blot_operator.proofs.operated.SharedOperated.step.Goals as goal

pub returns-clause-tellable : goal.returns-clause-tellable
returns-clause-tellable g c = tellable-reply {E = DeskFault} c.args.event (Ok c.in_ok-submit.field-0) c.in_ok-submit.ensures.reply
