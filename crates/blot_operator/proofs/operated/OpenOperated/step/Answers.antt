use Rattle.blot_operator.proofs.DialogueLemmas.{tellable-reply}
use Rattle.blot_operator.proofs.operated.OpenOperated.step.Goals as goal

pub returns-clause-tellable : goal.returns-clause-tellable
returns-clause-tellable g c = tellable-reply c.args.event c.submit.result c.submit.ensures.reply
