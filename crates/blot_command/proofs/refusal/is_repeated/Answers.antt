use Rattle.std.proofs.Common.{sym, ◌∙◌}
use Rattle.blot_command.proofs.RefusalLemmas.{rootless-alone}
use Rattle.blot_command.proofs.refusal.is_repeated.Goals as goal

pub returns-in-None : goal.returns-in-None
returns-in-None c = sym (rootless-alone c.args.chains.now.list c.args.key.now c.args.before.now (sym c.root_of.ensures.root ∙ c.in-None.is))
