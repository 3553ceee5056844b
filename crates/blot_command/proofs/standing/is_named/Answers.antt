use Rattle.std.proofs.Common.{ap, ◌∙◌, is_some}
use Rattle.blot_command.proofs.LiveLemmas.{named-holder}
use Rattle.blot_command.proofs.standing.is_named.Goals as goal

pub returns : goal.returns
returns c = c.is_some.ensures ∙ ap is_some c.holder_of.ensures.holder ∙ named-holder c.args.allocs.now.list c.args.root.now
