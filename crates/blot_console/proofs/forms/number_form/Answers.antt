use Rattle.std.proofs.Common.{rules}
use Rattle.blot_console.proofs.FormLemmas.{number_form-small}
use Rattle.blot_console.proofs.forms.number_form.Goals as goal

pub returns : goal.returns
returns c = number_form-small c.args.word.now c.number_of.result (search rules) (search rules) c.number_of.ensures
