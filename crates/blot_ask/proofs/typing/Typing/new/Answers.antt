use Rattle.std.proofs.Common.{◌∙◌, ap, false}
use Rattle.blot_ask.specs.declared.typing.Place.TheVariants.{First}
use Rattle.blot_ask.specs.Typing.{comes_to}
use Rattle.blot_ask.proofs.TypingLemmas.{at_first}
use Rattle.blot_ask.proofs.typing.Typing.new.Goals as goal

pub returns : goal.returns
returns c = λ line. ap (λ text. comes_to text First false line) c.new.ensures.items ∙ at_first line
