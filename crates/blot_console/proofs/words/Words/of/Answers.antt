use Rattle.std.proofs.Common.{take_all}
use Rattle.blot_console.specs.Words.{words_of}
use Rattle.blot_console.proofs.WordLemmas.{words_of-few}
use Rattle.blot_console.proofs.words.Words.of.Goals as goal

pub returns : goal.returns
returns c = take_all _ (words_of c.args.line.now) (words_of-few c.args.line.now)
