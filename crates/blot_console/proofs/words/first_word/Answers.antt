use Rattle.blot_console.proofs.WordLemmas.{first-last, first-more}
use Rattle.blot_console.proofs.words.first_word.Goals as goal

pub returns-in-empty : goal.returns-in-empty
returns-in-empty c =
    first-last c.args.text.now _ c.split_at.result.1.now c.tab_at.result c.tab_at.ensures.place c.split_at.ensures.front c.split_at.ensures.back c.in-empty.len_below

pub returns-in-len1-up : goal.returns-in-len1-up
returns-in-len1-up c =
    first-more c.args.text.now _ c.split_at.result.1.now c.tab_at.result c.tab_at.ensures.place c.split_at.ensures.front c.split_at.ensures.back c.in-len1-up.len_at_least
