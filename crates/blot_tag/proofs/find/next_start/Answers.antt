use Rattle.std.proofs.Common.{arith}
use Rattle.std.proofs.lemmas.List.{take_rest}
use Rattle.blot_tag.proofs.FindLemmas.{next_start_is, next_start_none}
use Rattle.blot_tag.proofs.find.next_start.Goals as goal

pub returns-in-Some : goal.returns-in-Some
returns-in-Some c =
    next_start_is c.args.text.now _ c.args.start c.in-Some.further (take_rest c.args.text.now c.args.start) c.requires
    c.in-Some.ensures.0 (omega (arith, c.in-Some.ensures.1))

pub returns-in-None : goal.returns-in-None
returns-in-None c = next_start_none c.args.text.now _ c.args.start (take_rest c.args.text.now c.args.start) c.requires c.in-None.ensures
