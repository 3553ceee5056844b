use Rattle.blot_ask.proofs.AskingLemmas.{at_last, one_more}
use Rattle.blot_ask.proofs.asking.tell_answer.Goals as goal

pub returns-then-branch-clause-told : goal.returns-then-branch-clause-told
returns-then-branch-clause-told g c =
    at_last c.args.asked.now c.loop.is_first c.in_ok-tell_line.field-0 _ _ _ _ _ _ c.if-branch.true c.loop.invariant c.in_ok-tell_line.ensures.told

pub loop-preserved : goal.loop-preserved
loop-preserved g c =
    one_more c.args.asked.now c.loop.is_first c.in_ok-tell_line.field-0 _ _ _ _ _ _ c.if-branch.false c.loop.invariant c.in_ok-tell_line.ensures.told
