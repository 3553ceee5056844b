use Rattle.blot_console.proofs.WordLemmas.{passed}
use Rattle.blot_console.proofs.words.Words.behind.Goals as goal

pub loop-preserved : goal.loop-preserved
loop-preserved c = passed c.args.self.now c.loop.words c.next.new.self c.next.result c.loop.counter c.next.ensures.steps c.loop.invariant
