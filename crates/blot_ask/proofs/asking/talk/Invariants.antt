use Rattle.blot_ask.specs.Lines.{unread}
use Rattle.blot_ask.proofs.AskingLemmas.{TalksSoFar}
use Rattle.blot_ask.proofs.asking.talk.Given as goal

abbrev pub invariant-loop : goal.invariant-loop
invariant-loop g l =
    TalksSoFar l.prompts (g.I.Read.remaining l.initial.input) (unread l.ahead (g.I.Read.remaining l.input))
    (g.Q.Write.contents l.initial.requests) (g.Q.Write.contents l.requests)
    (unread l.initial.came (g.A.Read.remaining l.initial.answers)) (unread l.came (g.A.Read.remaining l.answers))
    (g.O.Write.contents l.initial.output) (g.O.Write.contents l.output)
