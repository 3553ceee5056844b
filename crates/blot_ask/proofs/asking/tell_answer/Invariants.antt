use Rattle.blot_ask.specs.Lines.{unread}
use Rattle.blot_ask.proofs.AskingLemmas.{Telling}
use Rattle.blot_ask.proofs.asking.tell_answer.Given as goal

abbrev pub invariant-loop : goal.invariant-loop
invariant-loop g l =
    Telling l.asked l.is_first (unread l.initial.came (g.A.Read.remaining l.initial.answers)) (unread l.came (g.A.Read.remaining l.answers))
    (g.O.Write.contents l.initial.output) (g.O.Write.contents l.output)
