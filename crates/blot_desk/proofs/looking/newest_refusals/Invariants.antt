use Rattle.blot_desk.proofs.QuestionLemmas.{IsWalkedTo}
use Rattle.blot_desk.proofs.looking.newest_refusals.Given as goal

abbrev pub invariant-loop-place : goal.invariant-loop-place
invariant-loop-place l = IsWalkedTo l.history l.count l.rows.items l.place

abbrev pub decreases-loop-place : goal.decreases-loop-place
decreases-loop-place l = l.place
