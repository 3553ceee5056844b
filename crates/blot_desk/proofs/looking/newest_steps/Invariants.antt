use Rattle.std.proofs.Common.{◌≡◌, map, take}
use Rattle.blot_desk.specs.Questions.{step_row}
use Rattle.blot_desk.proofs.looking.newest_steps.Given as goal

abbrev pub invariant-loop-back : goal.invariant-loop-back
invariant-loop-back l = l.rows.items ≡ map (step_row l.steps.state.list) (take l.back l.steps.done)
