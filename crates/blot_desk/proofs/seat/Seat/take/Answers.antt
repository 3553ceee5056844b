use Rattle.std.proofs.Common.{arith}
use Rattle.std.proofs.lemmas.Grind.{common_steps}
use Rattle.blot_desk.proofs.MakerLemmas.{makers_kept}
use Rattle.blot_desk.proofs.seat.Seat.take.Goals as goal

pub invariant_of-counted-2 : goal.invariant_of-counted-2
invariant_of-counted-2 g c = (
  grind (arith, common_steps),
  grind (arith, common_steps),
  makers_kept c.counted.inside.held c.step.new.self c.args.event c.in-Ok-try_copy.copy c.in-Ok-step.reply _ c.counted.inside.makers.makers
      c.reserve-2.new.self.makers c.put.new.self.makers c.counted.invariant.2 c.in-Ok.ensures.makers c.in-Ok-try_copy.ensures
      c.in-Ok-step.ensures.taken c.in-Ok-step.ensures.reply c.put.ensures,
)
