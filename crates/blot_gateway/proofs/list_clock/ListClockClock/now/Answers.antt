use Rattle.std.proofs.Common.{pos, arith}
use Rattle.std.proofs.lemmas.Int.{ints}
use Rattle.blot_time.proofs.MomentLemmas.{IsMoment-from}
use Rattle.blot_gateway.proofs.list_clock.ListClockClock.now.Goals as goal

pub unwrap-requires : goal.unwrap-requires
unwrap-requires c = c.from_millis.ensures.within.1 (IsMoment-from (pos 0) (omega (arith, ints)) (omega (arith, ints)))
