use Rattle.std.proofs.Common.{pos, subst, arith, IsSome}
use Rattle.std.proofs.lemmas.Bool.{false≢true}
use Rattle.std.proofs.lemmas.Int.{ints}
use Rattle.blot_time.proofs.MomentLemmas.{IsMoment-from}
use Rattle.blot_gateway.proofs.epoch.first_moment.Goals as goal

pub unreachable-requires : goal.unreachable-requires
unreachable-requires c =
    false≢true (subst (λ moment. IsSome moment) c.in-None.is (c.from_millis.ensures.within.1 (IsMoment-from (pos 0) (omega (arith, ints)) (omega (arith, ints)))))
