use Rattle.std.proofs.Common.{◌≡◌, arith, to_z, of_z, w64, sym, subst}
use Rattle.std.proofs.lemmas.Int.{ints}
use Rattle.blot_time.specs.Moment.{IsMoment}
use Rattle.blot_time.proofs.MomentLemmas.{IsMoment-from, IsMoment-to}
use Rattle.blot_time.proofs.moment.Moment.from_millis.Goals as goal
use Rattle.blot_time.proofs.moment.Moment.from_millis.Goals.{then-millis-lt-FIRST-via-then-millis-lt-FIRST as early, then-millis-lt-FIRST-via-else-millis-lt-FIRST+then-millis-gt-LAST as late}

pub invariant_of-result : goal.invariant_of-result
invariant_of-result c =
    let same : to_z w64 (of_z w64 c.args.millis) ≡ c.args.millis = omega (arith, ints) in
    subst IsMoment (sym same) (IsMoment-from c.args.millis (omega (arith, ints)) (omega (arith, ints)))

pub returns-clause-within : goal.returns-clause-within
returns-clause-within c =
    ((λ _. IsMoment-from c.args.millis (omega (arith, ints)) (omega (arith, ints))), (λ _. cc))

pub returns-then-millis-lt-FIRST-clause-within : goal.returns-then-millis-lt-FIRST-clause-within
returns-then-millis-lt-FIRST-clause-within c =
    let outside : IsMoment c.args.millis → ⊥ = λ within.
    let ends = IsMoment-to c.args.millis within in
    elim c.then-millis-lt-FIRST.branch [ early w ↦ omega (arith, ints) | late w ↦ omega (arith, ints) ] in
    ((λ e. cc), (λ within. absurd (outside within)))
