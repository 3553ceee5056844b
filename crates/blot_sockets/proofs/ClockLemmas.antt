-- Times that no moment shows.
use Rattle.std.proofs.Common.{◌≡◌, ℕ, ◌↔◌, Option, None, IsSome, FitsSigned, w64, pos, subst, arith}
use Rattle.std.proofs.lemmas.Bool.{false≢true}
use Rattle.std.proofs.lemmas.Int.{ints}
use Rattle.blot_time.specs.Moment.{IsMoment}
use Rattle.blot_time.proofs.MomentLemmas.{IsMoment-to}

-- what 64 bits with a sign don't hold is no moment
pub too-late : {A : Type 0} → (shown : Option A) → shown ≡ None → (millis held : ℕ) → held ≡ millis → (FitsSigned w64 (pos held) → ⊥)
    → IsSome shown ↔ IsMoment (pos millis)
too-late shown none millis held same unfit = (
  (λ some. absurd (false≢true (subst (λ it. IsSome it) none some))),
  (λ within. let ends = IsMoment-to (pos millis) within in absurd (unfit (omega (arith, ints)))),
)
