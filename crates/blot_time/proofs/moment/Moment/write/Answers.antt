use Rattle.std.proofs.Common.{◌≡◌, sym, ◌∙◌, ap, subst, refl, ℤ, Ok}
use Rattle.blot_time.specs.Clock.{clock_text}
use Rattle.blot_time.specs.Day.{day_of, day_text}
use Rattle.blot_time.specs.Moment.{moment_of, moment_text}
use Rattle.blot_time.proofs.MomentLemmas.{moment_of-text}
use Rattle.blot_time.proofs.moment.Moment.write.Goals as goal

pub returns-clause-text : goal.returns-clause-text
unfolding moment_text day_text clock_text
returns-clause-text c =
    rw (c.copy_from_slice.ensures.after, c.copy_from_slice-2.ensures.after, c.write.ensures.text, c.write_clock.ensures, c.day.ensures.value, c.since_midnight.ensures.value) refl

pub returns-clause-read_again : goal.returns-clause-read_again
returns-clause-read_again c =
    let day = subst (λ (d : ℤ). day_of (day_text d) ≡ Ok d) c.day.ensures.value (sym (ap day_of c.write.ensures.text) ∙ c.write.ensures.read_again) in
    ap moment_of (returns-clause-text c) ∙ moment_of-text c.args.self day
