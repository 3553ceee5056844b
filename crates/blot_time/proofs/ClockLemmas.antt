-- Times of day that were written.
use Rattle.std.proofs.Common.{◌≡◌, ℕ, ◌+◌, ◌*◌, ◌/◌, ◌%◌, ◌<◌, ◌≤◌, min, true, refl, ◌∙◌, ap, arith, Ok, le-leb}
use Rattle.std.proofs.lemmas.Bool.{and_from}
use Rattle.blot_time.specs.Clock.{is_time, fraction_of, clock_of, time_text, clock_text}
use Rattle.blot_time.proofs.DigitLemmas.{digit_fits, number-two, number-three}

-- a time that was written
clock_of-time : (hour minute second millis : ℕ) → hour ≤ 23 → minute ≤ 59 → second ≤ 59 → millis < 1000 → clock_of (time_text hour minute second millis) ≡ Ok (((hour * 60 + minute) * 60 + second) * 1000 + millis)
unfolding clock_of fraction_of
clock_of-time hour minute second millis h m s f =
    let shown : is_time hour minute second ≡ true =
    and_from _ _ (and_from _ _ (le-leb hour 23 h) (le-leb minute 59 m)) (le-leb second 60 (omega arith)) in
    let kept : min second 59 ≡ second = omega arith in
    simp digit_fits
    (rw (number-two hour (omega arith), number-two minute (omega arith), number-two second (omega arith), number-three millis f, shown, kept) refl)

pub clock_of-text : (millis : ℕ) → millis < 86_400_000 → clock_of (clock_text millis) ≡ Ok millis
unfolding clock_text
clock_of-text millis h =
    clock_of-time (millis / 3_600_000) (millis / 60_000 % 60) (millis / 1000 % 60) (millis % 1000) (omega arith) (omega arith) (omega arith) (omega arith)
    ∙ ap Ok (omega arith)
