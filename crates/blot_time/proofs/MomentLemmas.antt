-- Moments as days and milliseconds since midnight.
use Rattle.std.proofs.Common.{◌≡◌, ℕ, ◌<◌, List, [], ◌++◌, length, take, drop, refl, ap, arith, ℤ, pos, neg_ℤ, ◌+ℤ◌, ◌*ℤ◌, ◌≤ℤ◌, ◌<ℤ◌, Ok, Err}
use Rattle.std.proofs.lemmas.List.{drop_all}
use Rattle.jiff.proofs.SpanFacts.{signed_arith}
use Rattle.blot_time.specs.declared.fault.TimeFault.TheVariants.{Format}
use Rattle.blot_time.specs.Clock.{clock_of, clock_text}
use Rattle.blot_time.specs.Day.{day_of, day_text}
use Rattle.blot_time.specs.Moment.{IsMoment, utc_day, since_midnight, moment_of, moment_text}
use Rattle.blot_time.proofs.CalendarLemmas.{first_day, last_day}
use Rattle.blot_time.proofs.ClockLemmas.{clock_of-text}

-- the day and the milliseconds since its midnight make the moment
pub moment-parts : (moment : ℤ) → utc_day moment *ℤ pos 86_400_000 +ℤ pos (since_midnight moment) ≡ moment
moment-parts moment = omega (arith, signed_arith)

pub since_midnight-lt : (moment : ℤ) → since_midnight moment < 86_400_000
since_midnight-lt moment = omega (arith, signed_arith)

-- the day begins at the moment or before it, and is not over
pub day-begun : (moment : ℤ) → (utc_day moment *ℤ pos 86_400_000) ≤ℤ moment
day-begun moment = omega (arith, signed_arith)

pub day-not_over : (moment : ℤ) → moment <ℤ ((utc_day moment +ℤ pos 1) *ℤ pos 86_400_000)
day-not_over moment = omega (arith, signed_arith)

-- the ends of the range in milliseconds
pub IsMoment-from : (moment : ℤ) → neg_ℤ (pos 62_167_219_200_000) ≤ℤ moment → moment ≤ℤ pos 253_402_300_799_999 → IsMoment moment
IsMoment-from moment low high = (omega (arith, signed_arith, first_day), omega (arith, signed_arith, last_day))

pub IsMoment-to : (moment : ℤ) → IsMoment moment → (neg_ℤ (pos 62_167_219_200_000) ≤ℤ moment) × (moment ≤ℤ pos 253_402_300_799_999)
IsMoment-to moment h = (omega (arith, signed_arith, first_day, h.0), omega (arith, signed_arith, last_day, h.1))

take-day_text : (day : ℤ) (rest : List ℕ) → take 8 (day_text day ++ rest) ≡ day_text day
unfolding day_text
take-day_text day rest = refl

drop-day_text : (day : ℤ) (rest : List ℕ) → drop 8 (day_text day ++ rest) ≡ rest
unfolding day_text
drop-day_text day rest = refl

-- the text of a moment reads as it, where that of its day does
pub moment_of-text : (moment : ℤ) → day_of (day_text (utc_day moment)) ≡ Ok (utc_day moment) → moment_of (moment_text moment) ≡ Ok moment
unfolding moment_of moment_text
moment_of-text moment day =
    let front : take 8 (day_text (utc_day moment) ++ clock_text (since_midnight moment)) ≡ day_text (utc_day moment) = take-day_text (utc_day moment) _ in
    let back : drop 8 (day_text (utc_day moment) ++ clock_text (since_midnight moment)) ≡ clock_text (since_midnight moment) = drop-day_text (utc_day moment) _ in
    rw (front, back, clock_of-text (since_midnight moment) (since_midnight-lt moment), day) (ap Ok (moment-parts moment))

-- a text of less than eight bytes has no time of day
pub clock_of-short : (text : List ℕ) → length text < 8 → clock_of (drop 8 text) ≡ Err Format
unfolding clock_of
clock_of-short text h =
    let none : drop 8 text ≡ [] = drop_all 8 text (omega arith) in
    rw none refl

pub moment_of-short : (text : List ℕ) → length text < 8 → moment_of text ≡ Err Format
unfolding moment_of
moment_of-short text h = rw (clock_of-short text h) refl
