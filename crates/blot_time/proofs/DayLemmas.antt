-- The day of a date, and the text of a day.
use Rattle.std.proofs.Common.{◌≡◌, ℕ, ◌<◌, ◌≤◌, ◌↔◌, true, refl, ◌∙◌, ap, subst, inl, inr, arith, ℤ, pos, Ok, Err, le-leb, leb-true}
use Rattle.std.proofs.lemmas.Bool.{cases_Bool, and_from, and_parts}
use Rattle.jiff.specs.Types.{Date}
use Rattle.jiff.specs.Words.{epoch_day, days_in_month, IsDate, IsYmd}
use Rattle.jiff.proofs.SpanFacts.{signed_arith}
use Rattle.blot_time.specs.declared.fault.TimeFault.TheVariants.{NoSuchDate}
use Rattle.blot_time.specs.Calendar.{is_date}
use Rattle.blot_time.specs.Day.{civil_day, day_of, date_text}
use Rattle.blot_time.proofs.DigitLemmas.{digit_fits, number-two, number-four}
use Rattle.blot_time.proofs.CalendarLemmas.{day_number-date}

-- jiff's word for a date, as a test
pub is_date-true : (year month day : ℕ) → 1 ≤ month → month ≤ 12 → 1 ≤ day → day ≤ days_in_month (pos year) month → is_date year month day ≡ true
is_date-true year month day m₁ m₂ d₁ d₂ =
    and_from _ _ (and_from _ _ (le-leb 1 month m₁) (le-leb month 12 m₂)) (and_from _ _ (le-leb 1 day d₁) (le-leb day (days_in_month (pos year) month) d₂))

pub IsDate-true : (year month day : ℕ) → year < 10000 → is_date year month day ≡ true → IsDate (pos year) (pos month) (pos day)
IsDate-true year month day high e =
    let halves = and_parts _ _ e in
    let m = and_parts _ _ halves.0 in
    let d = and_parts _ _ halves.1 in
    let m₁ = leb-true 1 month m.0 in
    let m₂ = leb-true month 12 m.1 in
    let d₁ = leb-true 1 day d.0 in
    let d₂ = leb-true day (days_in_month (pos year) month) d.1 in
    ((omega (arith, signed_arith), omega (arith, signed_arith)), (omega (arith, signed_arith), omega (arith, signed_arith)), (omega (arith, signed_arith), omega (arith, signed_arith, d₂)))

-- a date that jiff has
pub civil_day-date : (d : Date) (year month day : ℕ) → IsYmd (pos year) (pos month) (pos day) d → civil_day year month day ≡ Ok (epoch_day d)
unfolding civil_day
civil_day-date d year month day h =
    let m : d.month ≡ month = omega (arith, signed_arith, h.1) in
    let e : d.day ≡ day = omega (arith, signed_arith, h.2) in
    let high : d.day ≤ days_in_month (pos year) d.month = subst (λ (z : ℤ). d.day ≤ days_in_month z d.month) h.0 d.day_in.1 in
    let last : day ≤ days_in_month (pos year) month = subst (λ (n : ℕ). day ≤ days_in_month (pos year) n) m (omega (arith, high)) in
    rw (is_date-true year month day (omega (arith, d.month_in)) (omega (arith, d.month_in)) (omega (arith, d.day_in)) last)
    (ap Ok (day_number-date d year month day h.0 m e))

-- parts that are no date of jiff's
pub civil_day-none : (year month day : ℕ) → year < 10000 → (IsDate (pos year) (pos month) (pos day) → ⊥) → civil_day year month day ≡ Err NoSuchDate
unfolding civil_day
civil_day-none year month day high absent =
    elim (cases_Bool (is_date year month day)) [
      | inl e ↦ absurd (absent (IsDate-true year month day high e))
      | inr e ↦ rw e refl
    ]

-- the parts as the signed numbers that jiff takes
pub IsDate-signed : (year month day : ℕ) (y m d : ℤ) → y ≡ pos year → m ≡ pos month → d ≡ pos day → IsDate y m d ↔ IsDate (pos year) (pos month) (pos day)
IsDate-signed year month day y m d ey em ed = rw (ey, em, ed) (λ h. h, λ h. h)

-- eight digits that were written for a date
pub day_of-padded : (year month day : ℕ) → year < 10000 → month < 100 → day < 100 → day_of (date_text year month day) ≡ civil_day year month day
unfolding day_of
day_of-padded year month day y m d =
    simp digit_fits (rw (number-four year y, number-two month m, number-two day d) refl)

days_in_month_high : (year : ℤ) (month : ℕ) → days_in_month year month ≤ 31
days_in_month_high year month = grind arith

-- the text of a day reads as it
pub day_of-text : (d : Date) (year : ℕ) → d.year ≡ pos year → day_of (date_text year d.month d.day) ≡ Ok (epoch_day d)
day_of-text d year y =
    day_of-padded year d.month d.day (omega (arith, signed_arith, d.year_in)) (omega (arith, d.month_in)) (omega (arith, d.day_in, days_in_month_high d.year d.month))
    ∙ civil_day-date d year d.month d.day (y, refl, refl)
