-- Dates by their parts and by their day numbers.
use Rattle.std.proofs.Common.{◌≡◌, ℕ, zero, suc, ◌-◌, ◌<◌, ◌≤◌, min, max, true, false, refl, sym, ◌∙◌, subst, ap, inl, inr, arith, ℤ, pos, negsuc, ◌+ℤ◌, ◌-ℤ◌, ◌≤ℤ◌, ◌<ℤ◌, unsigned_abs, int_le}
use Rattle.std.proofs.lemmas.Bool.{cases_lt}
use Rattle.std.proofs.lemmas.Int.{ints, by_lt_z}
use Rattle.jiff.specs.Types.{Date}
use Rattle.jiff.specs.Words.{epoch_day, days_in_month, IsEpochDay, IsYmd}
use Rattle.jiff.proofs.Family.{epoch_day-lt, epoch_day_same, epoch_day_range, days_from_civil-day}
use Rattle.jiff.proofs.SpanFacts.{signed_arith}
use Rattle.jiff.proofs.OnLiterals.{jiff_on_literals}
use Rattle.blot_time.specs.Calendar.{month_not_empty, date_of, day_number, IsDay, last_begun, year_of, month_of, day_of_month}

-- the first day of the years, 1970-01-01, and the last day
pub first_day : day_number 0 1 1 ≡ negsuc 719_527
unfolding day_number jiff_on_literals
first_day = refl

pub epoch : day_number 1970 1 1 ≡ pos 0
unfolding day_number jiff_on_literals
epoch = refl

pub last_day : day_number 9999 12 31 ≡ pos 2_932_896
unfolding day_number jiff_on_literals
last_day = refl

-- parts that a date has stay as they are
pub date_of-parts : (year month day : ℕ) → year ≤ 9999 → 1 ≤ month → month ≤ 12 → 1 ≤ day → day ≤ days_in_month (pos year) month → ((date_of year month day).year ≡ pos year) × ((date_of year month day).month ≡ month) × ((date_of year month day).day ≡ day)
date_of-parts year month day y m₁ m₂ d₁ d₂ =
    let year_same : min year 9999 ≡ year = omega arith in
    let month_same : max 1 (min month 12) ≡ month = omega arith in
    rw (year_same, month_same) (refl, refl, omega arith)

first_of_month : (year month : ℕ) → year ≤ 9999 → 1 ≤ month → month ≤ 12 → ((date_of year month 1).year ≡ pos year) × ((date_of year month 1).month ≡ month) × ((date_of year month 1).day ≡ 1)
first_of_month year month high low most = date_of-parts year month 1 high low most (omega arith) (month_not_empty (pos year) month)

year_high : (d : Date) (year : ℕ) → d.year ≡ pos year → year ≤ 9999
year_high d year y = omega (arith, signed_arith, d.year_in)

-- the day number of a date is that of its parts
pub day_number-date : (d : Date) (year month day : ℕ) → d.year ≡ pos year → d.month ≡ month → d.day ≡ day → day_number year month day ≡ epoch_day d
unfolding day_number
day_number-date d year month day y m e =
    let high : d.day ≤ days_in_month (pos year) d.month = subst (λ (z : ℤ). d.day ≤ days_in_month z d.month) y d.day_in.1 in
    let last : day ≤ days_in_month (pos year) month = subst (λ (n : ℕ). day ≤ days_in_month (pos year) n) m (omega (arith, high)) in
    let parts = date_of-parts year month day (year_high d year y) (omega (arith, d.month_in)) (omega (arith, d.month_in)) (omega (arith, d.day_in)) last in
    epoch_day_same (date_of year month day) d (parts.0 ∙ sym y) (parts.1 ∙ sym m) (parts.2 ∙ sym e)

-- the last number that has begun, where the later ones have not
pub last_begun-is : (first : ℕ → ℤ) (day : ℤ) (n most : ℕ) → n ≤ most → (0 < n → first n ≤ℤ day) → ((k : ℕ) → n < k → k ≤ most → day <ℤ first k) → last_begun first day most ≡ n
unfolding last_begun
last_begun-is first day n zero low begun later = omega arith
last_begun-is first day n (suc most) low begun later =
    elim (cases_lt n (suc most)) [
      | inl less ↦
          let test : int_le (first (suc most)) day ≡ false = grind (arith, ints, later (suc most) less (omega arith)) in
          rw test (last_begun-is first day n most (omega arith) begun (λ k above below. later k above (omega arith)))
      | inr full ↦
          let same : n ≡ suc most = omega arith in
          let start : first (suc most) ≤ℤ day = rw (← same) (begun (omega arith)) in
          let test : int_le (first (suc most)) day ≡ true = grind (arith, ints) in
          rw test (sym same)
    ]

-- two dates of one month
same_month : (a d : Date) → a.year ≡ d.year → a.month ≡ d.month → a.day ≡ 1 → epoch_day d +ℤ pos 1 ≡ epoch_day a +ℤ pos d.day
same_month a d year month first = rw (year, month, first) (days_from_civil-day d.year d.month d.day 1 d.day_in.0 (omega arith))

-- the first of a date's year is no later
first_of_year : (a d : Date) → a.year ≡ d.year → a.month ≡ 1 → a.day ≡ 1 → epoch_day a ≤ℤ epoch_day d
first_of_year a d year month first =
    elim (cases_lt 1 d.month) [
      | inl later ↦ omega (arith, signed_arith, epoch_day-lt a d (inr (year, inl (omega arith))))
      | inr same ↦ omega (arith, signed_arith, same_month a d year (omega (arith, d.month_in)) first, d.day_in.0)
    ]

-- the year, the month and the place in the month of a date from the year 0 on
first_le : (d : Date) → pos 0 ≤ℤ d.year → day_number 0 1 1 ≤ℤ epoch_day d
unfolding day_number
first_le d h =
    by_lt_z (pos 0) d.year (λ later. omega (arith, signed_arith, epoch_day-lt (date_of 0 1 1) d (inl later)))
    (λ low. first_of_year (date_of 0 1 1) d (omega (arith, signed_arith, low, h)) refl refl)

before_first : (d : Date) → d.year <ℤ pos 0 → epoch_day d <ℤ day_number 0 1 1
unfolding day_number
before_first d early = epoch_day-lt d (date_of 0 1 1) (inl early)

pub year_of-date : (d : Date) (year : ℕ) → d.year ≡ pos year → year_of (epoch_day d) ≡ year
unfolding year_of day_number
year_of-date d year y =
    let high = year_high d year y in
    let first = first_of_month year 1 high (omega arith) (omega arith) in
    last_begun-is (λ n. day_number n 1 1) (epoch_day d) year 9999 high
    (λ _. first_of_year (date_of year 1 1) d (first.0 ∙ sym y) first.1 first.2)
    (λ k after below. epoch_day-lt d (date_of k 1 1) (inl (omega (arith, signed_arith, (first_of_month k 1 below (omega arith) (omega arith)).0))))

month_start : (d : Date) (year : ℕ) → d.year ≡ pos year → epoch_day d +ℤ pos 1 ≡ day_number year d.month 1 +ℤ pos d.day
unfolding day_number
month_start d year y =
    let parts = first_of_month year d.month (year_high d year y) (omega (arith, d.month_in)) (omega (arith, d.month_in)) in
    same_month (date_of year d.month 1) d (parts.0 ∙ sym y) parts.1 parts.2

month_later : (d : Date) (year month : ℕ) → d.year ≡ pos year → d.month < month → month ≤ 12 → epoch_day d <ℤ day_number year month 1
unfolding day_number
month_later d year month y after below =
    let parts = first_of_month year month (year_high d year y) (omega arith) below in
    epoch_day-lt d (date_of year month 1) (inr (y ∙ sym parts.0, inl (omega (arith, parts.1))))

pub month_of-date : (d : Date) (year : ℕ) → d.year ≡ pos year → month_of (epoch_day d) ≡ d.month
unfolding month_of
month_of-date d year y =
    subst (λ (n : ℕ). last_begun (λ month. day_number n month 1) (epoch_day d) 12 ≡ d.month) (sym (year_of-date d year y))
    (last_begun-is (λ month. day_number year month 1) (epoch_day d) d.month 12 (omega (arith, d.month_in))
    (λ _. omega (arith, signed_arith, month_start d year y, d.day_in.0))
    (λ k after below. month_later d year k y after below))

pub day_of_month-date : (d : Date) (year : ℕ) → d.year ≡ pos year → day_of_month (epoch_day d) ≡ d.day
unfolding day_of_month
day_of_month-date d year y =
    let behind : epoch_day d -ℤ day_number year d.month 1 ≡ pos (d.day - 1) = omega (arith, signed_arith, month_start d year y, d.day_in.0) in
    rw (year_of-date d year y, month_of-date d year y, behind) (omega (arith, d.day_in.0))

-- a date from the year 0 on has one of our day numbers
pub IsDay-date : (d : Date) → pos 0 ≤ℤ d.year → IsDay (epoch_day d)
IsDay-date d h = (first_le d h, omega (arith, signed_arith, last_day, epoch_day_range d))

-- and one of our day numbers belongs to such a date
pub year-IsDay : (d : Date) → IsDay (epoch_day d) → pos 0 ≤ℤ d.year
year-IsDay d h = by_lt_z d.year (pos 0) (λ early. absurd (omega (arith, signed_arith, before_first d early, h.0))) (λ late. late)

natural : (z : ℤ) → pos 0 ≤ℤ z → z ≡ pos (unsigned_abs z)
natural (pos n) h = refl
natural (negsuc n) h = absurd (omega (arith, signed_arith, h))

-- the parts of the date that has a day number
pub parts-date : (d : Date) (day : ℤ) → IsDay day → epoch_day d ≡ day → (d.year ≡ pos (year_of day)) × (d.month ≡ month_of day) × (d.day ≡ day_of_month day)
parts-date d day h e =
    let late : pos 0 ≤ℤ d.year = year-IsDay d (subst IsDay (sym e) h) in
    let year : d.year ≡ pos (unsigned_abs d.year) = natural d.year late in
    rw (← e) (year ∙ ap pos (sym (year_of-date d _ year)), sym (month_of-date d _ year), sym (day_of_month-date d _ year))

-- jiff's date 1970-01-01 is day 0
pub epoch_day-1970 : (d : Date) → IsYmd (pos 1970) (pos 1) (pos 1) d → epoch_day d ≡ pos 0
epoch_day-1970 d h = sym (day_number-date d 1970 1 1 h.0 (omega (arith, signed_arith, h.1)) (omega (arith, signed_arith, h.2))) ∙ epoch

-- our day numbers are some of jiff's
pub days_fit : (day : ℤ) → IsDay day → IsEpochDay day
days_fit day h = (omega (arith, signed_arith, first_day, h.0), omega (arith, signed_arith, last_day, h.1))
