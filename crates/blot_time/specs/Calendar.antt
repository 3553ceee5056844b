-- Dates of the years 0000 to 9999 and their day numbers, in the words of jiff's calendar.
use Rattle.std.specs.Prelude.{ℕ, zero, suc, ◌+◌, ◌≤◌, min, max, nat_le, int_le, ◌&&◌, Bool, if◌then◌else◌, ℤ, pos, ◌-ℤ◌, ◌≤ℤ◌, unsigned_abs}
use Rattle.std.specs.Int.{IsInRange}
use Rattle.std.proofs.Common.{arith, lit≤}
use Rattle.std.proofs.lemmas.Int.{ints}
use Rattle.jiff.specs.Types.{Date}
use Rattle.jiff.specs.Words.{epoch_day, days_in_month, IsYear}

-- the calendar has the date: a month of the twelve, and a day that the month has in that year
abbrev pub is_date : ℕ → ℕ → ℕ → Bool
is_date year month day =
    (nat_le 1 month && nat_le month 12) && (nat_le 1 day && nat_le day (days_in_month (pos year) month))

-- parts that were moved are in range: the year, the month or day, and a month has a day
pub in_year : (year : ℕ) → IsYear (pos (min year 9999))
in_year year = (omega (arith, ints), omega (arith, ints))

-- a number moved into a range is in it
pub in_range : (low high n : ℕ) → low ≤ high → IsInRange low high (max low (min n high))
in_range low high n h = (omega arith, omega arith)

-- each month has a day
pub month_not_empty : (year : ℤ) (month : ℕ) → 1 ≤ days_in_month year month
month_not_empty year month = grind arith

-- jiff's date of these parts; a part that is out of range is moved to the nearest that isn't
abbrev pub date_of : ℕ → ℕ → ℕ → Date
date_of year month day =
    let y = pos (min year 9999) in
    let m = max 1 (min month 12) in
    let last = days_in_month y m in
    record {
      year = y;
      month = m;
      day = max 1 (min day last);
      year_in = in_year year;
      month_in = in_range 1 12 month (lit≤ tt);
      day_in = in_range 1 last day (month_not_empty y m);
    }

-- jiff's day number of the date, 0 for 1970-01-01
unfoldable pub day_number : ℕ → ℕ → ℕ → ℤ
day_number year month day = epoch_day (date_of year month day)

-- a day of the years 0000 to 9999, by its number
abbrev pub IsDay : ℤ → Type 0
IsDay day = (day_number 0 1 1 ≤ℤ day) × (day ≤ℤ day_number 9999 12 31)

-- the last of the numbers from 1 to `most` that has begun by the day, or 0
unfoldable pub last_begun : (ℕ → ℤ) → ℤ → ℕ → ℕ
last_begun first_day day zero = 0
last_begun first_day day (suc most) =
    if int_le (first_day (suc most)) day then suc most else last_begun first_day day most

-- the year of a day: the last one that has begun
unfoldable pub year_of : ℤ → ℕ
year_of day = last_begun (λ year. day_number year 1 1) day 9999

-- the month of a day: the last one of its year that has begun
unfoldable pub month_of : ℤ → ℕ
month_of day = last_begun (λ month. day_number (year_of day) month 1) day 12

-- the place of a day in its month, from 1
unfoldable pub day_of_month : ℤ → ℕ
day_of_month day = unsigned_abs (day -ℤ day_number (year_of day) (month_of day) 1) + 1
