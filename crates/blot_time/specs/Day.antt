-- What the text of a day says (FIX 4.4 volume 1, "LocalMktDate"; that the calendar has the date: this project's rule).
use Rattle.std.specs.Prelude.{ℕ, Bool, if◌then◌else◌, List, ◌++◌, take, drop, codes, ℤ, pos, IsTrue, Result, Ok, Err}
use Rattle.jiff.specs.Words.{IsDate}
use Rattle.blot_time.specs.declared.fault.TimeFault.{TimeFault}
use Rattle.blot_time.specs.declared.fault.TimeFault.TheVariants.{Format, NoSuchDate}
use Rattle.blot_time.specs.Calendar.{is_date, day_number, year_of, month_of, day_of_month}
use Rattle.blot_time.specs.Digits.{fits, number, padded}

-- the text is eight digits
abbrev pub is_day_shape : List ℕ → Bool
is_day_shape text = fits (codes "00000000") text

-- the year in eight digits
abbrev pub year_part : List ℕ → ℕ
year_part text = number (take 4 text)

-- the month
abbrev pub month_part : List ℕ → ℕ
month_part text = number (take 2 (drop 4 text))

-- the day of the month
abbrev pub day_part : List ℕ → ℕ
day_part text = number (take 2 (drop 6 text))

-- the day of a date, where the calendar has it
unfoldable pub civil_day : ℕ → ℕ → ℕ → Result ℤ TimeFault
civil_day year month day =
    if is_date year month day then Ok (day_number year month day) else Err NoSuchDate

-- the day that a text names
unfoldable pub day_of : List ℕ → Result ℤ TimeFault
day_of text =
    if is_day_shape text then civil_day (year_part text) (month_part text) (day_part text) else Err Format

-- a text of a day: eight digits of a date that jiff's calendar has
abbrev pub IsDayText : List ℕ → Type 0
IsDayText text =
    IsTrue (is_day_shape text)
    × IsDate (pos (year_part text)) (pos (month_part text)) (pos (day_part text))

-- the text of a date: four digits for the year, two for the month and two for the day
abbrev pub date_text : ℕ → ℕ → ℕ → List ℕ
date_text year month day = padded 4 year ++ padded 2 month ++ padded 2 day

-- the text of a day
unfoldable pub day_text : ℤ → List ℕ
day_text day = date_text (year_of day) (month_of day) (day_of_month day)
