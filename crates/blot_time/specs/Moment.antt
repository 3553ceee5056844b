-- Moments, and what their texts say: a day and a time of day, in UTC.
use Rattle.std.specs.Prelude.{ℕ, List, ◌++◌, take, drop, ℤ, pos, ◌+ℤ◌, ◌*ℤ◌, unsigned_abs, Result, Ok, IsOk}
use Rattle.std.specs.Int.{int_div_euclid, int_rem_euclid}
use Rattle.blot_time.specs.declared.{fault.TimeFault.TimeFault, clock.TheConstants.DAY_MILLIS}
use Rattle.blot_time.specs.Calendar.{IsDay}
use Rattle.blot_time.specs.Clock.{clock_of, clock_text}
use Rattle.blot_time.specs.Day.{day_of, day_text, IsDayText}
use Rattle.blot_time.specs.Results.{◌>>=◌}

-- the UTC day of a moment: its whole days of 86,400,000 milliseconds, rounded down
abbrev pub utc_day : ℤ → ℤ
utc_day moment = int_div_euclid moment (pos DAY_MILLIS)

-- the milliseconds since that day's midnight
abbrev pub since_midnight : ℤ → ℕ
since_midnight moment = unsigned_abs (int_rem_euclid moment (pos DAY_MILLIS))

-- a moment of the years 0000 to 9999
abbrev pub IsMoment : ℤ → Type 0
IsMoment moment = IsDay (utc_day moment)

-- the moment that a text names: a day in its first eight bytes, and a time of day after them, whose fault comes first
unfoldable pub moment_of : List ℕ → Result ℤ TimeFault
moment_of text = do
  millis ← clock_of (drop 8 text)
  day ← day_of (take 8 text)
  Ok (day *ℤ pos DAY_MILLIS +ℤ pos millis)

-- a text of a moment: that of a day, and after it that of a time of day
abbrev pub IsMomentText : List ℕ → Type 0
IsMomentText text = IsDayText (take 8 text) × IsOk (clock_of (drop 8 text))

-- the text of a moment
unfoldable pub moment_text : ℤ → List ℕ
moment_text moment = day_text (utc_day moment) ++ clock_text (since_midnight moment)
