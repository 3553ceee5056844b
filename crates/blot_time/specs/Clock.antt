-- What the text of a time of day says (FIX 4.4 volume 1, "UTCTimestamp"; digits past the third of a fraction, and second 60: this project's rule).
use Rattle.std.specs.Prelude.{ℕ, ◌+◌, ◌*◌, ◌/◌, ◌%◌, min, ◌==◌, nat_le, ◌&&◌, Bool, if◌then◌else◌, List, [], ◌∷◌, ◌++◌, length, take, drop, codes, Result, Ok, Err}
use Rattle.std.specs.Char.{is_ascii_digit}
use Rattle.std.specs.List.{list_all}
use Rattle.blot_time.specs.declared.{fault.TimeFault.TimeFault, fault.TimeFault.TheVariants.Format, clock.TheConstants.FRACTION_MIN, clock.TheConstants.FRACTION_MAX}
use Rattle.blot_time.specs.Digits.{fits, number, padded}
use Rattle.blot_time.specs.Results.{◌>>=◌}

-- the hour in `-HH:MM:SS`
abbrev pub hour_part : List ℕ → ℕ
hour_part text = number (take 2 (drop 1 text))

-- the minute
abbrev pub minute_part : List ℕ → ℕ
minute_part text = number (take 2 (drop 4 text))

-- the second
abbrev pub second_part : List ℕ → ℕ
second_part text = number (take 2 (drop 7 text))

-- a point, and 3 to 9 digits
abbrev pub is_fraction : ℕ → List ℕ → Bool
is_fraction byte digits =
    byte == 46 && (nat_le FRACTION_MIN (length digits) && nat_le (length digits) FRACTION_MAX) && list_all is_ascii_digit digits

-- the thousandths of a second in what stands after the seconds: nothing, or a fraction, of which three digits count
unfoldable pub fraction_of : List ℕ → Result ℕ TimeFault
fraction_of [] = Ok 0
fraction_of (byte ∷ digits) = if is_fraction byte digits then Ok (number (take 3 digits)) else Err Format

-- a clock shows the time: hours to 23, minutes to 59, and seconds to 60 for a leap second
abbrev pub is_time : ℕ → ℕ → ℕ → Bool
is_time hour minute second = nat_le hour 23 && nat_le minute 59 && nat_le second 60

-- the second of the day that a clock shows, where second 60 counts as 59
abbrev pub second_of_day : List ℕ → ℕ
second_of_day text = (hour_part text * 60 + minute_part text) * 60 + min (second_part text) 59

-- the text is `-HH:MM:SS` of a time that a clock shows
abbrev pub is_clock : List ℕ → Bool
is_clock text =
    fits (codes "-00:00:00") text && is_time (hour_part text) (minute_part text) (second_part text)

-- the milliseconds since midnight that a text names
unfoldable pub clock_of : List ℕ → Result ℕ TimeFault
clock_of text = do
  whole ← if is_clock (take 9 text) then Ok (second_of_day (take 9 text)) else Err Format
  millis ← fraction_of (drop 9 text)
  Ok (whole * 1000 + millis)

-- the text `-HH:MM:SS.sss` of an hour, a minute, a second and thousandths of it
abbrev pub time_text : ℕ → ℕ → ℕ → ℕ → List ℕ
time_text hour minute second millis =
    codes "-" ++ padded 2 hour ++ codes ":" ++ padded 2 minute ++ codes ":" ++ padded 2 second
    ++ codes "." ++ padded 3 millis

-- the text of the milliseconds since midnight
unfoldable pub clock_text : ℕ → List ℕ
clock_text millis = time_text (millis / 3_600_000) (millis / 60_000 % 60) (millis / 1000 % 60) (millis % 1000)
