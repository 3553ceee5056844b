-- Worked rows, computed by the definitions.
use Rattle.std.proofs.Common.{◌≡◌, [], ◌∷◌, map, refl, pos, negsuc, Ok, Err, codes}
use Rattle.jiff.proofs.OnLiterals.{jiff_on_literals}
use Rattle.blot_time.specs.declared.fault.TimeFault.TheVariants.{Format, NoSuchDate}
use Rattle.blot_time.specs.Calendar.{day_number}
use Rattle.blot_time.specs.Clock.{fraction_of, clock_of}
use Rattle.blot_time.specs.Day.{civil_day, day_of}
use Rattle.blot_time.specs.Moment.{moment_of}

-- 29 February: 2000, 2024 and 0000 have it, 1900 has not
pub leap_days : map day_of (codes "20000229" ∷ codes "20240229" ∷ codes "00000229" ∷ codes "19000229" ∷ [])
    ≡ Ok (pos 11_016) ∷ Ok (pos 19_782) ∷ Ok (negsuc 719_468) ∷ Err NoSuchDate ∷ []
unfolding day_of civil_day day_number jiff_on_literals
leap_days = refl

pub wrong_days : map day_of (codes "20240230" ∷ codes "2024-01-05" ∷ codes "20240005" ∷ codes "20241305" ∷ codes "20240100" ∷ codes "2024010x" ∷ [])
    ≡ Err NoSuchDate ∷ Err Format ∷ Err NoSuchDate ∷ Err NoSuchDate ∷ Err NoSuchDate ∷ Err Format ∷ []
unfolding day_of civil_day
wrong_days = refl

-- second 60 is second 59
pub leap_second : map moment_of (codes "20240105-23:59:60" ∷ codes "20240105-23:59:59" ∷ codes "20240105-10:00:60.250" ∷ [])
    ≡ Ok (pos 1_704_499_199_000) ∷ Ok (pos 1_704_499_199_000) ∷ Ok (pos 1_704_448_859_250) ∷ []
unfolding moment_of clock_of fraction_of day_of civil_day day_number jiff_on_literals
leap_second = refl

-- digits past the third of a fraction are dropped
pub dropped_digits : map moment_of (codes "20240105-10:00:00.1234567" ∷ codes "20240105-10:00:00.123" ∷ codes "20240105-10:00:00.999999999" ∷ [])
    ≡ Ok (pos 1_704_448_800_123) ∷ Ok (pos 1_704_448_800_123) ∷ Ok (pos 1_704_448_800_999) ∷ []
unfolding moment_of clock_of fraction_of day_of civil_day day_number jiff_on_literals
dropped_digits = refl

-- a wrong time comes before a date that doesn't exist
pub wrong_moments : map moment_of (codes "20240230-24:00:00" ∷ codes "20240230-10:00:00" ∷ codes "20240105-10:60:00" ∷ codes "20240105-10:00:61" ∷ codes "20240105-10:00:00.12" ∷ codes "20240105-10:00:00.1234567890" ∷ codes "20240105" ∷ [])
    ≡ Err Format ∷ Err NoSuchDate ∷ Err Format ∷ Err Format ∷ Err Format ∷ Err Format ∷ Err Format ∷ []
unfolding moment_of clock_of fraction_of day_of civil_day day_number jiff_on_literals
wrong_moments = refl

-- before 1970, and both ends of the range
pub end_moments : map moment_of (codes "19691231-23:59:59.999" ∷ codes "00000101-00:00:00" ∷ codes "99991231-23:59:59.999" ∷ [])
    ≡ Ok (negsuc 0) ∷ Ok (negsuc 62_167_219_199_999) ∷ Ok (pos 253_402_300_799_999) ∷ []
unfolding moment_of clock_of fraction_of day_of civil_day day_number jiff_on_literals
end_moments = refl
