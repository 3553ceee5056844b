use Rattle.std.proofs.Common.{◌≡◌, ◌↔◌, arith, pos, sym, refl, ◌∙◌, ap, Ok, subst, to_z, of_z, w8, w16, w32, ℕ, ◌<◌}
use Rattle.std.proofs.lemmas.Int.{ints, to_z_pos}
use Rattle.jiff.specs.Words.{epoch_day, IsDate}
use Rattle.jiff.proofs.SpanFacts.{signed_arith}
use Rattle.blot_time.specs.Calendar.{IsDay}
use Rattle.blot_time.proofs.CalendarLemmas.{IsDay-date}
use Rattle.blot_time.proofs.DayLemmas.{civil_day-date, civil_day-none, IsDate-signed}
use Rattle.blot_time.proofs.day.Day.of_date.Goals as goal

number_is : (c : goal.After-to_unix_epoch_day) → to_z w32 (of_z w32 c.to_unix_epoch_day.result) ≡ epoch_day c.in-Ok.date
number_is c =
    omega (arith, ints, c.to_unix_epoch_day.ensures.value, c.to_unix_epoch_day.ensures.bound, ap epoch_day c.to_plain.ensures)

pub invariant_of-result : goal.invariant_of-result
invariant_of-result c =
    let year : to_z w16 c.args.year ≡ pos c.args.year = to_z_pos w16 c.args.year (omega arith) in
    subst IsDay (sym (number_is c)) (IsDay-date c.in-Ok.date (omega (arith, signed_arith, c.in-Ok.ensures.value.0, year)))

-- what jiff was asked is what the parts say
asked : (year month day : ℕ) → year < 10000 → month < 100 → day < 100 → IsDate (to_z w16 year) (to_z w8 month) (to_z w8 day) ↔ IsDate (pos year) (pos month) (pos day)
asked year month day y m d =
    IsDate-signed year month day _ _ _ (to_z_pos w16 year (omega arith)) (to_z_pos w8 month (omega arith)) (to_z_pos w8 day (omega arith))

pub returns-in-Ok : goal.returns-in-Ok
returns-in-Ok c =
    let year : to_z w16 c.args.year ≡ pos c.args.year = to_z_pos w16 c.args.year (omega arith) in
    let month : to_z w8 c.args.month ≡ pos c.args.month = to_z_pos w8 c.args.month (omega arith) in
    let day : to_z w8 c.args.day ≡ pos c.args.day = to_z_pos w8 c.args.day (omega arith) in
    let ymd = c.in-Ok.ensures.value in
    record {
      value = ap Ok (number_is c) ∙ sym (civil_day-date c.in-Ok.date c.args.year c.args.month c.args.day (ymd.0 ∙ year, ymd.1 ∙ month, ymd.2 ∙ day));
      ok = (λ _. (asked _ _ _ c.requires.year c.requires.month c.requires.day).0 (c.in-Ok.ensures.succeeds.0 refl), λ _. refl);
    }

pub returns-in-Err : goal.returns-in-Err
returns-in-Err c =
    let absent : IsDate (pos c.args.year) (pos c.args.month) (pos c.args.day) → ⊥ = λ date.
    let refused = c.in-Err.ensures.succeeds.1 ((asked _ _ _ c.requires.year c.requires.month c.requires.day).1 date) in cc in
    record {
      value = sym (civil_day-none c.args.year c.args.month c.args.day c.requires.year absent);
      ok = (λ e. cc, λ date. absurd (absent date));
    }
