use Rattle.std.proofs.Common.{◌≡◌, arith, pos, ◌∙◌, ap, to_z, of_z, w16, Ok, refl}
use Rattle.std.proofs.lemmas.Int.{ints}
use Rattle.jiff.specs.Types.{Date}
use Rattle.jiff.specs.Words.{epoch_day}
use Rattle.blot_time.specs.Calendar.{year_of}
use Rattle.blot_time.specs.Day.{day_of, day_text, date_text}
use Rattle.blot_time.proofs.DayLemmas.{day_of-text}
use Rattle.blot_time.proofs.day.Day.write.Goals as goal

year_is : (c : goal.After-write_date) → c.to_plain-date.result.year ≡ pos (year_of c.args.self)
year_is c = ap (λ (d : Date). d.year) c.to_plain-date.ensures ∙ c.date.ensures.year

text_is : (c : goal.After-write_date) → c.write_date.result ≡ date_text (year_of c.args.self) c.to_plain-date.result.month c.to_plain-date.result.day
text_is c =
    let year : to_z w16 (of_z w16 c.to_plain-date.result.year) ≡ pos (year_of c.args.self) = omega (arith, ints, year_is c, c.to_plain-date.result.year_in) in
    c.write_date.ensures ∙ rw (year, c.from.ensures, c.from-2.ensures) refl

pub returns-clause-text : goal.returns-clause-text
unfolding day_text
returns-clause-text c =
    let month = ap (λ (d : Date). d.month) c.to_plain-date.ensures ∙ c.date.ensures.month in
    let day = ap (λ (d : Date). d.day) c.to_plain-date.ensures ∙ c.date.ensures.day in
    text_is c ∙ rw (month, day) refl

pub returns-clause-read_again : goal.returns-clause-read_again
returns-clause-read_again c =
    ap day_of (text_is c) ∙ day_of-text c.to_plain-date.result (year_of c.args.self) (year_is c)
    ∙ ap Ok (ap epoch_day c.to_plain-date.ensures ∙ c.date.ensures.number)
