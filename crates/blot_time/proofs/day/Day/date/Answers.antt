use Rattle.std.proofs.Common.{◌≡◌, arith, pos, ◌∙◌, ap}
use Rattle.std.proofs.lemmas.Int.{ints}
use Rattle.jiff.specs.Words.{epoch_day}
use Rattle.blot_time.proofs.CalendarLemmas.{epoch_day-1970, days_fit, parts-date}
use Rattle.blot_time.proofs.day.Day.date.Goals as goal

pub unwrap-requires : goal.unwrap-requires
unwrap-requires c =
    let zero : epoch_day c.to_plain-epoch.result ≡ pos 0 = ap epoch_day c.to_plain-epoch.ensures ∙ epoch_day-1970 c.date.result c.date.ensures in
    let fit = days_fit c.self.inside.number c.self.invariant in
    c.checked_add.ensures.succeeds.1 (omega (arith, ints), omega (arith, ints))

is_number : (c : goal.After-from_plain) → epoch_day c.from_plain.result ≡ c.self.inside.number
is_number c =
    let zero : epoch_day c.to_plain-epoch.result ≡ pos 0 = ap epoch_day c.to_plain-epoch.ensures ∙ epoch_day-1970 c.date.result c.date.ensures in
    let sum = rw c.unwrap.ensures at c.checked_add.ensures.value in
    let same = ap epoch_day c.from_plain.ensures in
    omega (arith, ints, sum, zero, same)

pub returns-clause-number : goal.returns-clause-number
returns-clause-number c = is_number c ∙ c.self.view_is

pub returns-clause-year : goal.returns-clause-year
returns-clause-year c = rw (← c.self.view_is) (parts-date c.from_plain.result c.self.inside.number c.self.invariant (is_number c)).0

pub returns-clause-month : goal.returns-clause-month
returns-clause-month c = rw (← c.self.view_is) (parts-date c.from_plain.result c.self.inside.number c.self.invariant (is_number c)).1

pub returns-clause-day : goal.returns-clause-day
returns-clause-day c = rw (← c.self.view_is) (parts-date c.from_plain.result c.self.inside.number c.self.invariant (is_number c)).2
