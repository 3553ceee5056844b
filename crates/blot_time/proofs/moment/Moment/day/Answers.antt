use Rattle.std.proofs.Common.{◌≡◌, arith, rules, to_z, of_z, w32, w64, sym, ◌∙◌, ap, subst}
use Rattle.std.proofs.lemmas.Int.{ints}
use Rattle.blot_time.specs.Calendar.{IsDay}
use Rattle.blot_time.specs.Moment.{utc_day}
use Rattle.blot_time.proofs.CalendarLemmas.{days_fit}
use Rattle.blot_time.proofs.MomentLemmas.{day-begun, day-not_over}
use Rattle.blot_time.proofs.moment.Moment.day.Goals as goal

quotient_is : (c : goal.After-div_euclid) → c.div_euclid.result ≡ utc_day c.self.inside.millis
quotient_is c =
    let same : to_z w64 (of_z w64 c.self.inside.millis) ≡ c.self.inside.millis = search rules in
    c.div_euclid.ensures ∙ ap utc_day same

cast_is : (c : goal.After-div_euclid) → to_z w32 (of_z w32 (to_z w64 (of_z w64 c.div_euclid.result))) ≡ utc_day c.self.inside.millis
cast_is c =
    let within = days_fit (utc_day c.self.inside.millis) c.self.invariant in
    omega (arith, ints, quotient_is c)

pub overflow_cast-div_euclid : goal.overflow_cast-div_euclid
overflow_cast-div_euclid c =
    let within = days_fit (utc_day c.self.inside.millis) c.self.invariant in
    omega (arith, ints, quotient_is c)

pub numbered-requires : goal.numbered-requires
numbered-requires c = subst IsDay (sym (cast_is c)) c.self.invariant

pub returns : goal.returns
returns c =
    let day : c.numbered.result ≡ utc_day c.args.self = c.numbered.ensures ∙ cast_is c.before ∙ ap utc_day c.self.view_is in
    record { value = day; begun = rw day (day-begun c.args.self); not_over = rw day (day-not_over c.args.self) }
