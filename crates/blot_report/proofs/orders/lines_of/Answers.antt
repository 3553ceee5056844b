use Rattle.std.proofs.Common.{◌+◌, ◌<◌, length, arith, Option, sym, ap, subst, ◌∙◌, option_copied, take_all}
use Rattle.blot_types.specs.declared.{TheConstants.EVENTS_MAX, command.Entry.Entry, fill.Fill.Fill}
use Rattle.blot_types.proofs.OrderLemmas.{IsWithin-weaker}
use Rattle.blot_command.specs.declared.standing.Standing.{Standing}
use Rattle.blot_command.specs.Standings.{standing_of}
use Rattle.blot_command.proofs.ReadyLemmas.{length-book}
use Rattle.blot_report.specs.Day.{fills_on}
use Rattle.blot_report.specs.Standings.{entries_in, fill_on}
use Rattle.blot_report.proofs.OrderLemmas.{HoldsFirst, holds-all, holds-more, holds-none, holds-on}
use Rattle.blot_report.proofs.StandingLemmas.{as-many, fills-told}
use Rattle.blot_report.proofs.orders.lines_of.Goals as goal
use Rattle.blot_report.proofs.orders.lines_of.Goals.{in-Some+in_ok-add_fill, in_default}

pub loop-place-init : goal.loop-place-init
loop-place-init c = holds-none _ c.new-lines.result.entries (entries_in c.args.told.now) c.new-lines.ensures.empty

pub add_fill-requires : goal.add_fill-requires
add_fill-requires c =
    let few = length-book (entries_in c.args.told.now) c.requires.book in
    IsWithin-weaker c.loop-place.place EVENTS_MAX _ (omega (arith, few, as-many c.args.told.now, c.loop-place-test.true)) (c.loop-place.invariant.few c.in-Some.fill.now.order)

pub loop-place-preserved : goal.loop-place-preserved
loop-place-preserved c =
    let list = entries_in c.args.told.now in
    let f : Entry → Option Fill = λ e. fill_on c.args.day.now (standing_of list e) e in
    let index = c.loop-place.place in
    let entry = c.told_at.result.now.entry in
    let within : index < length list = omega (arith, as-many c.args.told.now, c.loop-place-test.true) in
    let told = c.fill_on.ensures ∙ ap (λ (s : Standing). fill_on c.args.day.now s entry) c.told_at.ensures.standing in
    elim c.match-fill_on.branch [
      | in-Some+in_ok-add_fill w ↦
          subst (λ lines. HoldsFirst f lines list (index + 1)) (sym (ap (λ m. m.entries) w.lines-is))
          (holds-more f c.loop-place.lines.entries w.add_fill.new.lines.entries list index entry w.in-Some.fill.now c.loop-place.invariant within c.told_at.ensures.own
          (sym told ∙ ap option_copied w.in-Some.is) w.in_ok-add_fill.ensures.lines w.add_fill.ensures.grows)
      | in_default w ↦
          holds-on f c.loop-place.lines.entries c.match-fill_on.lines.entries list index entry c.loop-place.invariant within c.told_at.ensures.own
          (sym told ∙ ap option_copied w.in_default.is) (ap (λ m. m.entries) w.lines-is)
    ]

pub returns : goal.returns
returns c =
    holds-all _ c.loop-place.lines.entries (entries_in c.args.told.now) c.loop-place.place (fills_on (entries_in c.args.told.now) c.args.day.now) c.loop-place.invariant
    (take_all c.loop-place.place (entries_in c.args.told.now) (omega (arith, as-many c.args.told.now, c.loop-place-test.false))) (fills-told (entries_in c.args.told.now) c.args.day.now)
