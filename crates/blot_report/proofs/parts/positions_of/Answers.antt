use Rattle.std.proofs.Common.{arith, length, ap, subst, ◌∙◌}
use Rattle.blot_report.specs.Standings.{parts_between}
use Rattle.blot_report.specs.Sums.{IsOfParts}
use Rattle.blot_report.proofs.ListLemmas.{if_ok}
use Rattle.blot_report.proofs.StandingLemmas.{are-told, as-many-standings, entries-told}
use Rattle.blot_report.proofs.parts.positions_of.Goals as goal

pub positions_between-requires-clause-told : goal.positions_between-requires-clause-told
positions_between-requires-clause-told g c = are-told c.deref.result.now (g.B.Reported.list_of c.args.book.now) c.in_ok-told.ensures.book (c.deref.ensures.value ∙ c.in_ok-told.ensures.told)

pub positions_between-requires-clause-within : goal.positions_between-requires-clause-within
positions_between-requires-clause-within g c =
    let list = g.B.Reported.list_of c.args.book.now in
    let same = ap length (entries-told c.deref.result.now list (c.deref.ensures.value ∙ c.in_ok-told.ensures.told)) in
    omega (arith, c.requires.within, same, as-many-standings list c.args.standings.now c.requires.standings)

pub returns : goal.returns
returns g c =
    if_ok c.positions_between.result _ _
    (λ positions own. subst (λ entries. IsOfParts (parts_between entries c.args.day.now c.args.first c.args.after) positions)
    (entries-told c.deref.result.now (g.B.Reported.list_of c.args.book.now) (c.deref.ensures.value ∙ c.in_ok-told.ensures.told)) own) c.positions_between.ensures
