use Rattle.std.proofs.Common.{length, sym, subst}
use Rattle.blot_report.specs.Sums.{MadeOf, ShowsParts}
use Rattle.blot_report.specs.Standings.{entries_in, parts_between}
use Rattle.blot_report.proofs.HalfLemmas.{parts-whole}
use Rattle.blot_report.proofs.ListLemmas.{if_ok}
use Rattle.blot_report.proofs.RowLemmas.{shows-made}
use Rattle.blot_report.proofs.StandingLemmas.{as-many}
use Rattle.blot_report.proofs.parts.positions_on.Goals as goal

pub returns : goal.returns
returns c =
    let list = entries_in c.args.told.now in
    let day = c.args.day.now in
    if_ok c.positions_between.result _ _
    (λ positions own.
    subst (λ parts. ShowsParts parts positions) (parts-whole list day)
    (shows-made (parts_between list day 0 (length list)) positions (subst (λ after. MadeOf (parts_between list day 0 after) positions) (sym (as-many c.args.told.now)) own.made))) c.positions_between.ensures
