use Rattle.std.proofs.Common.{ap, subst, ◌∙◌, filter_map}
use Rattle.blot_report.specs.Day.{fills_on}
use Rattle.blot_report.specs.Lines.{order_row}
use Rattle.blot_report.specs.Orders.{AreLinesOf}
use Rattle.blot_report.proofs.ListLemmas.{if_ok}
use Rattle.blot_report.proofs.OrderLemmas.{rows-same}
use Rattle.blot_report.proofs.StandingLemmas.{are-told, entries-told}
use Rattle.blot_report.proofs.orders.order_rows_in_pieces.Goals as goal

pub lines_of-requires : goal.lines_of-requires
lines_of-requires g c = are-told c.deref.result.now (g.B.Reported.list_of c.args.book.now) c.in_ok-told.ensures.book (c.deref.ensures.value ∙ c.in_ok-told.ensures.told)

pub returns : goal.returns
returns g c =
    let list = g.B.Reported.list_of c.args.book.now in
    let fills = fills_on list c.args.day.now in
    let lines = c.in_ok-lines.lines.entries in
    let own = subst (λ entries. AreLinesOf lines (fills_on entries c.args.day.now)) (entries-told c.deref.result.now list (c.deref.ensures.value ∙ c.in_ok-told.ensures.told)) c.in_ok-lines.ensures in
    let keys = c.deref-2.ensures.value ∙ c.in_ok-keys.ensures fills own in
    let rows = rows-same lines fills c.deref-2.result.now own ∙ ap (filter_map (order_row fills)) keys in
    if_ok c.rows_in_pieces.result _ _ (λ found is. is ∙ rows) c.rows_in_pieces.ensures
