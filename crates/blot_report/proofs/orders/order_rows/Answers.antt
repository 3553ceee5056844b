use Rattle.std.proofs.Common.{ap, ◌∙◌, filter_map}
use Rattle.blot_report.specs.Day.{fills_on}
use Rattle.blot_report.specs.Lines.{order_row}
use Rattle.blot_report.specs.Standings.{entries_in}
use Rattle.blot_report.proofs.ListLemmas.{if_ok}
use Rattle.blot_report.proofs.OrderLemmas.{rows-same}
use Rattle.blot_report.proofs.orders.order_rows.Goals as goal

pub returns : goal.returns
returns c =
    let fills = fills_on (entries_in c.args.told.now) c.args.day.now in
    let lines = c.in_ok-lines.lines.entries in
    let keys = c.deref.ensures.value ∙ c.in_ok-keys.ensures fills c.in_ok-lines.ensures in
    let rows = rows-same lines fills c.deref.result.now c.in_ok-lines.ensures ∙ ap (filter_map (order_row fills)) keys in
    if_ok c.rows_of.result _ _ (λ found is. is ∙ rows) c.rows_of.ensures
