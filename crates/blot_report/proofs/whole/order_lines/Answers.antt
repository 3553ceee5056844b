use Rattle.std.proofs.Common.{None, ap, ◌∙◌, filter}
use Rattle.blot_report.specs.declared.lines.OrderRow.{OrderRow}
use Rattle.blot_report.specs.Day.{fills_on}
use Rattle.blot_report.specs.Lines.{is_of, order_rows}
use Rattle.blot_report.proofs.StandingLemmas.{are-told, entries-told}
use Rattle.blot_report.proofs.WholeLemmas.{shows-orders}
use Rattle.blot_report.proofs.whole.order_lines.Goals as goal

pub order_rows-requires : goal.order_rows-requires
order_rows-requires g c = are-told c.deref-2.result.now (g.B.Reported.list_of c.args.book.now) c.in_ok-told.ensures.book (c.deref-2.ensures.value ∙ c.in_ok-told.ensures.told)

pub returns : goal.returns
returns g c =
    let list = g.B.Reported.list_of c.args.book.now in
    let whole = c.deref-3.ensures.value ∙ c.in_ok-rows.ensures
    ∙ ap (λ entries. order_rows (fills_on entries None)) (entries-told c.deref-2.result.now list (c.deref-2.ensures.value ∙ c.in_ok-told.ensures.told)) in
    let lines = c.new.ensures ∙ c.in_ok-kept.ensures ∙ ap (filter (λ (row : OrderRow). is_of row.order.peer c.args.peer.now)) whole in
    record { lines = lines; shown = shows-orders list c.args.peer.now _ lines }
