use Rattle.std.proofs.Common.{Some, ap, ◌∙◌}
use Rattle.blot_report.specs.Day.{day_parts_of, fills_on}
use Rattle.blot_report.specs.Lines.{order_rows, position_rows}
use Rattle.blot_report.proofs.DayLawLemmas.{shows-book}
use Rattle.blot_report.proofs.ShowLemmas.{lines-found, shows-day}
use Rattle.blot_report.proofs.StandingLemmas.{are-told, entries-told}
use Rattle.blot_report.proofs.day.day_lines.Goals as goal

pub order_rows-requires : goal.order_rows-requires
order_rows-requires g c = are-told c.deref-2.result.now (g.B.Reported.list_of c.args.book.now) c.in_ok-told.ensures.book (c.deref-2.ensures.value ∙ c.in_ok-told.ensures.told)

pub position_rows-requires : goal.position_rows-requires
position_rows-requires g c = are-told c.deref-3.result.now (g.B.Reported.list_of c.args.book.now) c.in_ok-told.ensures.book (c.deref-3.ensures.value ∙ c.in_ok-told.ensures.told)

pub returns : goal.returns
returns g c =
    let list = g.B.Reported.list_of c.args.book.now in
    let day = c.args.day in
    let ordered = c.new.ensures ∙ c.in_ok-orders.ensures
    ∙ ap (λ entries. order_rows (fills_on entries (Some day))) (entries-told c.deref-2.result.now list (c.deref-2.ensures.value ∙ c.in_ok-told.ensures.told)) in
    let placed = c.new-2.ensures ∙ c.in_ok-positions.ensures
    ∙ ap (λ entries. position_rows (day_parts_of entries (Some day))) (entries-told c.deref-3.result.now list (c.deref-3.ensures.value ∙ c.in_ok-told.ensures.told)) in
    let lines = lines-found list day c.new.result c.new-2.result ordered placed in
    let shown = shows-day list day _ lines in
    record { lines = lines; shown = shown; whole = shows-book list day _ shown }
