use Rattle.std.proofs.Common.{◌≡◌, Some, ◌∙◌}
use Rattle.blot_report.specs.Day.{day_parts_of, fills_on}
use Rattle.blot_report.specs.Lines.{order_rows, position_rows}
use Rattle.blot_report.proofs.DayLawLemmas.{shows-book}
use Rattle.blot_report.proofs.ListLemmas.{if_was}
use Rattle.blot_report.proofs.ShowLemmas.{lines-found, shows-day}
use Rattle.blot_report.proofs.parallel.day_lines_parallel.Goals as goal

pub returns : goal.returns
returns g c =
    let list = g.B.Reported.list_of c.args.book.now in
    let day = c.args.day in
    let ordered = c.new.ensures ∙ if_was c.join-orders.result.0 c.in_ok-orders.orders (λ rows. rows.items ≡ order_rows (fills_on list (Some day))) c.in_ok-orders.was c.join-orders.ensures.first in
    let placed = c.new-2.ensures
    ∙ if_was c.join-orders.result.1 c.in_ok-positions.positions (λ rows. rows.items ≡ position_rows (day_parts_of list (Some day))) c.in_ok-positions.was c.join-orders.ensures.second in
    let lines = lines-found list day c.new.result c.new-2.result ordered placed in
    let shown = shows-day list day _ lines in
    record { lines = lines; shown = shown; whole = shows-book list day _ shown }
