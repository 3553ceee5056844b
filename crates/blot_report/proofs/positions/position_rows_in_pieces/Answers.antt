use Rattle.std.proofs.Common.{ap, ◌∙◌, filter_map}
use Rattle.blot_report.specs.Day.{day_parts_of}
use Rattle.blot_report.specs.Lines.{position_row}
use Rattle.blot_report.proofs.ListLemmas.{if_ok}
use Rattle.blot_report.proofs.RowLemmas.{rows-shown}
use Rattle.blot_report.proofs.positions.position_rows_in_pieces.Goals as goal

pub returns : goal.returns
returns g c =
    let parts = day_parts_of (g.B.Reported.list_of c.args.book.now) c.args.day.now in
    let shows = c.in_ok-positions.ensures in
    let keys = c.deref.ensures.value ∙ c.in_ok-keys.ensures parts shows.cells in
    let rows = rows-shown parts c.in_ok-positions.positions c.deref.result.now shows ∙ ap (filter_map (position_row parts)) keys in
    if_ok c.rows_in_pieces.result _ _ (λ found is. is ∙ rows) c.rows_in_pieces.ensures
