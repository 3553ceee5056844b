use Rattle.std.proofs.Common.{None, ap, ◌∙◌, filter}
use Rattle.blot_report.specs.declared.lines.PositionRow.{PositionRow}
use Rattle.blot_report.specs.Day.{day_parts_of}
use Rattle.blot_report.specs.Lines.{is_of, position_rows}
use Rattle.blot_report.proofs.StandingLemmas.{are-told, entries-told}
use Rattle.blot_report.proofs.WholeLemmas.{shows-positions}
use Rattle.blot_report.proofs.whole.position_lines.Goals as goal

pub position_rows-requires : goal.position_rows-requires
position_rows-requires g c = are-told c.deref-2.result.now (g.B.Reported.list_of c.args.book.now) c.in_ok-told.ensures.book (c.deref-2.ensures.value ∙ c.in_ok-told.ensures.told)

pub returns : goal.returns
returns g c =
    let list = g.B.Reported.list_of c.args.book.now in
    let whole = c.deref-3.ensures.value ∙ c.in_ok-rows.ensures
    ∙ ap (λ entries. position_rows (day_parts_of entries None)) (entries-told c.deref-2.result.now list (c.deref-2.ensures.value ∙ c.in_ok-told.ensures.told)) in
    let lines = c.new.ensures ∙ c.in_ok-kept.ensures ∙ ap (filter (λ (row : PositionRow). is_of row.position.account c.args.account.now)) whole in
    record { lines = lines; shown = shows-positions list c.args.account.now _ lines }
