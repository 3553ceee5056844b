use Rattle.blot_report.specs.Orders.{line_row}
use Rattle.blot_report.proofs.ListLemmas.{if_ok}
use Rattle.blot_report.proofs.PieceLemmas.{rows-joined}
use Rattle.blot_report.proofs.orders.rows_in_pieces.Goals as goal

pub returns : goal.returns
returns g c =
    if_ok c.in_pieces.result _ _
    (λ rows joins. rows-joined (line_row c.args.lines.now.entries) _ c.args.keys.now rows.items (λ piece result told. told) joins) c.in_pieces.ensures
