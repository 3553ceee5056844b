use Rattle.blot_report.specs.Sums.{cell_row}
use Rattle.blot_report.proofs.ListLemmas.{if_ok}
use Rattle.blot_report.proofs.PieceLemmas.{rows-joined}
use Rattle.blot_report.proofs.positions.rows_in_pieces.Goals as goal

pub returns : goal.returns
returns g c =
    if_ok c.in_pieces.result _ _
    (λ rows joins. rows-joined (cell_row c.args.positions.now) _ c.args.keys.now rows.items (λ piece result told. told) joins) c.in_pieces.ensures
