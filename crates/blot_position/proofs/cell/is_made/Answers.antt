use Rattle.std.proofs.Common.{sym, ◌∙◌}
use Rattle.blot_position.proofs.CellLemmas.{has_cell-found}
use Rattle.blot_position.proofs.cell.is_made.Goals as goal

pub returns : goal.returns
returns c = c.contains_key.ensures ∙ sym (has_cell-found c.args.cells.now.entries c.args.position.now)
