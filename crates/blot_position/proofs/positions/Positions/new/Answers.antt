use Rattle.std.proofs.Common.{ap, ◌∙◌}
use Rattle.blot_position.specs.Cells.{cells_in}
use Rattle.blot_position.proofs.CellLemmas.{cells_in-empty}
use Rattle.blot_position.proofs.positions.Positions.new.Goals as goal

pub returns : goal.returns
returns c = ap cells_in c.new.ensures.empty ∙ cells_in-empty
