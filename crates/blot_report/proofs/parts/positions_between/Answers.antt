use Rattle.blot_report.proofs.RowLemmas.{made-none}
use Rattle.blot_report.proofs.parts.positions_between.Goals as goal

pub add_fills-requires-clause-none : goal.add_fills-requires-clause-none
add_fills-requires-clause-none c = made-none c.new-positions.result c.new-positions.ensures
