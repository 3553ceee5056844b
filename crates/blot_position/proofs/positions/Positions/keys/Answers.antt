use Rattle.std.proofs.lemmas.Result.{IfOk-weaker}
use Rattle.blot_position.proofs.CellLemmas.{keys-are}
use Rattle.blot_position.proofs.positions.Positions.keys.Goals as goal

pub returns : goal.returns
returns c = rw (← c.self.view_is) (IfOk-weaker c.keys_of.result _ _ (λ keys are. keys-are c.self.inside.cells.entries keys.items are c.keys_of.ensures.once) c.keys_of.ensures.keys)
