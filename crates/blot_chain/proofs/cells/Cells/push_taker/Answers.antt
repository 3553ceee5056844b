use Rattle.std.proofs.Common.{refl}
use Rattle.indexmap.proofs.CallerLemmas.{keys-with_value_at}
use Rattle.blot_chain.specs.declared.{cell.Cell.Cell, cell.Relation.TheVariants.Taker}
use Rattle.blot_chain.proofs.PlaceLemmas.{puts-at, same-keys}
use Rattle.blot_chain.proofs.cells.Cells.push_taker.Goals as goal

pub returns-clause-puts : goal.returns-clause-puts
returns-clause-puts g c =
    let cell : Cell = record c.in-Some.cell.now { takers = c.push.new.self } in
    rw (← c.self.view_is)
    (puts-at g.K.PartialEq.eq g.met.K.Eq.laws c.self.inside.cells c.get_index_mut.ensures.unique c.args.at c.in-Some.cell.now cell c.in-Some.ensures.value
    Taker c.args.place (record { takers = c.push.ensures; versions = refl; busts = refl }))

pub returns-clause-places : goal.returns-clause-places
returns-clause-places g c =
    let cell : Cell = record c.in-Some.cell.now { takers = c.push.new.self } in
    rw (← c.self.view_is) (same-keys c.self.inside.cells.entries _ (keys-with_value_at c.self.inside.cells c.args.at cell))
