use Rattle.std.proofs.Common.{refl}
use Rattle.std.proofs.lemmas.Result.{on_ok_weaker}
use Rattle.indexmap.proofs.CallerLemmas.{keys-with_value_at}
use Rattle.blot_chain.specs.declared.cell.Cell.{Cell}
use Rattle.blot_chain.proofs.PlaceLemmas.{room-made, same-at, same-keys}
use Rattle.blot_chain.proofs.cells.Cells.make_taker_room.Goals as goal

pub returns-clause-same : goal.returns-clause-same
returns-clause-same g c =
    let cell : Cell = record c.in-Some.cell.now { takers = c.make_room.new.self } in
    rw (← c.self.view_is)
    (same-at g.K.PartialEq.eq g.met.K.Eq.laws c.self.inside.cells c.get_index_mut.ensures.unique c.args.at c.in-Some.cell.now cell c.in-Some.ensures.value
    (record { takers = c.make_room.ensures.places; versions = refl; busts = refl }))

pub returns-clause-places : goal.returns-clause-places
returns-clause-places g c =
    let cell : Cell = record c.in-Some.cell.now { takers = c.make_room.new.self } in
    rw (← c.self.view_is) (same-keys c.self.inside.cells.entries _ (keys-with_value_at c.self.inside.cells c.args.at cell))

pub returns-clause-room : goal.returns-clause-room
returns-clause-room g c =
    let cell : Cell = record c.in-Some.cell.now { takers = c.make_room.new.self } in
    on_ok_weaker c.make_room.result (room-made c.self.inside.cells.entries c.args.at c.in-Some.cell.now cell c.in-Some.ensures.value) c.make_room.ensures.room
