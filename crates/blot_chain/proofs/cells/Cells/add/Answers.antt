use Rattle.std.proofs.lemmas.Result.{on_err_weaker, on_ok_weaker}
use Rattle.indexmap.proofs.CallerLemmas.{keys-with_value_at}
use Rattle.blot_chain.proofs.PlaceLemmas.{puts-at, room-written, same-at, same-keys}
use Rattle.blot_chain.proofs.cells.Cells.add.Goals as goal

pub returns-clause-ok : goal.returns-clause-ok
returns-clause-ok g c =
    rw (← c.self.view_is)
    (on_ok_weaker c.add.result
    (puts-at g.K.PartialEq.eq g.met.K.Eq.laws c.self.inside.cells c.get_index_mut.ensures.unique c.args.at c.in-Some.cell.now c.add.new.self c.in-Some.ensures.value
    c.args.relation c.args.place)
    c.add.ensures.ok)

pub returns-clause-err : goal.returns-clause-err
returns-clause-err g c =
    rw (← c.self.view_is)
    (on_err_weaker c.add.result
    (same-at g.K.PartialEq.eq g.met.K.Eq.laws c.self.inside.cells c.get_index_mut.ensures.unique c.args.at c.in-Some.cell.now c.add.new.self c.in-Some.ensures.value)
    c.add.ensures.err)

pub returns-clause-places : goal.returns-clause-places
returns-clause-places g c = rw (← c.self.view_is) (same-keys c.self.inside.cells.entries _ (keys-with_value_at c.self.inside.cells c.args.at c.add.new.self))

pub returns-clause-room : goal.returns-clause-room
returns-clause-room g c = λ apart.
    rw (← c.self.view_is)
    (room-written c.self.inside.cells.entries c.args.at c.in-Some.cell.now c.add.new.self c.in-Some.ensures.value (c.add.ensures.kept apart))
