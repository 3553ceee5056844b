use Rattle.std.proofs.Common.{ap, subst, sym, ◌∙◌}
use Rattle.blot_order.specs.Cells.{order_at, with_fill_put, CanPut}
use Rattle.blot_order.proofs.PlaceLemmas.{changed-there, none-there, places-written, tally-there}
use Rattle.blot_order.proofs.cells.put_fill.Goals as goal

pub put-requires : goal.put-requires
put-requires c =
    let cells = c.args.cells.now in
    let there = ap (order_at cells.entries) c.place.ensures ∙ c.requires.placed in
    subst (CanPut c.args.number)
    (sym (tally-there cells c.get_index_mut.ensures.unique c.args.held.now.fill.order c.place.result there c.in-Some.cell.now c.in-Some.ensures.value)) c.requires.can

pub unreachable-requires : goal.unreachable-requires
unreachable-requires c =
    let cells = c.args.cells.now in
    let there = ap (order_at cells.entries) c.place.ensures ∙ c.requires.placed in
    none-there cells c.get_index_mut.ensures.unique c.args.held.now.fill.order c.place.result there c.in-None.ensures.value

pub returns-clause-tallies : goal.returns-clause-tallies
returns-clause-tallies c =
    let cells = c.args.cells.now in
    let there = ap (order_at cells.entries) c.place.ensures ∙ c.requires.placed in
    changed-there cells c.get_index_mut.ensures.unique c.args.held.now.fill.order c.place.result there
    (with_fill_put c.args.number c.args.held.now.fill) c.in-Some.cell.now c.put.new.self c.in-Some.ensures.value c.put.ensures.tally

pub returns-clause-places : goal.returns-clause-places
returns-clause-places c = places-written c.args.cells.now.entries c.place.result c.put.new.self
