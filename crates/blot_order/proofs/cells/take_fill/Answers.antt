use Rattle.std.proofs.Common.{ap, subst, sym, ◌∙◌}
use Rattle.blot_order.specs.Cells.{order_at, with_fill_taken, CanTake}
use Rattle.blot_order.proofs.PlaceLemmas.{changed-there, none-there, places-written, tally-there}
use Rattle.blot_order.proofs.cells.take_fill.Goals as goal

pub take-requires : goal.take-requires
take-requires c =
    let cells = c.args.cells.now in
    let there = ap (order_at cells.entries) c.place.ensures ∙ c.requires.placed in
    subst (CanTake c.args.number)
    (sym (tally-there cells c.get_index_mut.ensures.unique c.args.held.now.fill.order c.place.result there c.in-Some.cell.now c.in-Some.ensures.value)) c.requires.can

pub unreachable-requires : goal.unreachable-requires
unreachable-requires c =
    let cells = c.args.cells.now in
    let there = ap (order_at cells.entries) c.place.ensures ∙ c.requires.placed in
    none-there cells c.get_index_mut.ensures.unique c.args.held.now.fill.order c.place.result there c.in-None.ensures.value

pub returns-clause-tallies : goal.returns-clause-tallies
returns-clause-tallies c =
    let cells = c.args.cells.now in
    let there = ap (order_at cells.entries) c.place.ensures ∙ c.requires.placed in
    changed-there cells c.get_index_mut.ensures.unique c.args.held.now.fill.order c.place.result there
    (with_fill_taken c.args.number c.args.held.now.fill) c.in-Some.cell.now c.take.new.self c.in-Some.ensures.value c.take.ensures

pub returns-clause-places : goal.returns-clause-places
returns-clause-places c = places-written c.args.cells.now.entries c.place.result c.take.new.self
