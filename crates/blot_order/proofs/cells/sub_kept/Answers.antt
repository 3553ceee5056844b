use Rattle.std.proofs.Common.{◌<◌, ap, subst, sym, ◌∙◌}
use Rattle.blot_order.specs.Cells.{Tally, order_at, without_one_kept}
use Rattle.blot_order.proofs.PlaceLemmas.{changed-there, none-there, places-written, tally-there}
use Rattle.blot_order.proofs.cells.sub_kept.Goals as goal

pub sub_kept-requires : goal.sub_kept-requires
sub_kept-requires c =
    let cells = c.args.cells.now in
    let there = ap (order_at cells.entries) c.place.ensures ∙ c.requires.placed in
    subst (λ (tally : Tally). 0 < tally.kept)
    (sym (tally-there cells c.get_index_mut.ensures.unique c.args.held.now.fill.order c.place.result there c.in-Some.cell.now c.in-Some.ensures.value)) c.requires.kept

pub unreachable-requires : goal.unreachable-requires
unreachable-requires c =
    let cells = c.args.cells.now in
    let there = ap (order_at cells.entries) c.place.ensures ∙ c.requires.placed in
    none-there cells c.get_index_mut.ensures.unique c.args.held.now.fill.order c.place.result there c.in-None.ensures.value

pub returns-clause-tallies : goal.returns-clause-tallies
returns-clause-tallies c =
    let cells = c.args.cells.now in
    let there = ap (order_at cells.entries) c.place.ensures ∙ c.requires.placed in
    changed-there cells c.get_index_mut.ensures.unique c.args.held.now.fill.order c.place.result there
    without_one_kept c.in-Some.cell.now c.sub_kept.new.self c.in-Some.ensures.value c.sub_kept.ensures

pub returns-clause-places : goal.returns-clause-places
returns-clause-places c = places-written c.args.cells.now.entries c.place.result c.sub_kept.new.self
