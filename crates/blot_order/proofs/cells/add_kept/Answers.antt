use Rattle.std.proofs.Common.{sym, ◌∙◌}
use Rattle.blot_types.proofs.GeneralLemmas.{on_err}
use Rattle.blot_order.specs.Cells.{with_one_kept}
use Rattle.blot_order.proofs.PlaceLemmas.{changed-there, found-there, places-written}
use Rattle.blot_order.proofs.cells.add_kept.Goals as goal

pub returns-in_err-add_kept-in-Some-get_index_mut-clause-places : goal.returns-in_err-add_kept-in-Some-get_index_mut-clause-places
returns-in_err-add_kept-in-Some-get_index_mut-clause-places c = places-written c.args.cells.now.entries c.in-Some.place c.add_kept.new.self

pub returns-in_err-add_kept-in-Some-get_index_mut-clause-err : goal.returns-in_err-add_kept-in-Some-get_index_mut-clause-err
returns-in_err-add_kept-in-Some-get_index_mut-clause-err c =
    let cells = c.args.cells.now in
    let order = c.args.order.now in
    let place = c.in-Some.place in
    let there = found-there cells.entries order place (sym c.get_index_of.ensures.index ∙ c.in-Some.is) in
    on_err c.from_residual.result
    (changed-there cells c.get_index_mut.ensures.unique order place there (λ tally. tally) c.in-Some-get_index_mut.cell.now c.add_kept.new.self
    c.in-Some-get_index_mut.ensures.value c.in_err-add_kept-in-Some-get_index_mut.ensures.err)

pub returns-clause-place : goal.returns-clause-place
returns-clause-place c =
    let cells = c.args.cells.now in
    let there = found-there cells.entries c.args.order.now c.in-Some.place (sym c.get_index_of.ensures.index ∙ c.in-Some.is) in
    places-written cells.entries c.in-Some.place c.add_kept.new.self c.in-Some.place c.args.order.now there

pub returns-clause-places : goal.returns-clause-places
returns-clause-places c = places-written c.args.cells.now.entries c.in-Some.place c.add_kept.new.self

pub returns-clause-ok : goal.returns-clause-ok
returns-clause-ok c =
    let cells = c.args.cells.now in
    let order = c.args.order.now in
    let place = c.in-Some.place in
    let there = found-there cells.entries order place (sym c.get_index_of.ensures.index ∙ c.in-Some.is) in
    changed-there cells c.get_index_mut.ensures.unique order place there with_one_kept c.in-Some-get_index_mut.cell.now c.add_kept.new.self
    c.in-Some-get_index_mut.ensures.value c.in_ok-add_kept-in-Some-get_index_mut.ensures.ok
