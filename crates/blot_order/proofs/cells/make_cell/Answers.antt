use Rattle.std.proofs.Common.{subst, sym, ◌∙◌}
use Rattle.indexmap.proofs.CallerLemmas.{insert_entry-new}
use Rattle.blot_types.specs.Keys.{same_order}
use Rattle.blot_order.specs.Cells.{order_at, KeepsPlaces}
use Rattle.blot_order.proofs.PlaceLemmas.{last-place, places-last}
use Rattle.blot_order.proofs.cells.make_cell.Goals as goal

pub returns-clause-place : goal.returns-clause-place
returns-clause-place c =
    let after = c.in_ok-insert.ensures.entries ∙ insert_entry-new same_order c.args.cells.now c.args.order.now _ c.requires in
    (λ i. order_at (after i) (c.len-place.ensures.len i)) ∙ last-place c.args.cells.now.entries _

pub returns-clause-places : goal.returns-clause-places
returns-clause-places c =
    let after = c.in_ok-insert.ensures.entries ∙ insert_entry-new same_order c.args.cells.now c.args.order.now _ c.requires in
    subst (KeepsPlaces c.args.cells.now.entries) (sym after) (places-last c.args.cells.now.entries _)
