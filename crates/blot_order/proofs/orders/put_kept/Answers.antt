use Rattle.std.proofs.Common.{ap, subst, sym, ◌∙◌, true, false}
use Rattle.blot_order.specs.declared.stored_fill.FillState.TheVariants.{Put}
use Rattle.blot_order.specs.Cells.{CanPut, Changes, IsPlaced, tally_at, with_fill_put}
use Rattle.blot_order.specs.Fills.{with_put}
use Rattle.blot_order.specs.Slots.{Placed, held_by, held_in_slots}
use Rattle.blot_order.specs.Totals.{Fits}
use Rattle.blot_order.proofs.HoldsLemmas.{can_put, holds-put}
use Rattle.blot_order.proofs.PlacedLemmas.{found-marked, held-placed, held-set, is-placed, placed-kept, placed_as, slot-marked, slots-marked, within-held}
use Rattle.blot_order.proofs.SlotLemmas.{found-kept, held_by-set, slot_within}
use Rattle.blot_order.proofs.orders.put_kept.Goals as goal

pub put_fill-requires-clause-placed : goal.put_fill-requires-clause-placed
put_fill-requires-clause-placed c =
    let slots = c.args.slots.now.items in
    let n = c.args.number in
    let kept = placed-kept slots n c.requires.kept in
    let was = placed_as false kept.0 kept.1 in
    let put = slot-marked slots n was true _ _ kept.2 c.index_mut.ensures.value c.mark.ensures in
    let same = found-marked slots _ n was (placed_as true kept.0 kept.1) _ _ kept.2 put c.deref.ensures.value c.in-Some.ensures in
    subst (IsPlaced c.args.cells.now.entries) (sym same) (is-placed c.args.cells.now.entries slots c.requires.holds n was kept.2)

pub put_fill-requires-clause-can : goal.put_fill-requires-clause-can
put_fill-requires-clause-can c =
    let slots = c.args.slots.now.items in
    let n = c.args.number in
    let kept = placed-kept slots n c.requires.kept in
    let was = placed_as false kept.0 kept.1 in
    let now = placed_as true kept.0 kept.1 in
    let put = slot-marked slots n was true _ _ kept.2 c.index_mut.ensures.value c.mark.ensures in
    let same = found-marked slots _ n was now _ _ kept.2 put c.deref.ensures.value c.in-Some.ensures in
    subst (λ (placed : Placed). CanPut n (tally_at c.args.cells.now.entries placed.fill.order)) (sym same)
    (can_put c.args.cells.now.entries (held_in_slots slots) c.requires.holds.orders n kept.0 (held-placed n slots was kept.2))

pub returns-clause-holds : goal.returns-clause-holds
returns-clause-holds c =
    let slots = c.args.slots.now.items in
    let n = c.args.number in
    let old = c.args.cells.now.entries in
    let new = c.put_fill.new.cells.entries in
    let kept = placed-kept slots n c.requires.kept in
    let was = placed_as false kept.0 kept.1 in
    let now = placed_as true kept.0 kept.1 in
    let put = slot-marked slots n was true _ _ kept.2 c.index_mut.ensures.value c.mark.ensures in
    let same = found-marked slots _ n was now _ _ kept.2 put c.deref.ensures.value c.in-Some.ensures in
    let within = within-held n slots (slot_within n slots was kept.2) in
    let holds =
    holds-put old (held_in_slots slots) c.requires.holds.orders new n within kept.0 (subst (λ (placed : Placed). Fits placed.fill) same c.put_fill.ensures.fits)
    (held-placed n slots was kept.2)
    (subst (λ (placed : Placed). Changes placed.fill.order (with_fill_put n placed.fill) old new) same c.put_fill.ensures.tallies) in
    rw put (slots-marked old slots c.requires.holds new n was true kept.2 holds c.put_fill.ensures.places)

pub returns-clause-fills : goal.returns-clause-fills
returns-clause-fills c = λ found is.
    let slots = c.args.slots.now.items in
    let held = held_in_slots slots in
    let n = c.args.number in
    let kept = placed-kept slots n c.requires.kept in
    let was = placed_as false kept.0 kept.1 in
    let now = placed_as true kept.0 kept.1 in
    let put = slot-marked slots n was true _ _ kept.2 c.index_mut.ensures.value c.mark.ensures in
    rw put
    (ap held_by (held-set n now slots) ∙ held_by-set n (Put kept.0) held (within-held n slots (slot_within n slots was kept.2))
    ∙ ap (λ fill. with_put n fill (held_by held)) (sym (found-kept held n kept.0 found (held-placed n slots was kept.2) is)))
