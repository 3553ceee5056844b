use Rattle.std.proofs.Common.{◌≡◌, ◌<◌, Some, None, ap, subst, sym, ◌∙◌, true, false, length, arith}
use Rattle.std.specs.FinMap as finite
use Rattle.blot_order.specs.declared.stored_fill.FillState.TheVariants.{Kept}
use Rattle.blot_order.specs.Cells.{CanTake, Changes, tally_at, with_fill_taken}
use Rattle.blot_order.specs.Slots.{Placed, held_by, held_in_slots}
use Rattle.blot_order.proofs.HoldsLemmas.{can_take, holds-taken}
use Rattle.blot_order.proofs.PlacedLemmas.{found-marked, held-placed, held-set, placed-put, placed_as, slot-marked, slots-marked, stands-marked, within-held}
use Rattle.blot_order.proofs.SlotLemmas.{held_by-set, slot_within}
use Rattle.blot_order.proofs.orders.Orders.take.Goals as goal

pub index_mut-requires : goal.index_mut-requires
index_mut-requires c =
    let slots = c.self.inside.slots.items in
    let put = placed-put slots c.args.number c.args.self.now c.args.fill.now c.self.view_is c.requires in
    let within : c.args.number < length slots = slot_within c.args.number slots (placed_as true c.args.fill.now put.0) put.1 in
    omega arith

pub take_fill-requires-clause-can : goal.take_fill-requires-clause-can
take_fill-requires-clause-can c =
    let slots = c.self.inside.slots.items in
    let n = c.args.number in
    let fill = c.args.fill.now in
    let put = placed-put slots n c.args.self.now fill c.self.view_is c.requires in
    let was = placed_as true fill put.0 in
    let taken = slot-marked slots n was false _ _ put.1 c.index_mut.ensures.value c.mark.ensures in
    let same = found-marked slots _ n was (placed_as false fill put.0) _ _ put.1 taken c.deref.ensures.value c.in-Some.ensures in
    subst (λ (placed : Placed). CanTake n (tally_at c.self.inside.cells.entries placed.fill.order)) (sym same)
    (can_take c.self.inside.cells.entries (held_in_slots slots) c.self.invariant.orders n fill (held-placed n slots was put.1))

pub unreachable-requires : goal.unreachable-requires
unreachable-requires c =
    let slots = c.self.inside.slots.items in
    let n = c.args.number in
    let fill = c.args.fill.now in
    let put = placed-put slots n c.args.self.now fill c.self.view_is c.requires in
    let was = placed_as true fill put.0 in
    let now = placed_as false fill put.0 in
    let taken = slot-marked slots n was false _ _ put.1 c.index_mut.ensures.value c.mark.ensures in
    let clash : None ≡ Some now = c.in-None.ensures ∙ stands-marked slots _ n was now _ put.1 taken c.deref.ensures.value in
    cc clash

pub invariant_of-self : goal.invariant_of-self
invariant_of-self c =
    let slots = c.self.inside.slots.items in
    let n = c.args.number in
    let fill = c.args.fill.now in
    let old = c.self.inside.cells.entries in
    let new = c.take_fill.new.cells.entries in
    let put = placed-put slots n c.args.self.now fill c.self.view_is c.requires in
    let was = placed_as true fill put.0 in
    let taken = slot-marked slots n was false _ _ put.1 c.index_mut.ensures.value c.mark.ensures in
    let same = found-marked slots _ n was (placed_as false fill put.0) _ _ put.1 taken c.deref.ensures.value c.in-Some.ensures in
    let within = within-held n slots (slot_within n slots was put.1) in
    let holds =
    holds-taken old (held_in_slots slots) c.self.invariant.orders new n within fill (held-placed n slots was put.1)
    (subst (λ (placed : Placed). Changes placed.fill.order (with_fill_taken n placed.fill) old new) same c.take_fill.ensures.tallies) in
    rw taken (slots-marked old slots c.self.invariant new n was false put.1 holds c.take_fill.ensures.places)

pub returns : goal.returns
returns c =
    let slots = c.self.inside.slots.items in
    let n = c.args.number in
    let fill = c.args.fill.now in
    let put = placed-put slots n c.args.self.now fill c.self.view_is c.requires in
    let was = placed_as true fill put.0 in
    let taken = slot-marked slots n was false _ _ put.1 c.index_mut.ensures.value c.mark.ensures in
    rw taken
    (ap held_by (held-set n (placed_as false fill put.0) slots) ∙ held_by-set n (Kept fill) (held_in_slots slots) (within-held n slots (slot_within n slots was put.1))
    ∙ ap (λ fills. finite.insert fills n (Kept fill)) c.self.view_is)
