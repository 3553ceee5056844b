use Rattle.std.proofs.Common.{◌≡◌, ◌<◌, length, List, Option, false, ap, sym, subst, ◌∙◌, None}
use Rattle.std.specs.FinMap as finite
use Rattle.blot_types.proofs.GeneralLemmas.{on_err}
use Rattle.blot_order.specs.declared.stored_fill.FillState.TheVariants.{Kept}
use Rattle.blot_order.specs.Slots.{Placed, held_by, held_in_slots, put_under}
use Rattle.blot_order.proofs.HoldsLemmas.{few_kept, has_one-counted, holds-kept, holds-same}
use Rattle.blot_order.proofs.PlaceLemmas.{KeepsPlaces-then}
use Rattle.blot_order.proofs.PlacedLemmas.{held-set, placed_as, slots-reached, slots-same, slots-set, view-reached, within-held}
use Rattle.blot_order.proofs.SlotLemmas.{held_by-set, length-reaching, put_under-unput}
use Rattle.blot_order.proofs.orders.keep_fill.Goals as goal

pub add_kept-requires : goal.add_kept-requires
add_kept-requires c = few_kept c.args.cells.now.entries (held_in_slots c.args.slots.now.items) c.requires.holds.orders c.args.fill.now.order

pub returns-in_err-place-clause-holds : goal.returns-in_err-place-clause-holds
returns-in_err-place-clause-holds c =
    let cells = c.args.cells.now.entries in
    let slots = c.reach.new.slots.items in
    let holds = slots-reached cells c.args.slots.now.items c.requires.holds c.args.number c.requires.within slots c.in_ok-reach.ensures.ok in
    slots-same cells slots holds c.add_kept.new.cells.entries
    (holds-same cells (held_in_slots slots) holds.orders c.add_kept.new.cells.entries c.args.fill.now.order c.in_err-place.ensures.err) c.add_kept.ensures.places

pub returns-in_err-place-clause-err : goal.returns-in_err-place-clause-err
returns-in_err-place-clause-err c =
    on_err c.from_residual-in_err-place.result (view-reached c.args.number c.args.slots.now.items c.reach.new.slots.items c.in_ok-reach.ensures.ok)

pub forget_kept-requires-clause-unput : goal.forget_kept-requires-clause-unput
forget_kept-requires-clause-unput c =
    let n = c.args.number in
    let old = c.args.slots.now.items in
    let slots = c.reach.new.slots.items in
    let view = view-reached n old slots c.in_ok-reach.ensures.ok in
    subst (λ (these : List (Option Placed)). put_under (held_in_slots these) n ≡ None) (sym c.deref.ensures.value)
    (put_under-unput n (held_in_slots slots) (held_by (held_in_slots old)) view c.requires.unput)

pub forget_kept-requires-clause-kept : goal.forget_kept-requires-clause-kept
forget_kept-requires-clause-kept c =
    let cells = c.args.cells.now.entries in
    let slots = c.reach.new.slots.items in
    let holds = slots-reached cells c.args.slots.now.items c.requires.holds c.args.number c.requires.within slots c.in_ok-reach.ensures.ok in
    has_one-counted cells (held_in_slots slots) holds.orders c.add_kept.new.cells.entries c.args.fill.now.order c.args.number (held_in_slots c.deref.result.now)
    (ap held_in_slots c.deref.ensures.value) c.in_ok-place.ensures.ok

pub returns-clause-holds : goal.returns-clause-holds
returns-clause-holds c =
    let n = c.args.number in
    let fill = c.args.fill.now in
    let place = c.in_ok-place.place in
    let cells = c.args.cells.now.entries in
    let counted = c.add_kept.new.cells.entries in
    let new = c.forget_kept.new.cells.entries in
    let old = c.args.slots.now.items in
    let slots = c.reach.new.slots.items in
    let held = held_in_slots slots in
    let are = slots-reached cells old c.requires.holds n c.requires.within slots c.in_ok-reach.ensures.ok in
    let view = view-reached n old slots c.in_ok-reach.ensures.ok in
    let within : n < length slots = subst (λ (these : List (Option Placed)). n < length these) (sym c.in_ok-reach.ensures.ok) (length-reaching n old) in
    let holds =
    holds-kept cells held are.orders new n (within-held n slots within) counted fill (put_under-unput n held (held_by (held_in_slots old)) view c.requires.unput)
    c.in_ok-place.ensures.ok (held_in_slots c.deref.result.now) (ap held_in_slots c.deref.ensures.value) c.forget_kept.ensures.tallies in
    rw c.kept.ensures
    (slots-set cells slots are new n (placed_as false fill place) within holds (KeepsPlaces-then cells counted new c.add_kept.ensures.places c.forget_kept.ensures.places)
    (c.forget_kept.ensures.places place fill.order c.in_ok-place.ensures.place))

pub returns-clause-ok : goal.returns-clause-ok
returns-clause-ok c =
    let n = c.args.number in
    let fill = c.args.fill.now in
    let old = c.args.slots.now.items in
    let slots = c.reach.new.slots.items in
    let view = view-reached n old slots c.in_ok-reach.ensures.ok in
    let within : n < length slots = subst (λ (these : List (Option Placed)). n < length these) (sym c.in_ok-reach.ensures.ok) (length-reaching n old) in
    rw c.kept.ensures
    (ap held_by (held-set n (placed_as false fill c.in_ok-place.place) slots) ∙ held_by-set n (Kept fill) (held_in_slots slots) (within-held n slots within)
    ∙ ap (λ fills. finite.insert fills n (Kept fill)) view)
