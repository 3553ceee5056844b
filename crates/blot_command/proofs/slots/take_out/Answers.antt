use Rattle.std.proofs.Common.{Some, false, set, sym, ap, ◌∙◌}
use Rattle.blot_types.specs.declared.command.Entry.{Entry}
use Rattle.blot_places.specs.declared.slots.Slot.{Slot}
use Rattle.blot_command.proofs.SlotLemmas.{IsThereAt, there-at, marked-there}
use Rattle.blot_command.proofs.slots.take_out.Goals as goal
use Rattle.blot_command.proofs.slots.take_out.Goals.{After-place_of-place}

-- the slot of the entry
there : (c : After-place_of-place) → IsThereAt c.args.slots.now c.args.number c.place_of-place.result c.requires.numbered (λ k d less. c.place_of-place.ensures.below k d less) (λ k d le within. c.place_of-place.ensures.above k d le within)
there c =
    there-at c.args.slots.now c.args.number c.place_of-place.result c.requires.numbered (λ k d less. c.place_of-place.ensures.below k d less)
    (λ k d le within. c.place_of-place.ensures.above k d le within) c.requires.there

pub bounds-slots-place : goal.bounds-slots-place
bounds-slots-place c = (there c).within

pub take-requires : goal.take-requires
take-requires c =
    let slot = c.index-slots-place.result in
    let is = c.index-slots-place.is in
    record { there = ap (λ (s : Slot Entry). s.is_live) (sym is) ∙ (there (goal.at.take-requires c).After-place_of-place).live slot is }

pub returns-clause-entry : goal.returns-clause-entry
returns-clause-entry c =
    let slot = c.index-slots-place.result in
    let is = c.index-slots-place.is in
    (there (goal.at.returns-clause-entry c).After-place_of-place).found slot is ∙ ap Some (ap (λ (s : Slot Entry). s.item) is ∙ sym c.take.ensures.entry)

pub returns-clause-taken : goal.returns-clause-taken
returns-clause-taken c =
    let slots = c.args.slots.now in
    let place = c.place_of-place.result in
    let slot = c.index-slots-place.result in
    let is = c.index-slots-place.is in
    let it = there (goal.at.returns-clause-taken c).After-place_of-place in
    ap (set slots place) (c.take.ensures.taken ∙ ap (λ (s : Slot Entry). record s { is_live = false }) (sym is))
    ∙ marked-there slots c.args.number place c.requires.numbered (λ k d less. c.place_of-place.ensures.below k d less) (λ k d le within. c.place_of-place.ensures.above k d le within) false slot is it.within
    (it.own slot is)
