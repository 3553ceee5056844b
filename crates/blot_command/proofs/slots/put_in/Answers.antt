use Rattle.std.proofs.Common.{◌≡◌, ◌<◌, length, get_or, true, set, sym, ap, ◌∙◌}
use Rattle.blot_types.specs.declared.command.Entry.{Entry}
use Rattle.blot_places.specs.declared.slots.Slot.{Slot}
use Rattle.blot_places.specs.Slots.{marked}
use Rattle.blot_command.specs.Book.{entry_number}
use Rattle.blot_command.proofs.SlotLemmas.{left-at, marked-there}
use Rattle.blot_command.proofs.slots.put_in.Goals as goal
use Rattle.blot_command.proofs.slots.put_in.Goals.{After-place_of-place}

-- the slot that the entry was taken out of
left : (c : After-place_of-place)
    → (c.place_of-place.result < length c.args.slots.now) × ((slot : Slot Entry) → slot ≡ get_or c.args.slots.now c.place_of-place.result slot → slot.item ≡ c.args.entry)
left c =
    left-at c.args.slots.now c.as_entry.result.now.number c.place_of-place.result c.requires.numbered (λ k d less. c.place_of-place.ensures.below k d less)
    (λ k d le within. c.place_of-place.ensures.above k d le within) c.args.entry (ap (λ (e : Entry). e.number) (sym c.as_entry.ensures)) c.requires.left

pub bounds-slots-place : goal.bounds-slots-place
bounds-slots-place c = (left c).0

pub put-requires : goal.put-requires
put-requires c =
    let slot = c.index-slots-place.result in
    let is = c.index-slots-place.is in
    record { own = sym (ap (λ (s : Slot Entry). s.item) (sym is) ∙ (left (goal.at.put-requires c).After-place_of-place).1 slot is) }

pub returns : goal.returns
returns c =
    let slots = c.args.slots.now in
    let place = c.place_of-place.result in
    let slot = c.index-slots-place.result in
    let is = c.index-slots-place.is in
    let it = left (goal.at.returns c).After-place_of-place in
    ap (set slots place) (c.put.ensures.put ∙ ap (λ (s : Slot Entry). record s { is_live = true }) (sym is))
    ∙ marked-there slots c.as_entry.result.now.number place c.requires.numbered (λ k d less. c.place_of-place.ensures.below k d less) (λ k d le within. c.place_of-place.ensures.above k d le within) true
    slot is it.0 (ap (λ (e : Entry). e.number) (it.1 slot is ∙ sym c.as_entry.ensures))
    ∙ ap (λ (e : Entry). marked entry_number e.number true slots) c.as_entry.ensures
