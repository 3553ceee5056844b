use Rattle.std.proofs.Common.{◌≤◌, length, arith, sym, ◌∙◌, ap, option_copied}
use Rattle.blot_command.proofs.SlotLemmas.{found-here, found-other, found-past}
use Rattle.blot_command.proofs.slots.entry_numbered.Goals as goal

pub returns-in_err-slot : goal.returns-in_err-slot
returns-in_err-slot c =
    let slots = c.args.slots.now in
    let past : length slots ≤ c.place_of.result = omega (arith, c.in_err-slot.ensures.lookup) in
    ap option_copied c.from_residual.ensures
    ∙ sym (found-past slots c.args.number c.place_of.result c.requires (λ k d less. c.place_of.ensures.below k d less) (λ k d le within. c.place_of.ensures.above k d le within) past)

pub returns-then-number : goal.returns-then-number
returns-then-number c =
    let slot = c.in_ok-slot.slot.now in
    let at = c.in_ok-slot.ensures.lookup.3 in
    sym (found-other c.args.slots.now c.args.number c.place_of.result c.requires (λ k d less. c.place_of.ensures.below k d less) (λ k d le within. c.place_of.ensures.above k d le within) slot (at.1 slot) at.0
    (λ same. c.if-number.true (c.number.ensures ∙ same)))

pub returns : goal.returns
returns c =
    let slot = c.in_ok-slot.slot.now in
    let at = c.in_ok-slot.ensures.lookup.3 in
    c.entry.ensures
    ∙ sym (found-here c.args.slots.now c.args.number c.place_of.result c.requires (λ k d less. c.place_of.ensures.below k d less) (λ k d le within. c.place_of.ensures.above k d le within) slot (at.1 slot) at.0
    (sym c.number.ensures ∙ c.if-number.false))
