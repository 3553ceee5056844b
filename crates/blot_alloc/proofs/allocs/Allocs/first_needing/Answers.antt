use Rattle.std.proofs.Common.{◌≡◌, Some, reverse, sym, ap, ◌∙◌, option_copied}
use Rattle.blot_types.specs.Lesser.{lesser}
use Rattle.blot_places.specs.Shown.{item_at}
use Rattle.blot_alloc.specs.Allocs.{number_of}
use Rattle.blot_alloc.proofs.HoldsLemmas.{shown-instructed}
use Rattle.blot_alloc.proofs.NeedLemmas.{needing-found, needing-none, shown-falls}
use Rattle.blot_alloc.proofs.allocs.Allocs.first_needing.Goals as goal

pub returns-in_err-instruction : goal.returns-in_err-instruction
returns-in_err-instruction c =
    let found = rw c.deref.ensures.value at c.live_numbered.ensures in
    c.from_residual.ensures
    ∙ sym (needing-none c.args.self.now.list c.args.number (ap (λ shown. item_at number_of c.args.number shown.list) (sym c.self.view_is) ∙ sym found ∙ ap option_copied c.in_err-instruction.was))

pub returns : goal.returns
returns c =
    let k = c.in_ok-instruction.instruction.now in
    let list = c.args.self.now.list in
    let slots = reverse c.self.inside.slots.items in
    let found : item_at number_of c.args.number list ≡ Some k =
    ap (λ shown. item_at number_of c.args.number shown.list) (sym c.self.view_is) ∙ sym (rw c.deref.ensures.value at c.live_numbered.ensures) ∙ ap option_copied c.in_ok-instruction.was in
    c.lesser.ensures ∙ (λ i. lesser (c.ended_by.ensures i) (c.first_after_end.ensures i))
    ∙ needing-found list c.args.number k (shown-instructed c.self.inside.index slots c.args.self.now c.self.invariant c.self.view_is)
    (shown-falls c.self.inside.index slots c.args.self.now c.self.invariant c.self.view_is) found
