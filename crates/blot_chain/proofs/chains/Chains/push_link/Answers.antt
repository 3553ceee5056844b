use Rattle.std.proofs.Common.{◌≡◌, ◌∷◌, [], ◌++◌, true, Some, None, ap, sym, subst, ◌∙◌, reverse, length}
use Rattle.std.proofs.lemmas.List.{length-reverse}
use Rattle.blot_types.specs.Chains.{link_refusal, is_above_links}
use Rattle.blot_types.specs.StandingVersion.{chain_under}
use Rattle.blot_places.specs.declared.slots.Slot.{Slot}
use Rattle.blot_chain.specs.declared.chain_link.ChainLink.{ChainLink}
use Rattle.blot_chain.specs.Holds.{HoldsChains}
use Rattle.blot_chain.proofs.HoldsLemmas.{held-index, held-push}
use Rattle.blot_chain.proofs.chains.Chains.push_link.Goals as goal

pub invariant_of-self-in_err-at : goal.invariant_of-self-in_err-at
invariant_of-self-in_err-at c =
    let slots = reverse c.self.inside.slots.items in
    subst (λ items. HoldsChains c.reach.new.self (reverse items)) (sym c.reserve.ensures.items)
    (held-index c.self.inside.index c.reach.new.self slots c.self.invariant (c.reach.ensures.same slots c.self.invariant.indexed))

pub invariant_of-self-in_err-new : goal.invariant_of-self-in_err-new
invariant_of-self-in_err-new c =
    let slots = reverse c.self.inside.slots.items in
    subst (λ items. HoldsChains c.reach.new.self (reverse items)) (sym c.reserve.ensures.items)
    (held-index c.self.inside.index c.reach.new.self slots c.self.invariant (c.reach.ensures.same slots c.self.invariant.indexed))

pub invariant_of-self-in_err-add : goal.invariant_of-self-in_err-add
invariant_of-self-in_err-add c =
    let slots = reverse c.self.inside.slots.items in
    subst (λ items. HoldsChains c.add.new.self (reverse items)) (sym c.reserve.ensures.items)
    (held-index c.self.inside.index c.add.new.self slots c.self.invariant (c.in_err-add.ensures.err slots (c.reach.ensures.same slots c.self.invariant.indexed)))

pub invariant_of-self-2 : goal.invariant_of-self-2
invariant_of-self-2 c =
    let slots = c.self.inside.slots.items in
    let item : ChainLink = c.in_ok-new.field-0 in
    let made = c.in_ok-new.ensures in
    let slot : Slot ChainLink = record { item = item; is_live = true } in
    let indexed = c.reach.ensures.same (reverse slots) c.self.invariant.indexed in
    held-push c.reach.new.self c.add.new.self slots c.push_reserved.new.self.items item.link item.root item.place
    (held-index c.self.inside.index c.reach.new.self (reverse slots) c.self.invariant indexed)
    (c.push_reserved.ensures.items ∙ ap (λ items. items ++ slot ∷ []) c.reserve.ensures.items)
    (c.in_ok-add.ensures.ok (reverse slots) indexed
    (c.len-place.ensures ∙ c.reserve.new.self.ok.0 ∙ ap length c.reserve.ensures.items ∙ sym (length-reverse slots)))
    (subst (λ shown. link_refusal shown.list item.link.key item.link.role ≡ None) (sym c.self.view_is)
    (subst (λ (it : ChainLink). link_refusal c.args.self.now.list it.link.key it.link.role ≡ None) (sym made) c.requires.accepted))
    (subst (λ shown. is_above_links item.link.number shown.list ≡ true) (sym c.self.view_is)
    (subst (λ (it : ChainLink). is_above_links it.link.number c.args.self.now.list ≡ true) (sym made) c.requires.above))
    (subst (λ shown. is_above_links item.link.number shown.kept ≡ true) (sym c.self.view_is)
    (subst (λ (it : ChainLink). is_above_links it.link.number c.args.self.now.kept ≡ true) (sym made) c.requires.above_kept))
    (subst (λ shown. chain_under shown.list item.link.key item.link.role ≡ Some item.root) (sym c.self.view_is)
    (subst (λ (it : ChainLink). chain_under c.args.self.now.list it.link.key it.link.role ≡ Some it.root) (sym made) c.requires.rooted))
