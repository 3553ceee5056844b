use Rattle.std.proofs.Common.{sym, ap, subst, ◌∙◌}
use Rattle.blot_types.specs.Chains.{version_before_in}
use Rattle.blot_places.specs.Slots.{BelowFirst}
use Rattle.blot_chain.specs.ChainLinks.{link_number}
use Rattle.blot_chain.proofs.AroundLemmas.{before-held, parted-earlier}
use Rattle.blot_chain.proofs.IndexLemmas.{turned}
use Rattle.blot_chain.proofs.chains.Chains.version_before.Goals as goal

pub number_below-requires : goal.number_below-requires
number_below-requires c =
    let stack = turned c.versions.result.now _ c.versions.ensures in
    subst (λ slots. BelowFirst link_number c.args.number slots c.versions.result.now) (sym c.deref.ensures.value)
    (subst (BelowFirst link_number c.args.number c.self.inside.slots.items) (sym stack)
    (parted-earlier c.self.inside.index c.self.inside.slots.items c.args.root.now c.args.number c.self.invariant))

pub returns : goal.returns
returns c =
    let found = rw (c.deref.ensures.value, turned c.versions.result.now _ c.versions.ensures) at c.number_below.ensures in
    found ∙ before-held c.self.inside.index c.self.inside.slots.items c.args.root.now c.args.number c.self.invariant
    ∙ ap (λ shown. version_before_in shown.list c.args.number c.args.root.now) c.self.view_is
