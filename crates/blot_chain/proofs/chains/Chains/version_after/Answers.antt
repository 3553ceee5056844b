use Rattle.std.proofs.Common.{sym, ap, subst, ◌∙◌}
use Rattle.blot_types.specs.Chains.{version_after_in}
use Rattle.blot_places.specs.Slots.{UpToFirst}
use Rattle.blot_chain.specs.ChainLinks.{link_number}
use Rattle.blot_chain.proofs.AroundLemmas.{after-held, parted-versions}
use Rattle.blot_chain.proofs.IndexLemmas.{turned}
use Rattle.blot_chain.proofs.chains.Chains.version_after.Goals as goal

pub number_above-requires : goal.number_above-requires
number_above-requires c =
    let stack = turned c.versions.result.now _ c.versions.ensures in
    subst (λ slots. UpToFirst link_number c.args.number slots c.versions.result.now) (sym c.deref.ensures.value)
    (subst (UpToFirst link_number c.args.number c.self.inside.slots.items) (sym stack)
    (parted-versions c.self.inside.index c.self.inside.slots.items c.args.root.now c.args.number c.self.invariant))

pub returns : goal.returns
returns c =
    let found = rw (c.deref.ensures.value, turned c.versions.result.now _ c.versions.ensures) at c.number_above.ensures in
    found ∙ after-held c.self.inside.index c.self.inside.slots.items c.args.root.now c.args.number c.self.invariant
    ∙ ap (λ shown. version_after_in shown.list c.args.number c.args.root.now) c.self.view_is
