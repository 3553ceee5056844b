use Rattle.std.proofs.Common.{ap, ◌∙◌}
use Rattle.blot_types.specs.Chains.{bust_in}
use Rattle.blot_chain.proofs.HoldsLemmas.{bust-held}
use Rattle.blot_chain.proofs.chains.Chains.bust_of.Goals as goal

pub returns : goal.returns
returns c =
    let found = rw (c.deref.ensures.value, c.busts.ensures) at c.number_on.ensures in
    found ∙ bust-held c.self.inside.index c.self.inside.slots.items c.args.root.now c.self.invariant ∙ ap (λ shown. bust_in shown.list c.args.root.now) c.self.view_is
