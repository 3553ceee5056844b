use Rattle.std.proofs.Common.{ap, ◌∙◌}
use Rattle.blot_types.specs.Chains.{taker_in}
use Rattle.blot_chain.proofs.HoldsLemmas.{taker-held}
use Rattle.blot_chain.proofs.chains.Chains.number_of.Goals as goal

pub returns : goal.returns
returns c =
    let found = rw (c.deref.ensures.value, c.takers.ensures) at c.number_on.ensures in
    found ∙ taker-held c.self.inside.index c.self.inside.slots.items c.args.key.now c.self.invariant ∙ ap (λ shown. taker_in shown.list c.args.key.now) c.self.view_is
