use Rattle.std.proofs.Common.{ap, ◌∙◌}
use Rattle.blot_types.specs.Chains.{current_in}
use Rattle.blot_chain.proofs.HoldsLemmas.{current-held}
use Rattle.blot_chain.proofs.chains.Chains.current.Goals as goal

pub returns : goal.returns
returns c =
    let found = rw (c.deref.ensures.value, c.versions.ensures) at c.number_on.ensures in
    found ∙ current-held c.self.inside.index c.self.inside.slots.items c.args.root.now c.self.invariant ∙ ap (λ shown. current_in shown.list c.args.root.now) c.self.view_is
