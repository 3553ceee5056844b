use Rattle.std.proofs.Common.{ap, sym, ◌∙◌, option_copied}
use Rattle.blot_chain.proofs.StandingLemmas.{version-told}
use Rattle.blot_chain.proofs.chains.Chains.standing_version.Goals as goal

pub returns-in_err-get : goal.returns-in_err-get
returns-in_err-get c =
    let there = sym (ap option_copied c.in_err-get.was) ∙ c.get.ensures in
    c.from_residual.ensures ∙ version-told c.self.inside.index c.self.inside.slots.items c.args.self.now c.self.invariant c.self.view_is c.args.root.now _ there

pub returns : goal.returns
returns c =
    let there = sym (ap option_copied c.in_ok-get.was) ∙ c.get.ensures in
    let told = rw c.deref.ensures.value at c.standing_at.ensures in
    told ∙ version-told c.self.inside.index c.self.inside.slots.items c.args.self.now c.self.invariant c.self.view_is c.args.root.now _ there
