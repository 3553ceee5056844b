use Rattle.std.proofs.Common.{reverse}
use Rattle.blot_chain.proofs.HoldsLemmas.{held-last, pops-last}
use Rattle.blot_chain.proofs.chains.Chains.pop_link.Goals as goal

pub invariant_of-self : goal.invariant_of-self
invariant_of-self c =
    held-last c.self.inside.index c.args.key.now c.args.role c.self.inside.slots.items c.pop.new.self.items c.in-Some.slot c.in-Some.ensures.items
    c.pop-2.new.self c.args.self.now c.self.invariant c.self.view_is c.requires.newest (c.pop-2.ensures (reverse c.pop.new.self.items))

pub pop-requires-2 : goal.pop-requires-2
pop-requires-2 c =
    (pops-last c.self.inside.index c.args.key.now c.args.role c.self.inside.slots.items c.pop.new.self.items c.in-Some.slot c.in-Some.ensures.items
    c.args.self.now c.self.invariant c.self.view_is c.requires.newest).keyed

pub returns-clause-adds : goal.returns-clause-adds
returns-clause-adds c =
    (pops-last c.self.inside.index c.args.key.now c.args.role c.self.inside.slots.items c.pop.new.self.items c.in-Some.slot c.in-Some.ensures.items
    c.args.self.now c.self.invariant c.self.view_is c.requires.newest).adds

pub returns-clause-kept : goal.returns-clause-kept
returns-clause-kept c =
    (pops-last c.self.inside.index c.args.key.now c.args.role c.self.inside.slots.items c.pop.new.self.items c.in-Some.slot c.in-Some.ensures.items
    c.args.self.now c.self.invariant c.self.view_is c.requires.newest).kept
