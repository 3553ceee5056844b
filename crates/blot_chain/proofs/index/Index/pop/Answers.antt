use Rattle.blot_chain.proofs.IndexLemmas.{chain-taken, first-taken}
use Rattle.blot_chain.proofs.index.Index.pop.Goals as goal

pub returns-then-begins : goal.returns-then-begins
returns-then-begins c =
    first-taken c.args.slot.now c.args.key.now c.args.self.now _ (c.begins.ensures c.if-begins.true) c.requires c.pop.ensures.takes c.pop.ensures.places

pub returns : goal.returns
returns c =
    chain-taken c.args.slot.now c.args.key.now c.args.self.now (record { cells = c.pop-2.new.self }) _ c.requires c.pop-2.ensures.takes c.pop-2.ensures.places
    (rw (c.relation_in_chain.ensures, c.root.ensures) at c.pop-3.ensures.takes) c.pop-3.ensures.places
