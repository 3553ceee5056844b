use Rattle.blot_chain.proofs.IndexLemmas.{same-indexed}
use Rattle.blot_chain.proofs.index.Index.reach.Goals as goal

pub returns-clause-same : goal.returns-clause-same
returns-clause-same c = same-indexed c.args.self.now _ (record { same = c.reach.ensures.same; keeps = c.reach.ensures.places })
