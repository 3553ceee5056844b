use Rattle.std.proofs.Common.{◌≡◌, drop, find}
use Rattle.blot_withdraw.specs.Erasure.{lists_chain}
use Rattle.blot_withdraw.proofs.chain.first_listing.Given as goal

abbrev pub invariant-loop-entry : goal.invariant-loop-entry
invariant-loop-entry l = find (lists_chain l.list l.root) (drop l.entry-index l.list) ≡ find (lists_chain l.list l.root) l.list
