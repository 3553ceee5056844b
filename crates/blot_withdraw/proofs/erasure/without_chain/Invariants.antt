use Rattle.std.proofs.Common.{◌≡◌, [], take, not, filter}
use Rattle.blot_withdraw.specs.Erasure.{is_of_chain}
use Rattle.blot_withdraw.proofs.erasure.without_chain.Given as goal

abbrev pub invariant-loop-entry : goal.invariant-loop-entry
invariant-loop-entry l = record {
  list : l.tables.list ≡ filter (λ entry. not (is_of_chain l.list l.root entry)) (take l.entry-index l.list);
  none_kept : l.tables.kept ≡ [];
}
