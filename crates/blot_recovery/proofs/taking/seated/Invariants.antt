use Rattle.std.proofs.Common.{◌≡◌, ◌+◌, ℕ, List, [], length, take, All}
use Rattle.std.specs.Vec.Iter.{into_iter_items, into_iter_len}
use Rattle.blot_recovery.specs.Parties.{IsKeptPeer}
use Rattle.blot_recovery.specs.Taking.{names_of}
use Rattle.blot_recovery.proofs.taking.seated.Given as goal

abbrev pub invariant-loop-peer : goal.invariant-loop-peer
invariant-loop-peer g l = record {
  count : into_iter_len l.seats + l.peer-index ≡ length l.fn.peers;
  empty : All (λ receipts. receipts ≡ []) (into_iter_items l.seats);
  listed : names_of l.seated.items ≡ take l.peer-index l.fn.peers;
  kept : (own : List ℕ) → All (IsKeptPeer own []) l.seated.items;
}
