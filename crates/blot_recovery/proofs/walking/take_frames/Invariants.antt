use Rattle.std.proofs.Common.{◌≡◌, ℕ, ◌+◌, List, ◌++◌, length}
use Rattle.blot_recovery.specs.Walking.{IsTakenTo}
use Rattle.blot_recovery.proofs.walking.take_frames.Given as goal

abbrev pub invariant-loop-size : goal.invariant-loop-size
invariant-loop-size g l = record {
  clean : l.reader.skipped ≡ 0;
  place_is : l.place + length l.reader.unread ≡ l.fn.place + length l.fn.reader.unread;
  taken : (first : _) (text behind : List ℕ) → IsTakenTo g.T.Takes.After first text (l.fn.reader.unread ++ behind) l.fn.place l.fn.taker
      → IsTakenTo g.T.Takes.After first text (l.reader.unread ++ behind) l.place l.taker;
}

abbrev pub decreases-loop-size : goal.decreases-loop-size
decreases-loop-size g l = length l.reader.unread
