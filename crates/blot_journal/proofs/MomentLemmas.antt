-- How a run of calls of a device goes on.
use Rattle.std.proofs.Common.{inl, inr, ⊎_elim, ℕ, List, arith}
use Rattle.blot_journal.specs.Device.{Elapses, LeavesOnly}

module _ {D : Type 0} (moment : D → ℕ) (left_since : D → ℕ → List ℕ → Type 0) where
  -- before the first call
  pub started : (old : D) (P : List ℕ → Type 0) → ((file : List ℕ) → left_since old (moment old) file → P file) → LeavesOnly moment left_since old old P
  started old P here = record { later = omega arith; each = here; before = λ start file le left. inl left }

  -- one call more, after which a crash leaves what has P
  pub goes_on : (old mid new : D) (P may_leave : List ℕ → Type 0) → LeavesOnly moment left_since old mid P → Elapses (moment mid) (moment new) (left_since mid) (left_since new) may_leave
      → ((file : List ℕ) → may_leave file → P file) → LeavesOnly moment left_since old new P
  goes_on old mid new P may_leave so_far time here = record {
    later = omega (arith, so_far.later, time.later);
    each = λ file left. ⊎_elim (so_far.each file) (here file) (time.nothing_else (moment old) file so_far.later left);
    before = λ start file le left. ⊎_elim (so_far.before start file le) (λ now. inr (here file now)) (time.nothing_else start file (omega (arith, le, so_far.later)) left);
  }

  -- some calls more, after which a crash leaves what has Q
  pub and_then : (old mid new : D) (P Q : List ℕ → Type 0) → LeavesOnly moment left_since old mid P → LeavesOnly moment left_since mid new Q
      → ((file : List ℕ) → Q file → P file) → LeavesOnly moment left_since old new P
  and_then old mid new P Q first second so = record {
    later = omega (arith, first.later, second.later);
    each = λ file left. ⊎_elim (first.each file) (so file) (second.before (moment old) file first.later left);
    before = λ start file le left. ⊎_elim (first.before start file le) (λ now. inr (so file now)) (second.before start file (omega (arith, le, first.later)) left);
  }

  pub weaker : (old new : D) (P Q : List ℕ → Type 0) → LeavesOnly moment left_since old new P → ((file : List ℕ) → P file → Q file) → LeavesOnly moment left_since old new Q
  weaker old new P Q leaves so = record {
    later = leaves.later;
    each = λ file left. so file (leaves.each file left);
    before = λ start file le left. ⊎_elim inl (λ has. inr (so file has)) (leaves.before start file le left);
  }
