-- The syncs of a desk, one at a time. What is kept is counted, and a sync makes durable what was kept before it.
use Rattle.std.specs.Prelude.{ℕ, ◌&&◌, nat_lt, Bool}

-- how much was kept before the last sync that ended, and whether one goes on
pub record Syncing : Type 0 where
  pub durable : ℕ
  pub goes_on : Bool

-- whether so much isn't durable yet, and a sync goes on
abbrev pub waits : ℕ → Syncing → Bool
waits count syncs = nat_lt syncs.durable count && syncs.goes_on
