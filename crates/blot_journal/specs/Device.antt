-- A file on a disk: what its calls do to it, and what a crash may leave of them.
use Rattle.std.specs.Prelude.{◌≡◌, ◌⊎◌, ℕ, ◌+◌, ◌<◌, ◌≤◌, max, min, List, ◌++◌, length, take, drop, Result, IsErrOf}
use Rattle.blot_journal.specs.declared.{device.DeviceFault.DeviceFault, device.DeviceFault.TheVariants.Failed}

-- a file with these bytes written at this place
abbrev pub HasWritten : List ℕ → ℕ → List ℕ → List ℕ → Type 0
HasWritten old at bytes new = new ≡ take at old ++ bytes ++ drop (at + length bytes) old

-- a write of so many bytes that a crash cut short: any bytes in its range and past the old end, and all else as it was
pub record Torn (at count : ℕ) (old new : List ℕ) : Type 0 where
  pub before : take at new ≡ take at old
  pub after : drop (at + count) new ≡ drop (at + count) old
  pub no_shorter : length old ≤ length new
  pub no_longer : length new ≤ max (length old) (at + count)

-- a cut that a crash cut short: some length between. What was shorter, since an earlier write was lost, stays so
pub record Cut (size : ℕ) (old new : List ℕ) : Type 0 where
  pub no_shorter : min size (length old) ≤ length new
  pub front : take (length new) old ≡ new

-- what a crash may leave now is what it might have left before, and a step
abbrev pub Follows : (List ℕ → List ℕ → Type 0) → (List ℕ → Type 0) → (List ℕ → Type 0) → Type 0
Follows step old new = (file : List ℕ) → new file → (earlier : List ℕ) × old earlier × step earlier file

-- a crash leaves this file and nothing else
abbrev pub Only : List ℕ → (List ℕ → Type 0) → Type 0
Only seen may_leave = (file : List ℕ) → may_leave file → file ≡ seen

-- time goes on: a crash since a moment might have left what it might have left before, or what it may leave now
pub record Elapses (before now : ℕ) (past since : ℕ → List ℕ → Type 0) (may_leave : List ℕ → Type 0) : Type 0 where
  pub later : before ≤ now
  pub nothing_else : (moment : ℕ) (file : List ℕ) → moment ≤ before → since moment file → past moment file ⊎ may_leave file
  pub keeps : (moment : ℕ) (file : List ℕ) → moment ≤ before → past moment file → since moment file

-- a crash at any moment from old to new leaves a file that has P
pub record LeavesOnly {D : Type 0} (moment : D → ℕ) (left_since : D → ℕ → List ℕ → Type 0) (old new : D) (P : List ℕ → Type 0) : Type 0 where
  pub later : moment old ≤ moment new
  pub each : (file : List ℕ) → left_since new (moment old) file → P file
  -- for a run that began earlier
  pub before : (start : ℕ) (file : List ℕ) → start ≤ moment old → left_since new start file → left_since old start file ⊎ P file

-- a call says that it failed only where the disk has failed
pub record HasCause {T : Type 0} (before now : ℕ) (result : Result T DeviceFault) : Type 0 where
  pub later : before ≤ now
  pub failed : IsErrOf result Failed → before < now
