-- The frames of a text, taken one by one.
use Rattle.std.specs.Prelude.{◌≡◌, ℕ, List, ◌++◌, length}
use Rattle.blot_tag.specs.Joined.{IsWhole}
use Rattle.blot_diary.specs.declared.kept.Beginning.{Beginning}
use Rattle.blot_recovery.specs.declared.fault.RecoverFault.{RecoverFault}
use Rattle.blot_recovery.specs.Faults.{IsFaultOf}

-- so far as this place the frames of a text are taken, which are whole, and this is left of it
pub record IsTakenTo {T : Type 0} (After : T → List ℕ → T → Type 0) (first : T) (text left : List ℕ) (place : ℕ) (now : T) : Type 0 where
  pub before : List ℕ
  pub whole : IsWhole before
  pub joined : text ≡ before ++ left
  pub place_is : place ≡ length before
  pub after : After first before now

-- some frames are taken, by what takes them
pub record IsTakenBy {T : Type 0} (After : T → List ℕ → T → Type 0) (first : T) (before : List ℕ) : Type 0 where
  pub now : T
  pub after : After first before now

-- and what takes them refuses the next
pub record RefusesBehind {T : Type 0} (After : T → List ℕ → T → Type 0) (Refuses : T → List ℕ → RecoverFault → Type 0) (first : T) (before frame : List ℕ) (fault : RecoverFault) : Type 0 where
  pub now : T
  pub after : After first before now
  pub refuses : Refuses now frame fault

-- what a fault says of a text whose frames are taken
abbrev pub IsFaultIn : {T : Type 0} → (T → List ℕ → T → Type 0) → (T → List ℕ → Beginning → Type 0) → (T → List ℕ → RecoverFault → Type 0) → T → List ℕ → RecoverFault → Type 0
IsFaultIn After IsOther Refuses first text fault = IsFaultOf (IsOther first text) (IsTakenBy After first) (RefusesBehind After Refuses first) text fault
