-- What is said of a file that is taken up, or isn't.
use Rattle.std.specs.Prelude.{◌≡◌, ◌⊎◌, ℕ, ◌+◌, ◌<◌, ◌≤◌, Bool, true, false, List, length, take}
use Rattle.blot_journal.specs.Device.{LeavesOnly}
use Rattle.blot_journal.specs.File.{IsJournal, IsWhole, Stands, is_second, signature, signed_in, size_in, text_of}
use Rattle.blot_journal.specs.declared.{device.DeviceFault.DeviceFault, recovery.RecoveryFault.RecoveryFault}
use Rattle.blot_journal.specs.declared.device.DeviceFault.TheVariants as device
use Rattle.blot_journal.specs.declared.recovery.RecoveryFault.TheVariants.{NoMemory, Failed, NoJournal, Damaged}

-- the fault of a device, told by a recovery
abbrev pub told_fault : DeviceFault → RecoveryFault
told_fault device.NoMemory = NoMemory
told_fault device.Failed = Failed

-- what a fault says of a file: it has no head of a journal, or it has one and ends here, before its text does
abbrev pub IsFaultOf : List ℕ → RecoveryFault → Type 0
IsFaultOf file NoJournal = IsJournal file → ⊥
IsFaultOf file (Damaged end) = IsJournal file × (end ≡ length file) × (IsWhole file → ⊥)
IsFaultOf file fault = Unit {0}

-- what the head of a file of this length says of it
pub record IsCounted (head : List ℕ) (len : ℕ) (second : Bool) (size : ℕ) : Type 0 where
  pub second_is : second ≡ is_second head
  pub size_is : size ≡ size_in second head
  pub signed : signed_in head ≡ signature
  pub room : size + 4096 ≤ len

-- or why it says nothing
abbrev pub IsHeadFault : List ℕ → ℕ → RecoveryFault → Type 0
IsHeadFault head len NoJournal = signed_in head ≡ signature → ⊥
IsHeadFault head len (Damaged end) = (signed_in head ≡ signature) × (end ≡ len) × (len < size_in (is_second head) head + 4096)
IsHeadFault head len fault = ⊥

-- whether a fault is the file's, and not that of the memory or the disk
abbrev pub is_of_file : RecoveryFault → Bool
is_of_file NoJournal = true
is_of_file (Damaged end) = true
is_of_file fault = false

-- a crash leaves the file as it is read, or what a crash might have left before
abbrev pub IsOrWas : List ℕ → (List ℕ → Type 0) → List ℕ → Type 0
IsOrWas seen may_leave file = (file ≡ seen) ⊎ may_leave file

-- a file is left as it was, bytes and all
pub record IsLeft {D : Type 0} (seen : D → List ℕ) (may_leave : D → List ℕ → Type 0) (moment : D → ℕ) (left_since : D → ℕ → List ℕ → Type 0) (old new : D) : Type 0 where
  pub seen_is : seen new ≡ seen old
  pub any_moment : LeavesOnly moment left_since old new (IsOrWas (seen old) (may_leave old))

-- a file without what stands behind its text
abbrev pub trimmed : List ℕ → List ℕ
trimmed file = take (4096 + length (text_of file)) file

-- a file was cut somewhere behind its text
pub record IsCutBehind (old file : List ℕ) : Type 0 where
  pub front : take (length file) old ≡ file
  pub stands : Stands (text_of old) file
