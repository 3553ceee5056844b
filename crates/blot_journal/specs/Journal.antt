-- An open journal.
use Rattle.std.specs.Prelude.{ℕ, ◌+◌, ◌-◌, ◌<◌, ◌≤◌, ◌^◌, min, Bool, true, false, List, ◌++◌, length, map, take}
use Rattle.std.specs.Borrow.{Bor}
use Rattle.std.specs.List.{concat}
use Rattle.blot_journal.specs.Device.{Only}
use Rattle.blot_journal.specs.File.{HasHead, Stands, text_of}
use Rattle.blot_journal.specs.declared.{device.DeviceFault.DeviceFault, journal.JournalFault.JournalFault}
use Rattle.blot_journal.specs.declared.device.DeviceFault.TheVariants as device
use Rattle.blot_journal.specs.declared.journal.JournalFault.TheVariants.{NoMemory, Failed}

-- what a contract sees of a journal: its file, what waits to be made durable, whether a sync has failed, and for how many bytes
-- more there is room
pub record Open (D : Type 0) : Type 0 where
  pub device : D
  pub waiting : List ℕ
  pub is_broken : Bool
  pub room : ℕ

-- the text that is durable, where no sync has failed
abbrev pub text_in_journal : {D : Type 0} → (D → List ℕ) → Open D → List ℕ
text_in_journal seen journal = text_of (seen journal.device)

-- a broken journal has room for nothing; another has what its memory has, up to the longest text
abbrev pub room_of : Bool → ℕ → ℕ → ℕ → ℕ
room_of true size waiting spare = 0
room_of false size waiting spare = min spare (2 ^ 40 - (size + waiting))

-- what a journal keeps between its calls until a sync fails: its file has the head that it knows, and is on the disk
pub record IsOpen {D : Type 0} (seen : D → List ℕ) (may_leave : D → List ℕ → Type 0) (device : D) (second : Bool) (size waiting : ℕ) : Type 0 where
  pub head : HasHead second size (seen device)
  pub durable : Only (seen device) (may_leave device)
  pub fits : size + 4096 < 2 ^ 64
  pub few : 0 < waiting → size + waiting ≤ 2 ^ 40

-- the fault of a device, told by a journal
abbrev pub told_by_journal : DeviceFault → JournalFault
told_by_journal device.NoMemory = NoMemory
told_by_journal device.Failed = Failed

-- the bytes of batches
abbrev pub contents : List (Bor (List ℕ)) → List (List ℕ)
contents batches = map (λ batch. batch.now) batches

-- a file stands for a text with the first of some batches behind it, so many of them or more, each of them whole
pub record StandsAmong (text : List ℕ) (batches : List (List ℕ)) (least : ℕ) (file : List ℕ) : Type 0 where
  pub count : ℕ
  pub enough : least ≤ count
  pub few : count ≤ length batches
  pub stands : Stands (text ++ concat (take count batches)) file
