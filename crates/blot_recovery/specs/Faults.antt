-- What is said of a text that isn't taken up.
use Rattle.std.specs.Prelude.{◌≡◌, ◌⊎◌, ℕ, ℤ, List, [], ◌++◌, length, Option, Some, IfSome}
use Rattle.blot_tag.specs.Frames.{BeginsWithFrame, IsFrame}
use Rattle.blot_tag.specs.Joined.{IsWhole}
use Rattle.blot_journal.specs.declared.device.DeviceFault.{DeviceFault}
use Rattle.blot_journal.specs.declared.device.DeviceFault.TheVariants as device
use Rattle.blot_diary.specs.Beginnings.{beginning_of}
use Rattle.blot_diary.specs.declared.kept.Beginning.{Beginning}
use Rattle.blot_recovery.specs.declared.fault.RecoverFault.{RecoverFault}
use Rattle.blot_recovery.specs.declared.fault.RecoverFault.TheVariants.{NoMemory, Unreadable, Another, Unlisted, Damaged}

-- the fault of a device that a text is read from
abbrev pub told_by_text : DeviceFault → RecoverFault
told_by_text device.NoMemory = NoMemory
told_by_text device.Failed = Unreadable

-- no whole frame begins at this place of a text, and all before it is whole frames that stand. Nothing is left there only where the text is empty.
pub record HasNoFrame (Stands : List ℕ → Type 0) (text : List ℕ) (place : ℕ) : Type 0 where
  pub before : List ℕ
  pub left : List ℕ
  pub joined : text ≡ before ++ left
  pub place_is : place ≡ length before
  pub whole : IsWhole before
  pub stands : Stands before
  pub none : BeginsWithFrame left → ⊥
  pub some : left ≡ [] → text ≡ []

-- the frame at this place is refused for a fault, and all before it is whole frames that stand
pub record HasRefused (Stands : List ℕ → Type 0) (Refuses : List ℕ → List ℕ → RecoverFault → Type 0) (text : List ℕ) (place : ℕ) (fault : RecoverFault) : Type 0 where
  pub before : List ℕ
  pub frame : List ℕ
  pub behind : List ℕ
  pub joined : text ≡ before ++ (frame ++ behind)
  pub place_is : place ≡ length before
  pub whole : IsWhole before
  pub stands : Stands before
  pub valid : IsFrame frame
  pub refuses : Refuses before frame fault

-- what a fault says of a text: it begins otherwise than was asked for, or it stands as far as a place, and what is there doesn't
abbrev pub IsFaultOf : (Beginning → Type 0) → (List ℕ → Type 0) → (List ℕ → List ℕ → RecoverFault → Type 0) → List ℕ → RecoverFault → Type 0
IsFaultOf IsOther Stands Refuses text (Another found) = IsOther found
IsFaultOf IsOther Stands Refuses text (Damaged place) = HasNoFrame Stands text place ⊎ HasRefused Stands Refuses text place (Damaged place)
IsFaultOf IsOther Stands Refuses text (Unlisted peer) = (place : ℕ) × HasRefused Stands Refuses text place (Unlisted peer)
IsFaultOf IsOther Stands Refuses text fault = Unit {0}

-- a fault that says nothing of a text
abbrev pub IsOfNoText : RecoverFault → Type 0
IsOfNoText NoMemory = Unit {0}
IsOfNoText Unreadable = Unit {0}
IsOfNoText fault = ⊥

-- a fault that stands at this place, if it has one, and isn't that of another beginning
abbrev pub IsHere : ℕ → RecoverFault → Type 0
IsHere place (Another found) = ⊥
IsHere place (Damaged at) = at ≡ place
IsHere place fault = Unit {0}

-- a beginning of this blotter's, and of the day that is wanted, if one is
pub record IsWanted (own : List ℕ) (day : Option ℤ) (found : Beginning) : Type 0 where
  pub own_is : found.own ≡ own
  pub day_is : IfSome day (λ wanted. found.day ≡ wanted)

-- a text begins so, and that isn't what is wanted
pub record BeginsOtherwise (own : List ℕ) (day : Option ℤ) (text : List ℕ) (found : Beginning) : Type 0 where
  pub begins : beginning_of text ≡ Some found
  pub unwanted : IsWanted own day found → ⊥
