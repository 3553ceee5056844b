-- A day that is opened over a file.
use Rattle.std.specs.Prelude.{◌≡◌, ℕ, ℤ, Bool, true, false, List, [], Option, Some, All, option_to_list}
use Rattle.blot_tag.specs.Fields.{fields_of}
use Rattle.blot_tag.specs.Frames.{IsFrame}
use Rattle.blot_desk.specs.Desk.{IsRun, events_of}
use Rattle.blot_desk.specs.Keeping.{kept_events}
use Rattle.blot_journal.specs.File.{text_of}
use Rattle.blot_journal.specs.Recovery.{IsFaultOf as IsFaultOfFile, trimmed}
use Rattle.blot_journal.specs.declared.journal.JournalFault.{JournalFault}
use Rattle.blot_journal.specs.declared.journal.JournalFault.TheVariants as writing
use Rattle.blot_journal.specs.declared.recovery.RecoveryFault.TheVariants as reading
use Rattle.blot_diary.specs.declared.kept.Content.TheVariants.{Beginning}
use Rattle.blot_diary.specs.Diary.{desk_events}
use Rattle.blot_diary.specs.Keeping.{kept_of}
use Rattle.blot_diary.specs.Records.{keeps}
use Rattle.blot_recovery.specs.declared.{fault.RecoverFault.RecoverFault, opening.OpenFault.OpenFault, recovering.Recovered.Recovered}
use Rattle.blot_recovery.specs.declared.opening.OpenFault.TheVariants.{File, Text, Write}
use Rattle.blot_recovery.specs.Parties.{AreKeptOperators, IsFirst, IsKeptPeer, operator_names}
use Rattle.blot_recovery.specs.Refusals.{IsRecoverFault}
use Rattle.blot_recovery.specs.Taking.{names_of}

-- a text is one frame, the beginning of a journal of this blotter and day
pub record IsBeginning (own : List ℕ) (day : ℤ) (text : List ℕ) : Type 0 where
  pub valid : IsFrame text
  pub kept : kept_of (fields_of text) ≡ Some (keeps own own 1 (Beginning day))

-- a day has the text that was found, and its beginning where none was
pub record OpensWith (own : List ℕ) (day : ℤ) (found text : List ℕ) : Type 0 where
  pub new : found ≡ [] → IsBeginning own day text
  pub same : (found ≡ [] → ⊥) → text ≡ found

-- the text of a day is refused for a fault, with these peers listed, and this operator, if one is named
pub record IsRefused (own : List ℕ) (day : ℤ) (peers : List (List ℕ)) (operator : Option (List ℕ)) (found : List ℕ) (fault : RecoverFault) : Type 0 where
  pub text : List ℕ
  pub opens : OpensWith own day found text
  pub fault_is : IsRecoverFault own (Some day) peers (option_to_list operator) text fault

-- what a fault of a write says of the text that was found: Full comes only where none was, and Broken never
abbrev pub IsWriteFault : List ℕ → JournalFault → Type 0
IsWriteFault found writing.Full = found ≡ []
IsWriteFault found writing.Broken = ⊥
IsWriteFault found fault = Unit {0}

-- what a fault says of the text that was found
abbrev pub IsTextFault : List ℕ → ℤ → List (List ℕ) → Option (List ℕ) → List ℕ → OpenFault → Type 0
IsTextFault own day peers operator found (File fault) = ⊥
IsTextFault own day peers operator found (Text fault) = IsRefused own day peers operator found fault
IsTextFault own day peers operator found (Write fault) = IsWriteFault found fault

-- what a fault says of a file
abbrev pub IsOpenFault : List ℕ → ℤ → List (List ℕ) → Option (List ℕ) → List ℕ → OpenFault → Type 0
IsOpenFault own day peers operator file (File fault) = IsFaultOfFile file fault
IsOpenFault own day peers operator file (Text fault) = IsTextFault own day peers operator (text_of file) (Text fault)
IsOpenFault own day peers operator file (Write fault) = IsTextFault own day peers operator (text_of file) (Write fault)

-- what holds of a file that is refused, by itself or by its text
abbrev pub IfRefused : OpenFault → Type 0 → Type 0
IfRefused (File fault) P = P
IfRefused (Text fault) P = P
IfRefused (Write fault) P = Unit {0}

-- whether a fault says that the disk failed
abbrev pub is_of_disk : OpenFault → Bool
is_of_disk (File reading.Failed) = true
is_of_disk (Write writing.Failed) = true
is_of_disk fault = false

-- the file of a day that is opened: nothing stands behind its text, and where it had one nothing else was changed
pub record IsOpened (old new : List ℕ) : Type 0 where
  pub trimmed_is : trimmed new ≡ new
  pub same : (text_of old ≡ [] → ⊥) → new ≡ trimmed old

-- a text is taken up: the desk is the run of its events, and each party is as it leaves it
pub record IsRecovered {L : Type 0} (own : List ℕ) (names : List (List ℕ)) (operator : Option (List ℕ)) (text : List ℕ) (recovered : Recovered L) : Type 0 where
  pub events : events_of recovered.opening.history ≡ desk_events text
  pub run : IsRun recovered.opening
  pub kept : kept_events recovered.opening.history ≡ desk_events text
  pub listed : names_of recovered.peers.items ≡ names
  pub peers : All (IsKeptPeer own text) recovered.peers.items
  pub operators : AreKeptOperators text recovered.operators
  pub first : IsFirst operator (operator_names recovered.operators.named.items)
