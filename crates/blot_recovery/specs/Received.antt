-- The frames that a journal received.
use Rattle.std.specs.Prelude.{◌≡◌, ◌⊎◌, ℕ, ℤ, true, false, List, [], Option, Some, None, unwrap_or, if◌then◌else◌, flat_map}
use Rattle.blot_tag.specs.Fields.{Item, fields_of}
use Rattle.blot_tag.specs.Walking.{frames_of}
use Rattle.blot_types.specs.Keys.{same_text}
use Rattle.blot_fields.specs.First.{first_value}
use Rattle.blot_diary.specs.declared.{kept.Content.Content, kept.Kept.Kept}
use Rattle.blot_diary.specs.declared.kept.Content.TheVariants as contents
use Rattle.blot_diary.specs.Beginnings.{beginning_of, begun_by}
use Rattle.blot_diary.specs.Keeping.{kept_of}
use Rattle.blot_recovery.specs.declared.{receiving.Receiving.Receiving, fault.RecoverFault.RecoverFault}
use Rattle.blot_recovery.specs.declared.fault.RecoverFault.TheVariants.{Unlisted, Damaged}
use Rattle.blot_recovery.specs.Faults.{BeginsOtherwise, IsFaultOf}
use Rattle.blot_recovery.specs.Taking.{begun_on}

-- what a record of the blotter's own wraps: the field RawData of a 35=UR
abbrev pub wrapped_in : Content → List Item → List ℕ
wrapped_in contents.Wrapped items = unwrap_or (first_value 96 items) []
wrapped_in content items = []

-- what was received by a frame, by what it keeps: itself, unless it is the blotter's, and else what it wraps
abbrev pub received_by : List ℕ → List ℕ → Option Kept → List ℕ
received_by own frame None = []
received_by own frame (Some kept) = if same_text kept.from own then wrapped_in kept.content (fields_of frame) else frame

abbrev pub received_in : List ℕ → List ℕ → List ℕ
received_in own frame = received_by own frame (kept_of (fields_of frame))

-- what was received by the frames of a text, one behind the other
abbrev pub received_of : List ℕ → List ℕ → List ℕ
received_of own text = flat_map (received_in own) (frames_of text)

-- a text is a journal of this blotter
pub record IsJournalOf (own text : List ℕ) : Type 0 where
  pub day : ℤ
  pub begins : beginning_of text ≡ Some (begun_on own day)

-- what was received by the frames of a text, once the first was taken
pub record HasReceived (first : Receiving) (text : List ℕ) (now : Receiving) : Type 0 where
  pub own_is : now.own ≡ first.own
  pub received_is : now.received.items ≡ received_of first.own text
  pub begun : now.begun ≡ true → IsJournalOf first.own text
  pub nothing : now.begun ≡ false → text ≡ []

-- ---- a text that isn't a journal

-- a journal isn't begun with this frame, or it keeps nothing
abbrev pub begins_none : Option Kept → Type 0
begins_none None = Unit {0}
begins_none (Some kept) = begun_by kept ≡ None

-- the next frame damages a text: it is no message without a fault, or it is the first and begins no journal
abbrev pub IsReceiveDamage : List ℕ → List ℕ → Type 0
IsReceiveDamage before frame = (kept_of (fields_of frame) ≡ None) ⊎ ((before ≡ []) × begins_none (kept_of (fields_of frame)))

-- no frame is of an unlisted peer
abbrev pub RefusesReceived : List ℕ → List ℕ → RecoverFault → Type 0
RefusesReceived before frame (Damaged place) = IsReceiveDamage before frame
RefusesReceived before frame (Unlisted peer) = ⊥
RefusesReceived before frame fault = Unit {0}

-- a text is empty, or a journal of this blotter
abbrev pub MayBeReceived : List ℕ → List ℕ → Type 0
MayBeReceived own text = (text ≡ [] → ⊥) → IsJournalOf own text

-- what a fault says of a text
abbrev pub IsReceiveFault : List ℕ → List ℕ → RecoverFault → Type 0
IsReceiveFault own text fault = IsFaultOf (BeginsOtherwise own None text) (MayBeReceived own) RefusesReceived text fault

-- what is received so far refuses a frame
abbrev pub RefusesReceiving : Receiving → List ℕ → RecoverFault → Type 0
RefusesReceiving now frame (Damaged place) = (kept_of (fields_of frame) ≡ None) ⊎ ((now.begun ≡ false) × begins_none (kept_of (fields_of frame)))
RefusesReceiving now frame (Unlisted peer) = ⊥
RefusesReceiving now frame fault = Unit {0}
