-- Which frames of a text aren't taken up.
use Rattle.std.specs.Prelude.{◌≡◌, ◌⊎◌, ℕ, ℤ, false, List, [], length, Option, None, Some, IsSome, if◌then◌else◌, All}
use Rattle.std.specs.List.{list_any}
use Rattle.blot_tag.specs.Fields.{fields_of}
use Rattle.blot_types.specs.Keys.{same_text}
use Rattle.blot_types.specs.declared.TheConstants.{EVENTS_MAX}
use Rattle.blot_desk.specs.Desk.{DeskState}
use Rattle.blot_diary.specs.declared.{kept.Beginning.Beginning, kept.Kept.Kept, kept.Noted.Noted}
use Rattle.blot_diary.specs.Beginnings.{beginning_of, begun_by}
use Rattle.blot_diary.specs.Diary.{desk_events}
use Rattle.blot_diary.specs.Events.{noted_of}
use Rattle.blot_diary.specs.Keeping.{kept_of}
use Rattle.blot_recovery.specs.declared.{fault.RecoverFault.RecoverFault, operators.KeptOperators.KeptOperators, operators.TheConstants.OPERATOR_SEATS, taking.Taking.Taking}
use Rattle.blot_recovery.specs.declared.fault.RecoverFault.TheVariants.{NoMemory, Unlisted, Damaged}
use Rattle.blot_recovery.specs.Faults.{BeginsOtherwise, IsFaultOf, IsWanted}
use Rattle.blot_recovery.specs.Parties.{AreDifferent, HasSeat, operator_names}
use Rattle.blot_recovery.specs.Taking.{AreApart, AreInPlace, IsAskedBy, IsInPlace, IsOfParty, names_of}

-- ---- a frame

-- a frame begins a journal of this blotter, and of the day that is wanted, if one is: it is a 35=UD from the blotter to itself
pub record BeginsIts (own : List ℕ) (day : Option ℤ) (frame : List ℕ) : Type 0 where
  pub kept : Kept
  pub found : Beginning
  pub keeps : kept_of (fields_of frame) ≡ Some kept
  pub begins : begun_by kept ≡ Some found
  pub wanted : IsWanted own day found
  pub to_is : kept.to ≡ own

-- the other party of a frame: who the blotter sent it to, and who sent any other
abbrev pub other_of : List ℕ → Kept → List ℕ
other_of own kept = if same_text kept.from own then kept.to else kept.from

-- a frame is one of this peer or to it, which isn't listed, and isn't the blotter
pub record IsOfUnlisted (own : List ℕ) (peers : List (List ℕ)) (kept : Kept) (peer : List ℕ) : Type 0 where
  pub other_is : other_of own kept ≡ peer
  pub unlisted : list_any (same_text peer) peers ≡ false
  pub foreign : peer ≡ own → ⊥

-- a frame is an event of an operator who has no seat, and all seats are others'
pub record HasNoSeat (named : List (List ℕ)) (before : List ℕ) (kept : Kept) : Type 0 where
  pub name : List ℕ
  pub others : List (List ℕ)
  pub asked : IsAskedBy name kept.content
  pub new : list_any (same_text name) others ≡ false
  pub count : length others ≡ OPERATOR_SEATS
  pub apart : AreDifferent others
  pub seated : All (HasSeat named before) others

-- a frame brings an event, and a desk has as many as it takes
pub record IsOneTooMany (events : ℕ) (noted : Option Noted) : Type 0 where
  pub full : events ≡ EVENTS_MAX
  pub brings : noted ≡ None → ⊥

-- no seat is left for a frame, or no room at the desk
pub record FindsNoRoom (named : List (List ℕ)) (before frame : List ℕ) : Type 0 where
  pub kept : Kept
  pub keeps : kept_of (fields_of frame) ≡ Some kept
  pub lacks : HasNoSeat named before kept ⊎ IsOneTooMany (length (desk_events before)) (noted_of kept)

-- why the next frame isn't taken up: the first doesn't begin the journal, one behind it isn't in its place, or there is no room for it
abbrev pub IsDamage : List ℕ → Option ℤ → List (List ℕ) → List (List ℕ) → List ℕ → List ℕ → Type 0
IsDamage own day peers named before frame =
    ((before ≡ []) × (BeginsIts own day frame → ⊥)) ⊎ (((before ≡ [] → ⊥) × (IsInPlace own peers frame → ⊥)) ⊎ FindsNoRoom named before frame)

-- it is of a peer that isn't listed
pub record BringsUnlisted (own : List ℕ) (peers : List (List ℕ)) (before frame peer : List ℕ) : Type 0 where
  pub behind : before ≡ [] → ⊥
  pub kept : Kept
  pub keeps : kept_of (fields_of frame) ≡ Some kept
  pub of : IsOfUnlisted own peers kept peer

-- the next frame isn't taken up for this fault
abbrev pub RefusesFrame : List ℕ → Option ℤ → List (List ℕ) → List (List ℕ) → List ℕ → List ℕ → RecoverFault → Type 0
RefusesFrame own day peers named before frame (Damaged place) = IsDamage own day peers named before frame
RefusesFrame own day peers named before frame (Unlisted peer) = BringsUnlisted own peers before frame peer
RefusesFrame own day peers named before frame fault = Unit {0}

-- ---- a text

-- a text is empty, or begins as it was asked for, and each frame behind the first is in its place
pub record StandsSoFar (own : List ℕ) (day : Option ℤ) (peers : List (List ℕ)) (text : List ℕ) : Type 0 where
  pub begins : (text ≡ [] → ⊥) → (found : Beginning) × (beginning_of text ≡ Some found) × IsWanted own day found
  pub in_place : AreInPlace own peers text

-- what a fault says of a text that isn't taken up, by who was named from the beginning
abbrev pub IsRecoverFault : List ℕ → Option ℤ → List (List ℕ) → List (List ℕ) → List ℕ → RecoverFault → Type 0
IsRecoverFault own day peers named text fault =
    IsFaultOf (BeginsOtherwise own day text) (StandsSoFar own day peers) (RefusesFrame own day peers named) text fault

-- ---- what is taken up so far

-- a desk refuses an event
abbrev pub IsOfDesk : DeskState → Option Noted → RecoverFault → Type 0
IsOfDesk desk noted (Damaged place) = IsOneTooMany (length desk.history) noted
IsOfDesk desk noted NoMemory = Unit {0}
IsOfDesk desk noted fault = ⊥

-- no seat is left for another operator
pub record LacksSeat {L : Type 0} (operators : KeptOperators L) (name : List ℕ) : Type 0 where
  pub none : operators.spare.items ≡ []
  pub new : list_any (same_text name) (operator_names operators.named.items) ≡ false

abbrev pub IsOfSeats : {L : Type 0} → KeptOperators L → List ℕ → RecoverFault → Type 0
IsOfSeats operators name (Damaged place) = LacksSeat operators name
IsOfSeats operators name NoMemory = Unit {0}
IsOfSeats operators name fault = ⊥

-- an operator's event is refused, by the seats or by the desk
abbrev pub IsOfOperators : {L : Type 0} → KeptOperators L → List ℕ → DeskState → Option Noted → RecoverFault → Type 0
IsOfOperators operators name desk noted (Damaged place) = LacksSeat operators name ⊎ IsOneTooMany (length desk.history) noted
IsOfOperators operators name desk noted NoMemory = Unit {0}
IsOfOperators operators name desk noted fault = ⊥

-- an event of an operator who lacks a seat
pub record AsksWithoutSeat {L : Type 0} (operators : KeptOperators L) (kept : Kept) : Type 0 where
  pub name : List ℕ
  pub asked : IsAskedBy name kept.content
  pub lacks : LacksSeat operators name

-- a frame isn't one of a party, where no two of the peers are one
abbrev pub IsMisplaced : {L : Type 0} → Taking L → Kept → Type 0
IsMisplaced taking kept = AreApart taking.own (names_of taking.peers.items) → IsOfParty taking.own (names_of taking.peers.items) kept → ⊥

-- a frame is of no party
abbrev pub IsOfNoParty : {L : Type 0} → Taking L → Kept → RecoverFault → Type 0
IsOfNoParty taking kept (Damaged place) = IsMisplaced taking kept
IsOfNoParty taking kept (Unlisted peer) = IsOfUnlisted taking.own (names_of taking.peers.items) kept peer
IsOfNoParty taking kept fault = ⊥

-- why a frame behind the first isn't taken
abbrev pub RefusesKept : {L : Type 0} → Taking L → Kept → RecoverFault → Type 0
RefusesKept taking kept (Damaged place) =
    IsMisplaced taking kept ⊎ (AsksWithoutSeat taking.operators kept ⊎ IsOneTooMany (length taking.opening.history) (noted_of kept))
RefusesKept taking kept (Unlisted peer) = IsOfUnlisted taking.own (names_of taking.peers.items) kept peer
RefusesKept taking kept fault = Unit {0}

-- such a frame
pub record RefusesBy {L : Type 0} (taking : Taking L) (frame : List ℕ) (fault : RecoverFault) : Type 0 where
  pub kept : Kept
  pub keeps : kept_of (fields_of frame) ≡ Some kept
  pub refuses : RefusesKept taking kept fault

-- why a frame isn't taken
abbrev pub RefusesNext : {L : Type 0} → Taking L → List ℕ → RecoverFault → Type 0
RefusesNext taking frame (Damaged place) =
    ((taking.begun ≡ None) × (BeginsIts taking.own taking.wanted frame → ⊥))
    ⊎ (IsSome taking.begun × ((kept_of (fields_of frame) ≡ None) ⊎ RefusesBy taking frame (Damaged place)))
RefusesNext taking frame (Unlisted peer) = IsSome taking.begun × RefusesBy taking frame (Unlisted peer)
RefusesNext taking frame fault = Unit {0}
