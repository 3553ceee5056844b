-- The frames of a journal, taken up one by one.
use Rattle.std.specs.Prelude.{◌≡◌, ℕ, ℤ, ◌⊎◌, ◌<◌, Bool, true, false, ◌&&◌, ◌||◌, List, [], ◌∷◌, ◌++◌, drop, length, map, slice_get, Option, Some, None, option_map, IfSome, All}
use Rattle.std.specs.List.{IsDistinct, cons_option, list_any}
use Rattle.blot_tag.specs.Fields.{fields_of}
use Rattle.blot_tag.specs.Walking.{frames_of}
use Rattle.blot_types.specs.Keys.{same_text}
use Rattle.blot_desk.specs.declared.event.Event.{Event}
use Rattle.blot_desk.specs.Desk.{DeskState, IsRun, events_of}
use Rattle.blot_diary.specs.declared.{kept.Beginning.Beginning, kept.Content.Content, kept.Kept.Kept, kept.Noted.Noted}
use Rattle.blot_diary.specs.declared.kept.Content.TheVariants as contents
use Rattle.blot_diary.specs.Beginnings.{beginning_of}
use Rattle.blot_diary.specs.Diary.{desk_events}
use Rattle.blot_diary.specs.Keeping.{kept_in, kept_of}
use Rattle.blot_recovery.specs.declared.{parties.KeptPeer.KeptPeer, taking.Party.Party, taking.Taking.Taking}
use Rattle.blot_recovery.specs.declared.taking.Party.TheVariants.{Operator, Peer}
use Rattle.blot_recovery.specs.Faults.{IsWanted}
use Rattle.blot_recovery.specs.Parties.{AreKeptOperators, AreSeated, IsFirst, IsKeptPeer, operator_names}

-- ---- which frames may stand in a journal

-- whether a frame of this content may stand, by whether the peer sent it to the blotter, and the blotter to the peer
abbrev pub stands_by : Content → Bool → Bool → Bool
stands_by (contents.Command command) received sent = received
stands_by contents.Message received sent = received || sent
stands_by (contents.Numbers numbers) received sent = sent
stands_by contents.Wrapped received sent = sent
stands_by content received sent = false

-- whether a frame may stand as one of a peer or to it
abbrev pub stands_for : List ℕ → List ℕ → Kept → Bool
stands_for own peer kept =
    stands_by kept.content (same_text kept.from peer && same_text kept.to own) (same_text kept.from own && same_text kept.to peer)

-- a frame is an operator's event
abbrev pub IsAskedBy : List ℕ → Content → Type 0
IsAskedBy name (contents.Asked operator event) = operator ≡ name
IsAskedBy name content = ⊥

-- ---- one frame more

-- a text is another, and behind it one frame, which keeps this
abbrev pub KeepsLast : List ℕ → Kept → List ℕ → Type 0
KeepsLast text kept more = kept_in (frames_of more) ≡ kept_in (frames_of text) ++ kept ∷ []

-- the event, if there is one
abbrev pub event_noted : Option Noted → Option Event
event_noted noted = option_map (λ noted. noted.event) noted

-- some events, and one more behind them if there is one
abbrev pub with_event : List Event → Option Noted → List Event
with_event events noted = events ++ cons_option (event_noted noted) []

-- a desk takes an event, if there is one
pub record TakesUp (before after : DeskState) (noted : Option Noted) : Type 0 where
  pub events : events_of after.history ≡ with_event (events_of before.history) noted
  pub run : IsRun before → IsRun after

-- ---- all frames so far

-- the names of some peers
abbrev pub names_of : {L : Type 0} → List (KeptPeer L) → List (List ℕ)
names_of peers = map (λ peer. peer.peer) peers

-- a frame that keeps this is one of a listed peer, or to it
pub record IsOfPeer (own : List ℕ) (peers : List (List ℕ)) (kept : Kept) : Type 0 where
  pub peer : List ℕ
  pub place : ℕ
  pub listed : slice_get peers place ≡ Some peer
  pub stands : stands_for own peer kept ≡ true

-- it is an event of this operator's, from the blotter to itself
pub record IsOfOperator (own name : List ℕ) (kept : Kept) : Type 0 where
  pub asked : IsAskedBy name kept.content
  pub from_is : kept.from ≡ own
  pub to_is : kept.to ≡ own

-- either of the two, whoever the operator is
abbrev pub IsOfParty : List ℕ → List (List ℕ) → Kept → Type 0
IsOfParty own peers kept = ((name : List ℕ) × IsOfOperator own name kept) ⊎ IsOfPeer own peers kept

-- a frame may stand behind the first of a blotter's journal
pub record IsInPlace (own : List ℕ) (peers : List (List ℕ)) (frame : List ℕ) : Type 0 where
  pub kept : Kept
  pub keeps : kept_of (fields_of frame) ≡ Some kept
  pub is_of : IsOfParty own peers kept

-- so may all behind the first of a text
abbrev pub AreInPlace : List ℕ → List (List ℕ) → List ℕ → Type 0
AreInPlace own peers text = All (IsInPlace own peers) (drop 1 (frames_of text))

-- a frame is one of the peer at this place, or to that peer
pub record IsOfPeerAt {L : Type 0} (taking : Taking L) (kept : Kept) (at : ℕ) : Type 0 where
  pub peer : List ℕ
  pub within : at < length taking.peers.items
  pub found : slice_get (names_of taking.peers.items) at ≡ Some peer
  pub stands : stands_for taking.own peer kept ≡ true

-- a frame is of this party: an event of this operator's, or a peer's
abbrev pub IsPartyOf : {L : Type 0} → Taking L → Kept → Party → Type 0
IsPartyOf taking kept (Operator name) = IsOfOperator taking.own name kept
IsPartyOf taking kept (Peer at) = IsOfPeerAt taking kept at

-- no two of the peers are one, and none is the blotter itself
pub record AreApart (own : List ℕ) (peers : List (List ℕ)) : Type 0 where
  pub distinct : IsDistinct same_text peers
  pub others : list_any (same_text own) peers ≡ false

-- a blotter's journal of a day
abbrev pub begun_on : List ℕ → ℤ → Beginning
begun_on own day = record { own = own; day = day }

-- what was asked for stays
pub record AsksSame {L : Type 0} (first now : Taking L) : Type 0 where
  pub own_is : now.own ≡ first.own
  pub wanted_is : now.wanted ≡ first.wanted
  pub names_are : names_of now.peers.items ≡ names_of first.peers.items
  pub first_is : (name : Option (List ℕ)) → IsFirst name (operator_names first.operators.named.items) → IsFirst name (operator_names now.operators.named.items)

-- some events are taken up: the desk is their run, and each party is as the text leaves it
pub record HasTaken {L : Type 0} (text : List ℕ) (now : Taking L) : Type 0 where
  pub events : events_of now.opening.history ≡ desk_events text
  pub run : IsRun now.opening
  pub peers : All (IsKeptPeer now.own text) now.peers.items
  pub operators : AreKeptOperators text now.operators

-- a text is taken up: it begins as it was asked for, and its events are taken
pub record IsTakenUp {L : Type 0} (text : List ℕ) (now : Taking L) : Type 0 where
  pub apart : AreApart now.own (names_of now.peers.items)
  pub begins : beginning_of text ≡ option_map (begun_on now.own) now.begun
  pub nothing : now.begun ≡ None → text ≡ []
  pub wanted : IfSome now.begun (λ day. IsWanted now.own now.wanted (begun_on now.own day))
  pub in_place : AreInPlace now.own (names_of now.peers.items) text
  pub has : HasTaken text now

-- the same, by what was asked for
pub record TakesUpAll {L : Type 0} (first : Taking L) (text : List ℕ) (now : Taking L) : Type 0 where
  pub asks : AsksSame first now
  pub seated : AreSeated (operator_names first.operators.named.items) text now.operators
  pub taken : IsTakenUp text now
