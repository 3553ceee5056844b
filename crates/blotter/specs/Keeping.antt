-- What a day comes to that is kept in a journal.
use Rattle.std.specs.Prelude.{◌≡◌, ℕ, ℤ, true, List, Option, Some, codes, slice_get}
use Rattle.blot_desk.specs.declared.{event.Event.Event, receipt.Receipt.Receipt}
use Rattle.blot_gateway.specs.AtOnce.{are_submits}
use Rattle.blot_operator.specs.Seats.{Named}
use Rattle.blot_lanes.specs.Listing.{Listed}
use Rattle.blot_diary.specs.Keeping.{IsInRange}
use Rattle.blot_recovery.specs.declared.{parties.KeptOperator.KeptOperator, parties.KeptPeer.KeptPeer}
use Rattle.blot_recovery.specs.Opening.{IsOpenFault, OpensWith}
use Rattle.blot_recovery.specs.Parties.{brought_by, events_told, is_operator}
use Rattle.blotter.specs.declared.kept_day.KeptFault.{KeptFault}
use Rattle.blotter.specs.declared.kept_day.KeptFault.TheVariants.{Opening, Serving}
use Rattle.blotter.specs.Serving.{KeptReported, ServedBy}

-- a day is served whose events are kept: the operator of this seat is told the answers to the lines of the input; and then the report is written of
-- the history of all receipts, whose events, asks aside, are those that are kept
pub record ServesKept (events : List Event) (seat : Named) (others : List (List Receipt)) (input : Option (List ℕ)) (day : ℤ)
    (before after : Option (List ℕ)) : Type 0 where
  pub between : Option (List ℕ)
  pub seats : List (List Receipt)
  pub served : ServedBy (Unit {0}) seat others input before between seats
  pub reported : KeptReported (Unit {0}) events day seats between after

-- the first of some operators is the one who is told
pub record ServesFirst {L : Type 0} (events : List Event) (operators : List (KeptOperator L)) (input : Option (List ℕ)) (day : ℤ)
    (before after : Option (List ℕ)) : Type 0 where
  pub first : KeptOperator L
  pub others : List (List Receipt)
  pub first_is : slice_get operators 0 ≡ Some first
  pub served : ServesKept events (record { name = first.name; receipts = first.seat }) others input day before after

-- a day is served that is kept, and whose operators come over a socket: the report is written of the history of all receipts
abbrev pub ServesStaffed : List Event → ℤ → Option (List ℕ) → Option (List ℕ) → Type 0
ServesStaffed events day before after = (seats : List (List Receipt)) × KeptReported (Unit {0}) events day seats before after

-- a day goes on whose journal had this text when it was opened, or was new: the receipts of the operator's seat are of the events that the text has
-- of the operator
pub record KeptDayServed (own found : List ℕ) (events : List Event) (input : Option (List ℕ)) (day : ℤ) (before after : Option (List ℕ)) : Type 0 where
  pub text : List ℕ
  pub opens : OpensWith own day found text
  pub seat : List Receipt
  pub others : List (List Receipt)
  pub had : events_told seat ≡ brought_by (is_operator (codes "operator")) text
  pub served : ServesKept events (record { name = codes "operator"; receipts = seat }) others input day before after

-- a peer of a journal can be served: the receipts of its seat are of submits, and its numbers can be a session's
pub record IsListed {L : Type 0} (peer : KeptPeer L) : Type 0 where
  pub submits : are_submits peer.seat ≡ true
  pub range : IsInRange peer.numbers

-- the listed peer that it is in a day that goes on, with its own seat and numbers
abbrev pub listed_as : {L : Type 0} → KeptPeer L → Listed
listed_as peer = record { peer = peer.peer; receipts = peer.seat; expected = peer.numbers.expected; next = peer.numbers.next }

-- what a fault says of the file of a journal, with these peers listed and some operator named
abbrev pub IsUnkept : List ℕ → ℤ → List (List ℕ) → List ℕ → KeptFault → Type 0
IsUnkept own day peers file (Opening fault) = (operator : Option (List ℕ)) × IsOpenFault own day peers operator file fault
IsUnkept own day peers file (Serving fault) = Unit {0}
