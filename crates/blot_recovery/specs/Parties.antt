-- What each party of a journal brought, and where its records of its own kinds stand.
use Rattle.std.specs.Prelude.{◌≡◌, ◌⊎◌, ℕ, ◌+◌, ◌<◌, ◌≤◌, Bool, true, false, List, [], Option, None, Some, fold, get_or, length, map, filter, if◌then◌else◌, All, slice_get}
use Rattle.std.specs.List.{list_any}
use Rattle.blot_tag.specs.Walking.{frames_of}
use Rattle.blot_types.specs.Keys.{same_text}
use Rattle.blot_fields.specs.declared.TheConstants.{SEQUENCE_MAX}
use Rattle.blot_desk.specs.declared.{event.Event.Event, receipt.Receipt.Receipt}
use Rattle.blot_gateway.specs.AtOnce.{are_submits}
use Rattle.blot_diary.specs.declared.{kept.Content.Content, kept.Kept.Kept, kept.Party.Party}
use Rattle.blot_diary.specs.declared.kept.Content.TheVariants as contents
use Rattle.blot_diary.specs.declared.kept.Party.TheVariants.{Peer, Operator}
use Rattle.blot_diary.specs.Events.{events_of}
use Rattle.blot_diary.specs.Keeping.{IsInRange, kept_in}
use Rattle.blot_diary.specs.Numbering.{numbers_of}
use Rattle.blot_recovery.specs.declared.{operators.KeptOperators.KeptOperators, operators.TheConstants.OPERATOR_SEATS, parties.KeptOperator.KeptOperator, parties.KeptPeer.KeptPeer}

-- ---- events

-- whether a party is the peer of this name
abbrev pub is_peer : List ℕ → Party → Bool
is_peer name (Peer peer) = same_text peer name
is_peer name (Operator operator) = false

-- whether it is the operator of this name
abbrev pub is_operator : List ℕ → Party → Bool
is_operator name (Peer peer) = false
is_operator name (Operator operator) = same_text operator name

-- the events of a text that some parties brought, in their order
abbrev pub brought_by : (Party → Bool) → List ℕ → List Event
brought_by is_one text = map (λ noted. noted.event) (filter (λ noted. is_one noted.party) (events_of text))

-- the events of some receipts
abbrev pub events_told : List Receipt → List Event
events_told receipts = map (λ receipt. receipt.event) receipts

-- ---- records

-- the number of a frame, if it is a record of its own kinds of a peer
abbrev pub peer_record_by : List ℕ → ℕ → Kept → Content → ℕ
peer_record_by peer last kept (contents.Numbers numbers) = if same_text kept.to peer then kept.number else last
peer_record_by peer last kept contents.Wrapped = if same_text kept.to peer then kept.number else last
peer_record_by peer last kept content = last

abbrev pub peer_record_after : List ℕ → ℕ → Kept → ℕ
peer_record_after peer last kept = peer_record_by peer last kept kept.content

-- that of the last of them in a text, 0 where there is none
abbrev pub peer_records_of : List ℕ → List ℕ → ℕ
peer_records_of peer text = fold (peer_record_after peer) 0 (kept_in (frames_of text))

-- the number of a frame, if it is an operator's record
abbrev pub operator_record_by : List ℕ → ℕ → Kept → Content → ℕ
operator_record_by name last kept (contents.Asked operator event) = if same_text operator name then kept.number else last
operator_record_by name last kept content = last

abbrev pub operator_record_after : List ℕ → ℕ → Kept → ℕ
operator_record_after name last kept = operator_record_by name last kept kept.content

-- that of the last of them in a text, 0 where there is none
abbrev pub operator_records_of : List ℕ → List ℕ → ℕ
operator_records_of name text = fold (operator_record_after name) 0 (kept_in (frames_of text))

-- ---- the parties

-- a peer is as a text leaves it: its seat was told just the events that the text has of it, each of them a submit, and the numbers are the text's
pub record IsKeptPeer {L : Type 0} (own text : List ℕ) (peer : KeptPeer L) : Type 0 where
  pub events : events_told peer.seat ≡ brought_by (is_peer peer.peer) text
  pub submits : are_submits peer.seat ≡ true
  pub numbers_are : peer.numbers ≡ numbers_of own peer.peer text
  pub range : IsInRange peer.numbers
  pub records_are : peer.records ≡ peer_records_of peer.peer text
  pub low : peer.records ≤ SEQUENCE_MAX

-- so is an operator
pub record IsKeptOperator {L : Type 0} (text : List ℕ) (operator : KeptOperator L) : Type 0 where
  pub events : events_told operator.seat ≡ brought_by (is_operator operator.name) text
  pub records_are : operator.records ≡ operator_records_of operator.name text
  pub low : operator.records ≤ SEQUENCE_MAX

-- a text has nothing of an operator's
pub record IsUnheard (text name : List ℕ) : Type 0 where
  pub events : brought_by (is_operator name) text ≡ []
  pub records : operator_records_of name text ≡ 0

-- the names of some operators
abbrev pub operator_names : {L : Type 0} → List (KeptOperator L) → List (List ℕ)
operator_names operators = map (λ operator. operator.name) operators

-- no two of some names are one
abbrev pub AreDifferent : List (List ℕ) → Type 0
AreDifferent names = (j k : ℕ) (d : List ℕ) → j < k → k < length names → get_or names j d ≡ get_or names k d → ⊥

-- so are all operators: each has its own name, a text has nothing of any other, and no seat that nobody has yet has receipts
pub record AreKeptOperators {L : Type 0} (text : List ℕ) (operators : KeptOperators L) : Type 0 where
  pub apart : AreDifferent (operator_names operators.named.items)
  pub named : All (IsKeptOperator text) operators.named.items
  pub others : (name : List ℕ) → list_any (same_text name) (operator_names operators.named.items) ≡ false → IsUnheard text name
  pub spare : All (λ receipts. receipts ≡ []) operators.spare.items

-- an operator who is named from the beginning, if one is, is the first of some names
abbrev pub IsFirst : Option (List ℕ) → List (List ℕ) → Type 0
IsFirst None names = Unit {0}
IsFirst (Some name) names = slice_get names 0 ≡ Some name

-- ---- seats

-- an operator has a seat: named from the beginning, or heard of in the text
abbrev pub HasSeat : List (List ℕ) → List ℕ → List ℕ → Type 0
HasSeat named text name = (list_any (same_text name) named ≡ true) ⊎ (brought_by (is_operator name) text ≡ [] → ⊥)

-- an operator has a seat now, and who had one has it still
pub record GivesSeat {L : Type 0} (name : List ℕ) (old new : KeptOperators L) : Type 0 where
  pub total : length new.named.items + length new.spare.items ≡ length old.named.items + length old.spare.items
  pub each : (named : List (List ℕ)) (text : List ℕ) → All (HasSeat named text) (operator_names old.named.items) → HasSeat named text name
      → All (HasSeat named text) (operator_names new.named.items)

-- all seats are given out, each to an operator who has one, or to nobody yet
pub record AreSeated {L : Type 0} (named : List (List ℕ)) (text : List ℕ) (operators : KeptOperators L) : Type 0 where
  pub total : length operators.named.items + length operators.spare.items ≡ OPERATOR_SEATS
  pub each : All (HasSeat named text) (operator_names operators.named.items)
