-- The events that are kept beside the book of a desk.
use Rattle.std.specs.Prelude.{◌≡◌, ℕ, ◌≤◌, Bool, true, false, not, List, [], ◌∷◌, ◌++◌, filter, length, take, if◌then◌else◌}
use Rattle.blot_desk.specs.declared.{event.Event.Event, event.Recorded.Recorded}
use Rattle.blot_desk.specs.declared.event.Event.TheVariants.{AskOrder, AskPosition}
use Rattle.blot_desk.specs.Desk.{DeskState, events_of}
use Rattle.blot_desk.specs.Makers.{Makers}

-- whether an event only asks
abbrev pub is_ask : Event → Bool
is_ask (AskOrder order) = true
is_ask (AskPosition account symbol) = true
is_ask event = false

-- the events of a history, asks aside
abbrev pub kept_events : List Recorded → List Event
kept_events history = filter (λ event. not (is_ask event)) (events_of history)

-- the events that are kept after an event: one more, unless it only asks
abbrev pub with_kept : Event → List Event → List Event
with_kept event events = if is_ask event then events else events ++ event ∷ []

-- a record spells an event, unless it only asks
abbrev pub IsSpelled : (List ℕ → Event → Type 0) → List ℕ → Event → Type 0
IsSpelled spells text event = is_ask event ≡ false → spells text event

-- what is left of some events is a beginning of them, of so many or more
pub record IsBeginning (least : ℕ) (events left : List Event) : Type 0 where
  pub count : ℕ
  pub enough : least ≤ count
  pub most : count ≤ length events
  pub left_is : left ≡ take count events

-- a sync that was told of a keeper of which every event is durable
abbrev pub IsSynced : {K : Type 0} → (K → List Event) → (K → ℕ) → Type 0
IsSynced {K = K} events durable = (keeper : K) × (durable keeper ≡ length (events keeper))

-- a fault that was told of a keeper that couldn't be written
abbrev pub IsUnwritten : {K : Type 0} → (K → Bool) → Type 0
IsUnwritten {K = K} is_broken = (keeper : K) × (is_broken keeper ≡ true)

-- what is kept is as it was
pub record SameKept {K : Type 0} (events : K → List Event) (found durable : K → ℕ) (is_broken : K → Bool) (old new : K) : Type 0 where
  pub events_are : events new ≡ events old
  pub found_is : found new ≡ found old
  pub durable_is : durable new ≡ durable old
  pub broken_is : is_broken new ≡ is_broken old

-- what is under the lock of a desk: the book with its history, who made the commands, and what keeps the events
pub record Under (K : Type 0) : Type 0 where
  pub desk : DeskState
  pub makers : Makers
  pub keeper : K
