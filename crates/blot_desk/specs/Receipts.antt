-- The receipts of a seat: what it was told, at which place of the history.
use Rattle.std.specs.Prelude.{◌≡◌, ℕ, ◌+◌, ◌<◌, ◌≤◌, ◌==◌, Bool, true, false, ◌&&◌, ◌||◌, nat_le, List, [], ◌∷◌, ◌++◌, fold, length, slice_get, Option, Some, None, if◌then◌else◌, option_and_then}
use Rattle.std.specs.List.{list_any}
use Rattle.blot_types.specs.declared.command.Command.TheVariants.{Withdraw}
use Rattle.blot_desk.specs.declared.{event.Event.Event, event.Event.TheVariants.Submit, event.Recorded.Recorded, event.Reply.Reply, receipt.Receipt.Receipt}
use Rattle.blot_desk.specs.declared.event.Reply.TheVariants.{Accepted, Undone, Redone}

-- some receipts with one more at their end: of an event and the reply to it, at a place of the history
abbrev pub with_receipt : ℕ → Event → Reply → List Receipt → List Receipt
with_receipt place event reply receipts = receipts ++ record { place = place; event = event; reply = reply } ∷ []

-- the receipts after are those before with one more: of this event and this reply, at some place
pub record IsOneMore (before after : List Receipt) (event : Event) (reply : Reply) : Type 0 where
  pub place : ℕ
  pub more : after ≡ with_receipt place event reply before

-- ---- the newest number of a seat

-- what some receipts show of the number of an entry: whether it is gone, undone or withdrawn; and the numbers of the steps that
-- withdrew it
pub record Seen : Type 0 where
  pub gone : Bool
  pub withdrawals : List ℕ

-- before the first of them it isn't gone, and no step withdrew it
abbrev pub unseen : Seen
unseen = record { gone = false; withdrawals = [] }

-- whether an event withdraws the entry of a number
abbrev pub withdraws : ℕ → Event → Bool
withdraws number (Submit (Withdraw withdrawn)) = withdrawn == number
withdraws number event = false

-- an event is accepted as a step: an entry that it withdraws is gone, and the step is one of its withdrawals from then on
abbrev pub seen_accepted : ℕ → Seen → Event → ℕ → Seen
seen_accepted number seen event step = if withdraws number event then record { gone = true; withdrawals = step ∷ seen.withdrawals } else seen

-- a step is undone: an entry is gone with its own step. A withdrawal that is undone still counts
abbrev pub seen_undone : ℕ → Seen → ℕ → Seen
seen_undone number seen step = if step == number then record { gone = true; withdrawals = seen.withdrawals } else seen

-- a step is done again: an entry is back with its own step, and gone with a step that withdrew it
abbrev pub seen_redone : ℕ → Seen → ℕ → Seen
seen_redone number seen step =
    if step == number then record { gone = false; withdrawals = seen.withdrawals }
    else record { gone = seen.gone || list_any (λ withdrawal. withdrawal == step) seen.withdrawals; withdrawals = seen.withdrawals }

-- one receipt more, by its event and its reply
abbrev pub seen_by : ℕ → Seen → Event → Reply → Seen
seen_by number seen event (Accepted step) = seen_accepted number seen event step
seen_by number seen event (Undone step) = seen_undone number seen step
seen_by number seen event (Redone step) = seen_redone number seen step
seen_by number seen event reply = seen

abbrev pub seen_on : ℕ → Seen → Receipt → Seen
seen_on number seen receipt = seen_by number seen receipt.event receipt.reply

-- some receipts, in their order
abbrev pub seen_in : ℕ → List Receipt → Seen
seen_in number receipts = fold (seen_on number) unseen receipts

-- whether some receipts leave a number undone or withdrawn
abbrev pub is_gone : ℕ → List Receipt → Bool
is_gone number receipts = (seen_in number receipts).gone

-- the number of the entry that an event came to, where the reply accepts it; a withdrawal comes to none
abbrev pub entered : Event → Reply → Option ℕ
entered (Submit (Withdraw withdrawn)) (Accepted step) = None
entered (Submit command) (Accepted number) = Some number
entered event reply = None

-- the number of the entry that a receipt shows as accepted, where the later receipts don't leave it undone or withdrawn
abbrev pub standing : Receipt → List Receipt → Option ℕ
standing receipt later =
    option_and_then (λ number. if is_gone number later then None else Some number) (entered receipt.event receipt.reply)

-- the greater of two numbers that may be there
abbrev pub greater : Option ℕ → Option ℕ → Option ℕ
greater None other = other
greater (Some number) None = Some number
greater (Some number) (Some other) = if nat_le number other then Some other else Some number

-- the greatest number of an entry that some receipts show as accepted and don't leave undone or withdrawn
abbrev pub newest_of : List Receipt → Option ℕ
newest_of [] = None
newest_of (receipt ∷ later) = greater (standing receipt later) (newest_of later)

-- whether an event and its reply show a number as withdrawn by this step
abbrev pub is_withdrawal_by : ℕ → ℕ → Event → Reply → Bool
is_withdrawal_by number step event (Accepted own) = own == step && withdraws number event
is_withdrawal_by number step event reply = false

-- whether a receipt does
abbrev pub is_withdrawal : ℕ → ℕ → Receipt → Bool
is_withdrawal number step receipt = is_withdrawal_by number step receipt.event receipt.reply

-- ---- receipts compared with the history

-- the history has the event and the reply of a receipt at its place
abbrev pub Stands : List Recorded → Receipt → Type 0
Stands history receipt = slice_get history receipt.place ≡ Some (record { event = receipt.event; reply = receipt.reply })

abbrev pub AllStand : List Recorded → List Receipt → Type 0
AllStand history [] = Unit {0}
AllStand history (receipt ∷ later) = Stands history receipt × AllStand history later

-- the places of some receipts rise, from this place on
abbrev pub RiseFrom : ℕ → List Receipt → Type 0
RiseFrom from [] = Unit {0}
RiseFrom from (receipt ∷ later) = (from ≤ receipt.place) × RiseFrom (receipt.place + 1) later

-- those of each seat do
abbrev pub EachRises : List (List Receipt) → Type 0
EachRises [] = Unit {0}
EachRises (receipts ∷ seats) = RiseFrom 0 receipts × EachRises seats

-- how many of some receipts are of this place
abbrev pub count_at : ℕ → List Receipt → ℕ
count_at place [] = 0
count_at place (receipt ∷ later) = (if receipt.place == place then 1 else 0) + count_at place later

-- the receipts of all seats
abbrev pub all_receipts : List (List Receipt) → List Receipt
all_receipts [] = []
all_receipts (receipts ∷ seats) = receipts ++ all_receipts seats

-- every answer that a seat got stands in the history at its place, each seat got its answers in the order of the history, and
-- every answer of the history was got once
pub record IsSettled (history : List Recorded) (seats : List (List Receipt)) : Type 0 where
  pub stand : AllStand history (all_receipts seats)
  pub rise : EachRises seats
  pub once : (place : ℕ) → place < length history → count_at place (all_receipts seats) ≡ 1
