-- Marks on the places of a history that have a receipt.
use Rattle.std.specs.Prelude.{◌≡◌, ℕ, ◌+◌, ◌<◌, ◌≤◌, Bool, false, List, length, slice_index_or, if◌then◌else◌}
use Rattle.blot_desk.specs.declared.{event.Recorded.Recorded, receipt.Receipt.Receipt}
use Rattle.blot_desk.specs.Receipts.{AllStand, EachRises, RiseFrom, all_receipts, count_at}

-- how many marks a place has: 1 or none
abbrev pub mark_at : List Bool → ℕ → ℕ
mark_at marks place = if slice_index_or marks place false then 1 else 0

-- the receipts of a seat stand in the history, their places rise, and each marks a place that had no mark
pub record AreMarked (history : List Recorded) (before after : List Bool) (receipts : List Receipt) : Type 0 where
  pub stand : AllStand history receipts
  pub rise : RiseFrom 0 receipts
  pub counted : (place : ℕ) → mark_at after place ≡ mark_at before place + count_at place receipts

-- some receipts are of a place that has a mark already, or two of them are of one place
pub record HasTwo (history : List Recorded) (before : List Bool) (receipts : List Receipt) : Type 0 where
  pub place : ℕ
  pub within : place < length history
  pub two : 2 ≤ mark_at before place + count_at place receipts

-- the receipts of a seat don't agree with the history: where each stands in it and their places rise, two are of one place
abbrev pub Disagree : List Recorded → List Bool → List Receipt → Type 0
Disagree history before receipts = AllStand history receipts → RiseFrom 0 receipts → HasTwo history before receipts

-- the receipts of all seats are marked
pub record AllMarked (history : List Recorded) (before after : List Bool) (seats : List (List Receipt)) : Type 0 where
  pub stand : AllStand history (all_receipts seats)
  pub rise : EachRises seats
  pub counted : (place : ℕ) → mark_at after place ≡ mark_at before place + count_at place (all_receipts seats)

-- they don't agree with the history
abbrev pub AllDisagree : List Recorded → List Bool → List (List Receipt) → Type 0
AllDisagree history before seats = AllStand history (all_receipts seats) → EachRises seats → HasTwo history before (all_receipts seats)

-- each place has a mark
abbrev pub EachMarked : List Bool → Type 0
EachMarked marks = (place : ℕ) → place < length marks → mark_at marks place ≡ 1
