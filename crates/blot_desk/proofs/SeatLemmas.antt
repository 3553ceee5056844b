-- What the receipts of a seat show of a number, receipt by receipt.
use Rattle.std.proofs.Common.{◌≡◌, ℕ, ◌==◌, ◌&&◌, Bool, true, false, List, [], ◌∷◌, fold, refl, ap, ◌∙◌, inl, inr, ◌||◌}
use Rattle.std.specs.List.{list_any}
use Rattle.std.proofs.lemmas.Bool.{cases_Bool}
use Rattle.blot_desk.specs.declared.{event.Event.Event, event.Reply.Reply, receipt.Receipt.Receipt}
use Rattle.blot_desk.specs.declared.event.Reply.TheVariants.{Accepted, Refused, Undone, Redone, Order, Position}
use Rattle.blot_desk.specs.Receipts.{Seen, withdraws, seen_accepted, seen_undone, seen_redone, seen_by, seen_on, seen_in, unseen, is_withdrawal_by, is_withdrawal}

-- whether a step is among those that withdrew a number
abbrev is_among : ℕ → List ℕ → Bool
is_among step withdrawals = list_any (λ withdrawal. withdrawal == step) withdrawals

-- ---- the steps that withdraw a number are those of the receipts

accepted-more : (number step : ℕ) (seen : Seen) (event : Event) (own : ℕ)
    → is_among step (seen_accepted number seen event own).withdrawals ≡ ((own == step && withdraws number event) || is_among step seen.withdrawals)
accepted-more number step seen event own = elim (cases_Bool (withdraws number event)) [
  | inl is ↦ rw is (ap (λ t. t || is_among step seen.withdrawals) (and-true (own == step)))
  | inr isnt ↦ rw isnt (ap (λ t. t || is_among step seen.withdrawals) (and-false (own == step)))
]
  where
    and-true : (t : Bool) → t ≡ (t && true)
    and-true true = refl
    and-true false = refl

    and-false : (t : Bool) → false ≡ (t && false)
    and-false true = refl
    and-false false = refl

undone-same : (number : ℕ) (seen : Seen) (step : ℕ) → (seen_undone number seen step).withdrawals ≡ seen.withdrawals
undone-same number seen step = elim (cases_Bool (step == number)) [ inl same ↦ rw same refl | inr other ↦ rw other refl ]

redone-same : (number : ℕ) (seen : Seen) (step : ℕ) → (seen_redone number seen step).withdrawals ≡ seen.withdrawals
redone-same number seen step = elim (cases_Bool (step == number)) [ inl same ↦ rw same refl | inr other ↦ rw other refl ]

among-by : (number step : ℕ) (seen : Seen) (event : Event) (reply : Reply)
    → is_among step (seen_by number seen event reply).withdrawals ≡ (is_withdrawal_by number step event reply || is_among step seen.withdrawals)
among-by number step seen event (Accepted own) = accepted-more number step seen event own
among-by number step seen event (Undone own) = ap (is_among step) (undone-same number seen own)
among-by number step seen event (Redone own) = ap (is_among step) (redone-same number seen own)
among-by number step seen event (Refused reason) = refl
among-by number step seen event (Order line) = refl
among-by number step seen event (Position line) = refl

among-on : (number step : ℕ) (seen : Seen) (receipts : List Receipt)
    → is_among step (fold (seen_on number) seen receipts).withdrawals ≡ (is_among step seen.withdrawals || list_any (is_withdrawal number step) receipts)
among-on number step seen [] = or-false (is_among step seen.withdrawals)
  where
    or-false : (t : Bool) → t ≡ (t || false)
    or-false true = refl
    or-false false = refl
among-on number step seen (receipt ∷ later) =
    among-on number step (seen_on number seen receipt) later
    ∙ ap (λ t. t || list_any (is_withdrawal number step) later) (among-by number step seen receipt.event receipt.reply)
    ∙ turned (is_withdrawal number step receipt) (is_among step seen.withdrawals) (list_any (is_withdrawal number step) later)
  where
    turned : (a b c : Bool) → ((a || b) || c) ≡ (b || (a || c))
    turned true true c = refl
    turned true false c = refl
    turned false true c = refl
    turned false false c = refl

pub among_receipts : (number step : ℕ) (receipts : List Receipt) → list_any (λ withdrawal. withdrawal == step) (seen_in number receipts).withdrawals ≡ list_any (is_withdrawal number step) receipts
among_receipts number step receipts = among-on number step unseen receipts
