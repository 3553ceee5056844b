-- Slots whose sessions wait for their own peers.
use Rattle.std.proofs.Common.{◌≡◌, ℕ, List, [], ◌∷◌, Option, Some, IfSome, inl, inr, refl, subst}
use Rattle.std.specs.Cmp.Lexicographic.{bytes_decides}
use Rattle.std.specs.Map.{lookup, set_value}
use Rattle.std.proofs.lemmas.Bool.{cases_Bool}
use Rattle.std.proofs.lemmas.List.Elements.{All-cons, All-head, All-nil, All-tail}
use Rattle.blot_types.specs.Keys.{same_text}
use Rattle.blot_session.specs.declared.state.State.{State}
use Rattle.blot_session.specs.States.{fresh}
use Rattle.blot_slots.specs.Slots.{fresh_slots, AreWaiting, IsWaiting, IsWaitingSlot}

-- a session that is in waits for its own peer
pub waiting-slot_of :
    (slots : List (List ℕ × Option State)) (peer : List ℕ) (session : State)
    → AreWaiting slots → lookup (same_text peer) slots ≡ Some (Some session) → IsWaiting peer session
waiting-slot_of [] peer session waiting found = absurd cc
waiting-slot_of (slot ∷ slots) peer session waiting found =
    elim (cases_Bool (same_text peer slot.0)) [
      | inl same ↦
          let first : Some slot.1 ≡ Some (Some session) = rw same at found in
          let its : slot.1 ≡ Some session = cc in
          let waits : IfSome (Some session) (IsWaiting slot.0) = subst (λ held. IfSome held (IsWaiting slot.0)) its (All-head IsWaitingSlot slot slots waiting) in
          rw ((bytes_decides peer slot.0).0 same) waits
      | inr other ↦ waiting-slot_of slots peer session (All-tail IsWaitingSlot slot slots waiting) (rw other at found)
    ]

-- a change of one slot leaves the others
pub waiting_with_slot :
    (slots : List (List ℕ × Option State)) (peer : List ℕ) (session : Option State)
    → AreWaiting slots → IfSome session (IsWaiting peer) → AreWaiting (set_value (same_text peer) slots session)
waiting_with_slot [] peer session waiting its = waiting
waiting_with_slot (slot ∷ slots) peer session waiting its =
    let rest = All-tail IsWaitingSlot slot slots waiting in
    elim (cases_Bool (same_text peer slot.0)) [
      | inl same ↦ rw same (All-cons IsWaitingSlot (slot.0, session) slots (subst (λ key. IfSome session (IsWaiting key)) ((bytes_decides peer slot.0).0 same) its) rest)
      | inr other ↦ rw other (All-cons IsWaitingSlot slot (set_value (same_text peer) slots session) (All-head IsWaitingSlot slot slots waiting) (waiting_with_slot slots peer session rest its))
    ]

-- a new session waits
pub waiting_fresh : (own : List ℕ) (peers : List (List ℕ)) → AreWaiting (fresh_slots own peers)
waiting_fresh own [] = All-nil IsWaitingSlot
waiting_fresh own (peer ∷ peers) =
    All-cons IsWaitingSlot (peer, Some (fresh own peer)) (fresh_slots own peers) (record { of_peer = refl; phase = refl }) (waiting_fresh own peers)
