-- What a slot is, after a change of one slot, at the start, and where it answers with a session.
use Rattle.std.proofs.Common.{◌≡◌, ℕ, true, false, List, [], ◌∷◌, Option, None, Some, Ok, is_some, if◌then◌else◌, inl, inr, refl, ap, ◌∙◌}
use Rattle.std.specs.Cmp.Lexicographic.{bytes_decides, nat_list_eq_equiv}
use Rattle.std.specs.List.{list_any}
use Rattle.std.proofs.lemmas.Bool.{cases_Bool}
use Rattle.std.proofs.lemmas.Map.{lookup-set_value}
use Rattle.blot_types.specs.Keys.{same_text}
use Rattle.blot_session.specs.declared.state.State.{State}
use Rattle.blot_session.specs.States.{fresh}
use Rattle.blot_slots.specs.Slots.{Slots, all_in, answer_of, slot_of, with_slot}

-- a change of a listed peer's slot leaves the others
pub slot_of-with_slot :
    (slots : Slots) (peer other : List ℕ) (session : Option State) → is_some (slot_of slots peer) ≡ true
    → slot_of (with_slot peer session slots) other ≡ (if same_text peer other then Some session else slot_of slots other)
slot_of-with_slot slots peer other session listed =
    lookup-set_value nat_list_eq_equiv (same_text peer) (nat_list_eq_equiv.congr peer) other session slots.slots listed

-- at the start each listed peer has a new session, which is in
pub slot_of-all_in :
    (own peer : List ℕ) (peers : List (List ℕ))
    → slot_of (all_in own peers) peer ≡ (if list_any (λ listed. same_text listed peer) peers then Some (Some (fresh own peer)) else None)
slot_of-all_in own peer [] = refl
slot_of-all_in own peer (listed ∷ peers) =
    elim (cases_Bool (same_text peer listed)) [
      | inl same ↦
          let also : same_text listed peer ≡ true = nat_list_eq_equiv.symm listed peer ∙ same in
          rw (same, also, (bytes_decides peer listed).0 same) refl
      | inr other ↦
          let also : same_text listed peer ≡ false = nat_list_eq_equiv.symm listed peer ∙ other in
          rw (other, also) (slot_of-all_in own peer peers)
    ]

-- a slot that answers with a session holds it
pub answer_of-ok : (slot : Option (Option State)) (session : State) → Ok session ≡ answer_of slot → slot ≡ Some (Some session)
answer_of-ok None session is = absurd cc
answer_of-ok (Some None) session is = absurd cc
answer_of-ok (Some (Some held)) session is = ap (λ held. Some (Some held)) cc
