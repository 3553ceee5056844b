-- What is answered where a session is asked for, by its slot.
use Rattle.std.proofs.Common.{◌≡◌, ◌↔◌, ℕ, true, List, Option, None, Some, Result, Ok, Err, IfOk, OnOk, OnErr, is_some, refl, sym, ap, subst, ◌∙◌, if◌then◌else◌}
use Rattle.std.specs.Cmp.Lexicographic.{nat_list_eq_equiv}
use Rattle.std.specs.Map.{lookup, set_value}
use Rattle.std.proofs.lemmas.Map.{lookup-set_value}
use Rattle.blot_types.specs.Keys.{same_text}
use Rattle.blot_session.specs.declared.{state.LinkState.LinkState, state.State.State}
use Rattle.blot_session.specs.declared.state.LinkState.TheVariants as links
use Rattle.blot_session.specs.declared.state.Phase.TheVariants as phases
use Rattle.blot_session.specs.States.{awaited_by, phase_by, IsIdle}
use Rattle.blot_slots.proofs.SlotLemmas.{answer_of-ok}
use Rattle.blot_slots.proofs.WaitingLemmas.{waiting-slot_of, waiting_with_slot}
use Rattle.blot_slots.specs.declared.slot_fault.SlotFault.{SlotFault}
use Rattle.blot_slots.specs.declared.slot_fault.SlotFault.TheVariants as faults
use Rattle.blot_slots.specs.Slots.{answer_of, AreWaiting, IsWaiting}

-- UnknownPeer where there is no slot
pub unknown_answer : (slot : Option (Option State)) (answer : Result State SlotFault) → answer ≡ answer_of slot → (answer ≡ Err faults.UnknownPeer) ↔ (slot ≡ None)
unknown_answer None answer is = ((λ unknown. refl), (λ none. is))
unknown_answer (Some None) answer is = ((λ unknown. absurd cc), (λ none. absurd cc))
unknown_answer (Some (Some session)) answer is = ((λ unknown. absurd cc), (λ none. absurd cc))

-- AlreadyOn where it is empty
pub on_answer : (slot : Option (Option State)) (answer : Result State SlotFault) → answer ≡ answer_of slot → (answer ≡ Err faults.AlreadyOn) ↔ (slot ≡ Some None)
on_answer None answer is = ((λ on. absurd cc), (λ out. absurd cc))
on_answer (Some None) answer is = ((λ on. refl), (λ out. is))
on_answer (Some (Some session)) answer is = ((λ on. absurd cc), (λ out. absurd cc))

-- and else the session, which is out then
pub out_answer :
    (slots new : List (List ℕ × Option State)) (peer : List ℕ) (answer : Result State SlotFault)
    → answer ≡ answer_of (lookup (same_text peer) slots) → OnOk answer (new ≡ set_value (same_text peer) slots None)
    → OnOk answer (lookup (same_text peer) new ≡ Some None)
out_answer slots new peer (Err fault) is ok = tt
out_answer slots new peer (Ok session) is ok =
    let listed : is_some (lookup (same_text peer) slots) ≡ true = ap is_some (answer_of-ok (lookup (same_text peer) slots) session is) in
    let found = lookup-set_value nat_list_eq_equiv (same_text peer) (nat_list_eq_equiv.congr peer) peer None slots listed in
    ap (lookup (same_text peer)) ok ∙ found ∙ ap (λ same. if same then Some None else lookup (same_text peer) slots) (nat_list_eq_equiv.refl peer)

-- a session that waits for a Logon awaits no reply
idle_link : (link : LinkState) → phase_by link ≡ phases.Waiting → awaited_by link ≡ None
idle_link links.Waiting waiting = refl
idle_link (links.On live) waiting = absurd cc
idle_link links.Closed waiting = refl

-- a session that is handed out is its peer's and waits
pub waiting_answer :
    (slots : List (List ℕ × Option State)) (peer : List ℕ) (answer : Result State SlotFault)
    → answer ≡ answer_of (lookup (same_text peer) slots) → AreWaiting slots → IfOk answer (IsWaiting peer)
waiting_answer slots peer (Err fault) is waiting = tt
waiting_answer slots peer (Ok session) is waiting = waiting-slot_of slots peer session waiting (answer_of-ok _ session is)

-- and awaits no reply
pub idle_answer :
    (slots : List (List ℕ × Option State)) (peer : List ℕ) (answer : Result State SlotFault)
    → answer ≡ answer_of (lookup (same_text peer) slots) → AreWaiting slots → IfOk answer IsIdle
idle_answer slots peer (Err fault) is waiting = tt
idle_answer slots peer (Ok session) is waiting = idle_link session.link (waiting_answer slots peer (Ok session) is waiting).phase

-- what is left in waits
pub waiting_left :
    (slots new : List (List ℕ × Option State)) (peer : List ℕ) (answer : Result State SlotFault)
    → OnOk answer (new ≡ set_value (same_text peer) slots None) → OnErr answer (new ≡ slots) → AreWaiting slots → AreWaiting new
waiting_left slots new peer (Ok session) ok err waiting = subst AreWaiting (sym ok) (waiting_with_slot slots peer None waiting tt)
waiting_left slots new peer (Err fault) ok err waiting = subst AreWaiting (sym err) waiting

-- all of these
pub ruleset answers = (unknown_answer, on_answer, out_answer, waiting_answer, idle_answer, waiting_left)
