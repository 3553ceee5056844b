-- The session of a listed peer, put in with other numbers.
use Rattle.std.proofs.Common.{◌≡◌, ℕ, Bool, true, false, List, [], ◌∷◌, Option, Some, None, Result, Ok, Err, refl, ap, sym, subst, ◌∙◌, cond}
use Rattle.std.specs.Map.{lookup, set_value}
use Rattle.std.proofs.lemmas.Map.Steps.{set_value_same}
use Rattle.blot_types.specs.Keys.{same_text}
use Rattle.blot_session.specs.declared.{state.State.State, state.LinkState.LinkState}
use Rattle.blot_session.specs.declared.state.LinkState.TheVariants as links
use Rattle.blot_session.specs.declared.state.Phase.TheVariants as phases
use Rattle.blot_session.specs.States.{phase_by, waiting_again}
use Rattle.blot_slots.specs.Slots.{IsWaiting, Slots, checked_out, slot_of, with_slot}
use Rattle.blot_slots.specs.declared.slot_fault.SlotFault.{SlotFault}
use Rattle.blot_slots.specs.declared.slot_fault.SlotFault.TheVariants as faults
use Rattle.blot_slots.proofs.SlotLemmas.{answer_of-ok}
use Rattle.blot_lanes.specs.declared.peers.Peer.{Peer}
use Rattle.blot_lanes.specs.Seating.{Seating, changed_in, handed_out, seat_in, seat_of, without_seat}
use Rattle.blot_lanes.specs.Seats.{Seated}

-- what is put last stays
set-twice : {K X : Type 0} (test : K → Bool) (entries : List (K × X)) (first last : X) → set_value test (set_value test entries first) last ≡ set_value test entries last
set-twice test [] first last = refl
set-twice test (entry ∷ entries) first last = by (test entry.0) refl (set-twice test entries first last)
  where
    by : (b : Bool) → test entry.0 ≡ b → set_value test (set_value test entries first) last ≡ set_value test entries last
        → set_value test (cond b ((entry.0, first) ∷ entries) (entry ∷ set_value test entries first)) last ≡ cond b ((entry.0, last) ∷ entries) (entry ∷ set_value test entries last)
    by true is rest = ap (λ b. cond b ((entry.0, last) ∷ entries) ((entry.0, first) ∷ set_value test entries last)) is
    by false is rest =
        ap (λ b. cond b ((entry.0, last) ∷ set_value test entries first) (entry ∷ set_value test (set_value test entries first) last)) is
        ∙ ap (λ rest. entry ∷ rest) rest

pub put-again : (old between new : Slots) (peer : List ℕ) (session is : State) → session ≡ is → is.peer ≡ peer → waiting_again is ≡ is → between ≡ with_slot peer None old
    → slot_of between peer ≡ Some None → (slot_of between session.peer ≡ Some None → new ≡ with_slot session.peer (Some (waiting_again session)) between)
    → new ≡ with_slot peer (Some is) old
put-again old between new peer session is same named waits out gone back =
    let of_is = subst (λ state. slot_of between state.peer ≡ Some None → new ≡ with_slot state.peer (Some (waiting_again state)) between) same back in
    let of_peer = subst (λ name. slot_of between name ≡ Some None → new ≡ with_slot name (Some (waiting_again is)) between) named of_is in
    of_peer gone
    ∙ ap (λ state. with_slot peer (Some state) between) waits
    ∙ ap (λ slots. with_slot peer (Some is) slots) out
    ∙ ap (λ slots. record old { slots = slots }) (set-twice (same_text peer) old.slots None (Some is))

-- ---- what is handed out

pub handed-fault : (answer : Result State SlotFault) (seat : Option Seated) (fault : SlotFault) → answer ≡ Err fault → Err fault ≡ handed_out answer seat
handed-fault answer seat fault is = sym (ap (λ answer. handed_out answer seat) is)

pub handed-both : (answer : Result State SlotFault) (seat : Option Seated) (session : State) (given : Seated) → answer ≡ Ok session → seat ≡ Some given
    → Ok (session, given) ≡ handed_out answer seat
handed-both answer seat session given is its = sym (ap (λ answer. handed_out answer seat) is ∙ ap (handed_out (Ok session)) its)

pub handed-neither : (answer : Result State SlotFault) (seat : Option Seated) (session : State) → answer ≡ Ok session → seat ≡ None → Err faults.AlreadyOn ≡ handed_out answer seat
handed-neither answer seat session is none = sym (ap (λ answer. handed_out answer seat) is ∙ ap (handed_out (Ok session)) none)

pub ruleset handing = (handed-fault, handed-both, handed-neither)

-- a session that waits is put back as it is
link-waits : (link : LinkState) → phase_by link ≡ phases.Waiting → links.Waiting ≡ link
link-waits links.Waiting is = refl
link-waits (links.On live) is = absurd cc
link-waits links.Closed is = absurd cc

pub put-back : (old between new : Slots) (peer : List ℕ) (session : State) → IsWaiting peer session → checked_out old peer ≡ Ok session → between ≡ with_slot peer None old
    → slot_of between peer ≡ Some None → (slot_of between session.peer ≡ Some None → new ≡ with_slot session.peer (Some (waiting_again session)) between)
    → new ≡ old
put-back old between new peer session waits was out gone back =
    put-again old between new peer session session refl waits.of_peer (ap (λ link. record session { link = link }) (link-waits session.link waits.phase)) out gone back
    ∙ ap (λ slots. record old { slots = slots }) (set_value_same (same_text peer) old.slots (Some session) (answer_of-ok (slot_of old peer) session (sym was)))

-- of a seat that is out nothing is taken
unseated-in : {L : Type 0} (found : Option (Peer L)) (peers : List (List ℕ × Peer L)) (peer : List ℕ) → lookup (same_text peer) peers ≡ found → seat_in found ≡ None
    → changed_in found (λ listed. record listed { seat = None }) peer peers ≡ peers
unseated-in None peers peer found out = refl
unseated-in (Some listed) peers peer found out =
    ap (λ seat. set_value (same_text peer) peers (record listed { seat = seat })) (sym out) ∙ set_value_same (same_text peer) peers listed found

pub unseated-out : {L : Type 0} (peers new : List (List ℕ × Peer L)) (peer : List ℕ) → seat_of peer peers ≡ None → new ≡ without_seat peer peers → new ≡ peers
unseated-out peers new peer out is = is ∙ unseated-in (lookup (same_text peer) peers) peers peer refl out

pub same-table : {L : Type 0} (old : Seating L) (sessions : Slots) (peers : List (List ℕ × Peer L)) → sessions ≡ old.sessions → peers ≡ old.peers
    → record old { sessions = sessions; peers = peers } ≡ old
same-table old sessions peers same_sessions same_peers = λ i. record old { sessions = same_sessions i; peers = same_peers i }
