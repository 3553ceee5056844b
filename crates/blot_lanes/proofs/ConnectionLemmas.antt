-- A connection of an open day, put together.
use Rattle.std.proofs.Common.{◌≡◌, ℕ, ◌≤◌, List, [], Result, Ok, Err, refl, sym, ap, subst, ◌∙◌, inl, inr, ℤ, ◌⊎◌, true}
use Rattle.std.specs.Prelude.{⊤}
use Rattle.blot_session.specs.declared.state.State.{State}
use Rattle.blot_slots.specs.Slots.{IsWaiting}
use Rattle.blot_slots.specs.declared.slot_fault.SlotFault.{SlotFault}
use Rattle.blot_slots.specs.declared.slot_fault.SlotFault.TheVariants as faults
use Rattle.blot_gateway.proofs.ServingLemmas.{counted-behind}
use Rattle.blot_gateway.specs.AtOnce.{are_submits, turned_by}
use Rattle.blot_gateway.specs.Greeting.{Greeted}
use Rattle.blot_gateway.specs.Serving.{IsCounted, parties}
use Rattle.blot_gateway.specs.Stopping.{ServedUntil}
use Rattle.blot_gateway.specs.Wires.{Did}
use Rattle.blot_gateway.specs.declared.ended.Ended.{Ended}
use Rattle.blot_lanes.specs.Lanes.{ServesConnection}
use Rattle.blot_lanes.specs.declared.connection.TheConstants.{GREETING_READS}
use Rattle.blot_lanes.specs.Seats.{Seated, TakesAs}

turned-counted : (fault : SlotFault) (before after : ℕ) → before ≤ after → IsCounted before after (turned_by fault)
turned-counted faults.UnknownPeer before after one = one
turned-counted faults.AlreadyOn before after one = one
turned-counted faults.RepeatedPeer before after one = one
turned-counted faults.NoMemory before after one = one

greeted-so : {W : Type 0} (does : W → Did → W → Type 0) (own known : List ℕ) (answer is : Result (List ℕ) Ended) (wire after : W) (unread left : List ℕ)
    → known ≡ own → answer ≡ is → unread ≡ [] → Greeted does known GREETING_READS answer wire unread after left → Greeted does own GREETING_READS is wire [] after left
greeted-so does own known answer is wire after unread left same gives empty greeted =
    subst (λ text. Greeted does own GREETING_READS is wire text after left) empty
    (subst (λ given. Greeted does own GREETING_READS given wire unread after left) gives
    (subst (λ text. Greeted does text GREETING_READS answer wire unread after left) same greeted))

pub greeting-ends : {W C : Type 0} (does : W → Did → W → Type 0) (ticks : C → ℤ → C → Type 0) (failures : W → ℕ) (own known : List ℕ) (answer : Result (List ℕ) Ended) (end : Ended)
    (wire after : W) (clock : C) (unread left : List ℕ) → known ≡ own → answer ≡ Err end → unread ≡ [] → Greeted does known GREETING_READS answer wire unread after left
    → IsCounted (failures wire) (failures after) end → ServesConnection does ticks failures own wire clock end
greeting-ends does ticks failures own known answer end wire after clock unread left same gives empty greeted counted =
    record {
      wire_after = after;
      clock_after = clock;
      answer = Err end;
      greeted = after;
      unread = left;
      greets = greeted-so does own known answer (Err end) wire after unread left same gives empty greeted;
      follows = (refl, refl, refl);
      counted = counted;
    }

pub turned-away : {W C : Type 0} (does : W → Did → W → Type 0) (ticks : C → ℤ → C → Type 0) (failures : W → ℕ) (own known peer : List ℕ) (answer : Result (List ℕ) Ended) (end : Ended)
    (fault : SlotFault) (wire after : W) (clock : C) (unread left : List ℕ) → known ≡ own → answer ≡ Ok peer → unread ≡ [] → Greeted does known GREETING_READS answer wire unread after left
    → failures wire ≤ failures after → (fault ≡ faults.UnknownPeer) ⊎ (fault ≡ faults.AlreadyOn) → end ≡ turned_by fault → ServesConnection does ticks failures own wire clock end
turned-away does ticks failures own known peer answer end fault wire after clock unread left same gives empty greeted kept why ends =
    record {
      wire_after = after;
      clock_after = clock;
      answer = Ok peer;
      greeted = after;
      unread = left;
      greets = greeted-so does own known answer (Ok peer) wire after unread left same gives empty greeted;
      follows = inl (record { fault = fault; why = why; ends = ends; same_wire = refl; same_clock = refl });
      counted = subst (λ end. IsCounted (failures wire) (failures after) end) (sym ends) (turned-counted fault (failures wire) (failures after) kept);
    }

pub served-out : {W C : Type 0} (does : W → Did → W → Type 0) (ticks : C → ℤ → C → Type 0) (failures : W → ℕ) (own known peer : List ℕ) (answer : Result (List ℕ) Ended) (end : Ended)
    (wire after last_wire : W) (clock last_clock : C) (unread left : List ℕ) (session last : State) (seat given last_seat : Seated)
    → known ≡ own → answer ≡ Ok peer → unread ≡ [] → Greeted does known GREETING_READS answer wire unread after left
    → failures wire ≤ failures after → IsWaiting peer session → given.peer ≡ peer → seat ≡ given → are_submits seat.receipts ≡ true
    → ServedUntil does ticks TakesAs ⊤ end (parties after clock seat session) left (parties last_wire last_clock last_seat last)
    → IsCounted (failures after) (failures last_wire) end → ServesConnection does ticks failures own wire clock end
served-out does ticks failures own known peer answer end wire after last_wire clock last_clock unread left session last seat given last_seat same gives empty greeted kept waits of_peer is earlier served counted =
    record {
      wire_after = last_wire;
      clock_after = last_clock;
      answer = Ok peer;
      greeted = after;
      unread = left;
      greets = greeted-so does own known answer (Ok peer) wire after unread left same gives empty greeted;
      follows = inr (record {
        session = session;
        last = last;
        seat = seat;
        seat_after = last_seat;
        waits = waits;
        of_peer = ap (λ seat. seat.peer) is ∙ of_peer;
        earlier = earlier;
        served = served;
      });
      counted = counted-behind end (failures wire) (failures after) (failures last_wire) kept counted;
    }

-- the wire that it begins with, under another name
pub served-from : {W C : Type 0} (does : W → Did → W → Type 0) (ticks : C → ℤ → C → Type 0) (failures : W → ℕ) (own : List ℕ) (wire is : W) (clock : C) (end : Ended)
    → wire ≡ is → ServesConnection does ticks failures own wire clock end → ServesConnection does ticks failures own is clock end
served-from does ticks failures own wire is clock end same served = subst (λ wire. ServesConnection does ticks failures own wire clock end) same served
