-- What comes of wires that are served at once.
use Rattle.std.proofs.Common.{◌≡◌, ℕ, ◌<◌, List, [], ◌∷◌, ◌++◌, length, map, Option, Some, None, Result, Ok, Err, refl, sym, ap, subst, ◌∙◌, inl, inr, append_assoc, arith, slice_index_or, suc, take, drop, ℤ, IfSome, ◌&&◌, append-nil}
use Rattle.std.specs.List.{list_all}
use Rattle.std.proofs.Math.Seq.{take-append_seam}
use Rattle.std.proofs.lemmas.List.Folds.{list_all-append}
use Rattle.blot_types.specs.declared.command.Command.{Command}
use Rattle.blot_desk.specs.declared.{event.Event.TheVariants.Submit, event.Reply.Reply, fault.DeskFault.DeskFault, receipt.Receipt.Receipt}
use Rattle.blot_gateway.specs.declared.ended.Ended.{Ended}
use Rattle.blot_gateway.specs.Wires.{Did, Notice, StepByStep, hands}
use Rattle.blot_gateway.specs.Wires.Notice.{Handed, HeardOf}
use Rattle.blot_gateway.specs.AtOnce.{AddsSubmits, EachAdds, EachServed, Follows, IsServed, Keeps, WireParts, TakesReceipt, is_submit}

-- ---- the receipts of a seat

pub adds-none : (before after : List Receipt) → after ≡ before → AddsSubmits before after
adds-none before after same = record { more = []; joined = same ∙ sym (append-nil before); submits = refl }

adds-one : (before after : List Receipt) (command : Command) (answer : Result Reply DeskFault) → Keeps before command answer after → AddsSubmits before after
adds-one before after command (Ok reply) keeps =
    record { more = record { place = keeps.place; event = Submit command; reply = reply } ∷ []; joined = keeps.more; submits = refl }
adds-one before after command (Err fault) same = adds-none before after same

pub adds-on : (a b c : List Receipt) → AddsSubmits a b → AddsSubmits b c → AddsSubmits a c
adds-on a b c one two =
    record {
      more = one.more ++ two.more;
      joined = two.joined ∙ ap (λ front. front ++ two.more) one.joined ∙ append_assoc a one.more two.more;
      submits = list_all-append (λ receipt. is_submit receipt.event) one.more two.more ∙ ap (λ found. found && list_all (λ receipt. is_submit receipt.event) two.more) one.submits ∙ two.submits;
    }

-- the sink of a seat takes only submits
adds-notice : (notice : Notice) (before after : List Receipt) → hands TakesReceipt before notice after → AddsSubmits before after
adds-notice (Handed answered) before after takes = adds-one before after answered.command answered.answer takes
adds-notice (HeardOf text heard) before after same = adds-none before after same

adds-steps : (notices : List Notice) (before after : List Receipt) → StepByStep (hands TakesReceipt) before notices after → AddsSubmits before after
adds-steps [] before after same = adds-none before after same
adds-steps (notice ∷ notices) before after steps =
    adds-on before steps.0 after (adds-notice notice before steps.0 steps.1) (adds-steps notices steps.0 after steps.2)

adds-follows : {W C : Type 0} (does : W → Did → W → Type 0) (ticks : C → ℤ → C → Type 0) (answer : Result (List ℕ) Ended) (end : Ended) (unread : List ℕ)
    (before after : WireParts W C (List Receipt)) → Follows does ticks TakesReceipt answer end unread before after → AddsSubmits before.sink after.sink
adds-follows does ticks (Err cause) end unread before after follows = adds-none before.sink after.sink (ap (λ line. line.sink) follows.1)
adds-follows does ticks (Ok peer) end unread before after follows =
    elim follows [
      | inl turned ↦ adds-none before.sink after.sink (ap (λ line. line.sink) turned.same)
      | inr serves ↦ adds-steps serves.served.within.ends.notices before.sink after.sink serves.served.within.ends.happens.sink
    ]

adds-served : {W C : Type 0} (does : W → Did → W → Type 0) (ticks : C → ℤ → C → Type 0) (failures : W → ℕ) (own : List ℕ)
    (wire : W) (clock : C) (before : List Receipt) (end : Ended) (after : List Receipt) → IsServed does ticks failures own wire clock before end after → AddsSubmits before after
adds-served does ticks failures own wire clock before end after served =
    adds-follows does ticks served.serves.answer end served.serves.unread _ _ served.serves.follows

-- ---- many

pub each-adds : {W C : Type 0} (does : W → Did → W → Type 0) (ticks : C → ℤ → C → Type 0) (failures : W → ℕ) (own : List ℕ)
    (wires : List W) (clocks : List C) (seats : List (List Receipt)) (endings : List (Ended × List Receipt))
    → EachServed does ticks failures own wires clocks seats endings → EachAdds seats (map (λ ending. ending.1) endings)
each-adds does ticks failures own [] [] [] [] each = tt
each-adds does ticks failures own (wire ∷ wires) (clock ∷ clocks) (receipts ∷ seats) (ending ∷ endings) each =
    (adds-served does ticks failures own wire clock receipts ending.0 ending.1 each.0, each-adds does ticks failures own wires clocks seats endings each.1)
each-adds does ticks failures own wires clocks seats endings each = absurd each

first_of_wires : {W : Type 0} → List (Option W) → Option W
first_of_wires [] = None
first_of_wires (wire ∷ wires) = wire

later_wires : {W : Type 0} → List (Option W) → List (Option W)
later_wires [] = []
later_wires (wire ∷ wires) = wires

-- wires that are served at each place are served each in their order
each-at : {T W C : Type 0} (does : W → Did → W → Type 0) (ticks : C → ℤ → C → Type 0) (failures : W → ℕ) (own : List ℕ)
    (wire_of : T → Option W) (clock_of : T → C) (sink_of : T → List Receipt) (ended_of : T → Ended) (wires : List W) (before after : List T)
    → map wire_of before ≡ map Some wires → length after ≡ length before
    → ((i : ℕ) (d : T) → i < length before → IfSome (wire_of (slice_index_or before i d)) (λ wire. IsServed does ticks failures own wire
    (clock_of (slice_index_or before i d)) (sink_of (slice_index_or before i d)) (ended_of (slice_index_or after i d)) (sink_of (slice_index_or after i d))))
    → EachServed does ticks failures own wires (map clock_of before) (map sink_of before) (map (λ item. (ended_of item, sink_of item)) after)
unfolding first_of_wires later_wires
each-at does ticks failures own wire_of clock_of sink_of ended_of [] [] [] put long each = tt
each-at does ticks failures own wire_of clock_of sink_of ended_of (wire ∷ wires) (b ∷ before) (a ∷ after) put long each = (
  subst (λ found. IfSome found (λ wire. IsServed does ticks failures own wire (clock_of b) (sink_of b) (ended_of a) (sink_of a))) (ap first_of_wires put) (each 0 b (omega arith)),
  each-at does ticks failures own wire_of clock_of sink_of ended_of wires before after (ap later_wires put) (omega (arith, long)) (λ i d less. each (suc i) d (omega (arith, less))),
)
each-at does ticks failures own wire_of clock_of sink_of ended_of [] (b ∷ before) after put long each = absurd cc
each-at does ticks failures own wire_of clock_of sink_of ended_of (wire ∷ wires) [] after put long each = absurd cc
each-at does ticks failures own wire_of clock_of sink_of ended_of [] [] (a ∷ after) put long each = omega (arith, long)
each-at does ticks failures own wire_of clock_of sink_of ended_of (wire ∷ wires) (b ∷ before) [] put long each = omega (arith, long)

-- the connections that were put, and how each ended
pub each-served : {T W C : Type 0} (does : W → Did → W → Type 0) (ticks : C → ℤ → C → Type 0) (failures : W → ℕ) (own : List ℕ)
    (wire_of : T → Option W) (clock_of : T → C) (sink_of : T → List Receipt) (ended_of : T → Ended) (wires : List W) (clocks : List C) (seats : List (List Receipt))
    (endings : List (Ended × List Receipt)) (put before after : List T) (count : ℕ)
    → before ≡ put → map wire_of put ≡ map Some wires → map clock_of put ≡ clocks → map sink_of put ≡ seats → length after ≡ length before → length before ≡ count
    → ((i : ℕ) (d : T) → i < length before → IfSome (wire_of (slice_index_or before i d)) (λ wire. IsServed does ticks failures own wire
    (clock_of (slice_index_or before i d)) (sink_of (slice_index_or before i d)) (ended_of (slice_index_or after i d)) (sink_of (slice_index_or after i d))))
    → endings ≡ map (λ item. (ended_of item, sink_of item)) (take count (after ++ drop (length after) put))
    → EachServed does ticks failures own wires clocks seats endings
each-served does ticks failures own wire_of clock_of sink_of ended_of wires clocks seats endings put before after count same by_wires by_clocks by_seats long many each ended =
    let whole : take count (after ++ drop (length after) put) ≡ after = ap (λ n. take n (after ++ drop (length after) put)) (sym (long ∙ many)) ∙ take-append_seam after (drop (length after) put) in
    let all = each-at does ticks failures own wire_of clock_of sink_of ended_of wires before after (ap (map wire_of) same ∙ by_wires) long each in
    subst (λ found. EachServed does ticks failures own wires clocks seats found) (sym (ended ∙ ap (map (λ item. (ended_of item, sink_of item))) whole))
    (subst (λ found. EachServed does ticks failures own wires clocks found (map (λ item. (ended_of item, sink_of item)) after)) (ap (map sink_of) same ∙ by_seats)
    (subst (λ found. EachServed does ticks failures own wires found (map sink_of before) (map (λ item. (ended_of item, sink_of item)) after)) (ap (map clock_of) same ∙ by_clocks) all))
