-- What a day comes to that is kept.
use Rattle.std.proofs.Common.{◌≡◌, ◌<◌, ℕ, List, [], ◌∷◌, length, ap, subst, sym, ◌∙◌, arith, ℤ, Option, Some, IfOk, IsOk, OnOk, Result, codes, All, slice_get}
use Rattle.std.proofs.lemmas.Result.{IfOk-weaker}
use Rattle.blot_desk.specs.declared.{event.Event.Event, receipt.Receipt.Receipt}
use Rattle.blot_stream.proofs.ResultLemmas.{ok-says}
use Rattle.blot_operator.specs.Seats.{Named}
use Rattle.blot_recovery.specs.declared.{operators.KeptOperators.KeptOperators, parties.KeptOperator.KeptOperator, parties.KeptPeer.KeptPeer}
use Rattle.blot_recovery.specs.Opening.{OpensWith}
use Rattle.blot_recovery.specs.Parties.{AreKeptOperators, IsFirst, IsKeptOperator, IsKeptPeer, brought_by, is_operator, operator_names}
use Rattle.blotter.specs.Keeping.{IsListed, KeptDayServed, ServesFirst, ServesKept}
use Rattle.blotter.specs.Serving.{KeptReported, ServedBy}

pub all-listed : {L : Type 0} (own text : List ℕ) (peers : List (KeptPeer L)) → All (IsKeptPeer own text) peers → All IsListed peers
all-listed own text peers all k d less =
    let kept = all k d less in
    record { submits = kept.submits; range = kept.range }

pub serves-kept : {W T E U F : Type 0} (contents : W → Option (List ℕ)) (answered : Result T E) (reported : Result U F) (events : List Event) (input : Option (List ℕ))
    (seats others : List (List Receipt)) (first seat : Named) (day : ℤ) (before : Option (List ℕ)) (between new : W) → first ≡ seat → IsOk answered → IsOk reported
    → OnOk answered (ServedBy (Unit {0}) first others input before (contents between) seats)
    → OnOk reported (KeptReported (Unit {0}) events day seats (contents between) (contents new)) → ServesKept events seat others input day before (contents new)
serves-kept contents answered reported events input seats others first seat day before between new same is done served kept =
    record {
      between = contents between;
      seats = seats;
      served = subst (λ found. ServedBy (Unit {0}) found others input before (contents between) seats) same (ok-says answered is served);
      reported = ok-says reported done kept;
    }

-- the first of some operators
pub some-first : {L : Type 0} (name : List ℕ) (operators : List (KeptOperator L)) → IsFirst (Some name) (operator_names operators) → 0 < length operators
some-first name [] first = absurd cc
some-first name (operator ∷ operators) first = omega arith

first-named : {L : Type 0} (name : List ℕ) (operators : List (KeptOperator L)) (operator : KeptOperator L) → IsFirst (Some name) (operator_names operators)
    → slice_get operators 0 ≡ Some operator → operator.name ≡ name
first-named name [] operator first is = absurd cc
first-named name (one ∷ operators) operator first is =
    let same : one ≡ operator = cc in
    let named : one.name ≡ name = cc in
    ap (λ (operator : KeptOperator _). operator.name) (sym same) ∙ named

first-kept : {L : Type 0} (text : List ℕ) (operators : List (KeptOperator L)) (operator : KeptOperator L) → All (IsKeptOperator text) operators
    → slice_get operators 0 ≡ Some operator → IsKeptOperator text operator
first-kept text [] operator all is = absurd cc
first-kept text (one ∷ operators) operator all is =
    let same : one ≡ operator = cc in subst (IsKeptOperator text) same (all 0 one (omega arith))

pub kept-day : {D E L : Type 0} (own found text : List ℕ) (events : D → List Event) (result : Result D E) (operators : KeptOperators L) (known : List ℕ) (input : Option (List ℕ)) (day : ℤ)
    (before after : Option (List ℕ)) → OpensWith own day found text → AreKeptOperators text operators → IsFirst (Some known) (operator_names operators.named.items) → known ≡ codes "operator"
    → IfOk result (λ last. ServesFirst (events last) operators.named.items input day before after) → IfOk result (λ last. KeptDayServed own found (events last) input day before after)
kept-day own found text events result operators known input day before after opens kept first is serves =
    IfOk-weaker result _ _ (λ last served.
    let name = first-named known operators.named.items served.first first served.first_is ∙ is in
    record {
      text = text;
      opens = opens;
      seat = served.first.seat;
      others = served.others;
      had = (first-kept text operators.named.items served.first kept.named served.first_is).events ∙ ap (λ name. brought_by (is_operator name) text) name;
      served = subst (λ name. ServesKept (events last) (record { name = name; receipts = served.first.seat }) served.others input day before after) name served.served;
    }) serves
