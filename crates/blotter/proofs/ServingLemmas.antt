-- What a day that is served comes to.
use Rattle.std.proofs.Common.{◌≡◌, ℕ, List, [], ◌∷◌, ◌++◌, length, replicate, refl, sym, ap, subst, ◌∙◌, arith, zero, suc, ℤ, codes, true, false, ◌&&◌, Option, IsOk, OnOk, OnErr, Result, Ok, Err, is_err, All}
use Rattle.std.specs.Io.KnownBytes.{IsAtEnd}
use Rattle.std.specs.List.{list_all}
use Rattle.blot_types.proofs.GeneralLemmas.{on-ok}
use Rattle.blot_desk.specs.declared.{event.Event.Event, event.Recorded.Recorded, receipt.Receipt.Receipt}
use Rattle.blot_desk.specs.Keeping.{kept_events}
use Rattle.blot_gateway.specs.AtOnce.{AddsSubmits, EachAdds, are_submits}
use Rattle.blot_gateway.proofs.AtOnceLemmas.{adds-none, adds-on, each-adds}
use Rattle.blot_stream.proofs.ResultLemmas.{ok-says}
use Rattle.blot_sockets.specs.Sockets.{ClockTicks, SocketDoes}
use Rattle.blot_operator.specs.Dialogue.{HeardOf, TellsOf, open_ways, seat_ways}
use Rattle.blot_operator.specs.Seats.{Named}
use Rattle.blotter.proofs.RoundLemmas.{as-many}
use Rattle.blotter.specs.Rounds.{RoundsLead, ServesRound}
use Rattle.blotter.specs.Serving.{DayServed, KeptReported, OpenDayServed, Reported, ReportedOf, ServedBy}

-- ---- what rounds add

-- no round adds nothing
each-none : (seats : List (List Receipt)) → EachAdds seats seats
each-none [] = tt
each-none (receipts ∷ seats) = (adds-none receipts receipts refl, each-none seats)

-- one round after another
each-on : (a b c : List (List Receipt)) → EachAdds a b → EachAdds b c → EachAdds a c
each-on [] [] [] one two = tt
each-on (x ∷ a) (y ∷ b) (z ∷ c) one two = (adds-on x y z one.0 two.0, each-on a b c one.1 two.1)
each-on [] [] (z ∷ c) one two = absurd two
each-on [] (y ∷ b) c one two = absurd one
each-on (x ∷ a) [] c one two = absurd one
each-on (x ∷ a) (y ∷ b) [] one two = absurd two

-- a round adds receipts of submits
pub round-adds : {R S : Type 0} (remaining contents : S → Option (List ℕ)) (own : List ℕ) (before after : List (List Receipt))
    → ServesRound R remaining contents own before after → EachAdds before after
round-adds remaining contents own before after round =
    subst (λ seats. EachAdds before seats) (sym round.seats)
    (each-adds (SocketDoes remaining contents) ClockTicks (λ socket. socket.faults) own round.wires round.clocks before round.endings round.served)

-- and so do rounds
rounds-add : (round : List (List Receipt) → List (List Receipt) → Type 0) → ((before after : List (List Receipt)) → round before after → EachAdds before after)
    → (count : ℕ) (before after : List (List Receipt)) → RoundsLead round count before after → EachAdds before after
rounds-add round adds zero before after same = subst (λ seats. EachAdds before seats) (sym same) (each-none before)
rounds-add round adds (suc count) before after rounds =
    each-on before rounds.0 after (rounds-add round adds count before rounds.0 rounds.1) (adds rounds.0 after rounds.2)

-- what was empty has receipts of submits alone
adds-submits : (before after : List Receipt) → before ≡ [] → AddsSubmits before after → are_submits after ≡ true
adds-submits before after empty adds = ap are_submits (adds.joined ∙ ap (λ front. front ++ adds.more) empty) ∙ adds.submits

-- and so has each seat
each-submits : (before after : List (List Receipt)) → All (λ receipts. receipts ≡ []) before → EachAdds before after → list_all are_submits after ≡ true
each-submits [] [] empty adds = refl
each-submits (x ∷ before) (y ∷ after) empty adds =
    ap (λ found. found && list_all are_submits after) (adds-submits x y (empty 0 x (omega arith)) adds.0)
    ∙ each-submits before after (λ k d less. empty (suc k) d (omega (arith, less))) adds.1
each-submits [] (y ∷ after) empty adds = absurd adds
each-submits (x ∷ before) [] empty adds = absurd adds

-- seats that are all empty are just so many
all-empty : (seats : List (List Receipt)) → All (λ receipts. receipts ≡ []) seats → seats ≡ replicate (length seats) []
all-empty [] empty = refl
all-empty (x ∷ seats) empty =
    let first : x ≡ [] = empty 0 x (omega arith) in
    let others : seats ≡ replicate (length seats) [] = all-empty seats (λ k d less. empty (suc k) d (omega (arith, less))) in
    cc

-- ---- a day

-- what a failure says
pub err-has : {T E P : Type 0} (result : Result T E) (e : E) → result ≡ Err e → OnErr result P → P
err-has (Ok x) e is p = absurd cc
err-has (Err y) e is p = p

-- what an operator with an empty seat is told, where the lines come to their end
pub tells-all : {T E : Type 0} (answered : Result T E) (input : Option (List ℕ)) (first last : List Receipt) (before after : Option (List ℕ)) → first ≡ [] → IsOk answered
    → OnOk answered (TellsOf seat_ways first input last before after) → TellsOf seat_ways [] input last before after
tells-all answered input first last before after empty is all =
    subst (λ found. TellsOf seat_ways found input last before after) empty (ok-says answered is all)

-- an input that is left so
pub at-end : {R : Type 0} (remaining : R → Option (List ℕ)) (left last : R) → IsAtEnd (remaining left) → left ≡ last → IsAtEnd (remaining last)
at-end remaining left last ended same = subst (λ found. IsAtEnd (remaining found)) same ended

-- a day that is served, of its rounds, its lines and its report, which leave the output so
pub is-served : {W : Type 0} (contents : W → Option (List ℕ)) (round : List (List Receipt) → List (List Receipt) → Type 0) (rounds : ℕ) (input : Option (List ℕ))
    (opened brokers : List (List Receipt)) (operator : List Receipt) (sessions : ℕ) (day : ℤ) (before : Option (List ℕ)) (between new last : W)
    → ((before after : List (List Receipt)) → round before after → EachAdds before after) → length opened ≡ sessions → All (λ receipts. receipts ≡ []) opened
    → RoundsLead round rounds opened brokers → TellsOf seat_ways [] input operator before (contents between) → Reported day (brokers ++ (operator ∷ [])) (contents between) (contents new) → new ≡ last
    → DayServed round rounds input sessions day before (contents last)
is-served contents round rounds input opened brokers operator sessions day before between new last adds many empty led told reported same =
    let added = rounds-add round adds rounds opened brokers led in
    let start : opened ≡ replicate sessions [] = all-empty opened empty ∙ ap (λ count. replicate count []) many in
    record {
      brokers = brokers;
      operator = operator;
      between = contents between;
      served = subst (λ seats. RoundsLead round rounds seats brokers) start led;
      count = as-many opened brokers added ∙ many;
      submits = each-submits opened brokers empty added;
      told = told;
      reported = subst (λ found. Reported day (brokers ++ (operator ∷ [])) (contents between) (contents found)) same reported;
    }

-- what holds once a sync was done holds of all that follows
pub is-done : {T E U F : Type 0} (P : Type 0) (synced : Result T E) (reported : Result U F) → is_err synced ≡ false → OnOk synced P → OnOk reported P
is-done P (Ok x) (Ok y) is holds = holds
is-done P (Ok x) (Err fault) is holds = tt
is-done P (Err fault) reported is holds = absurd cc

-- a report of a history, of which some events are kept
pub is-kept : {T E : Type 0} (reported : Result T E) (IsKept : Type 0) (events kept : List Event) (history : List Recorded) (day : ℤ) (seats : List (List Receipt)) (before after : Option (List ℕ))
    → kept ≡ events → (IsKept → events ≡ kept_events history) → OnOk reported (ReportedOf history day seats before after)
    → OnOk reported (KeptReported IsKept kept day seats before after)
is-kept reported IsKept events kept history day seats before after same is all =
    on-ok reported all (λ of. record { history = history; reported = of; kept = λ keeps. same ∙ is keeps })

-- and a report of a history is one of some history
pub of-some : {T E : Type 0} (reported : Result T E) (IsKept : Type 0) (events : List Event) (day : ℤ) (seats : List (List Receipt)) (before after : Option (List ℕ))
    → OnOk reported (KeptReported IsKept events day seats before after) → OnOk reported (Reported day seats before after)
of-some (Ok x) IsKept events day seats before after kept = (kept.history, kept.reported)
of-some (Err fault) IsKept events day seats before after kept = tt

-- the same of the same seats
pub of-seats : {T E : Type 0} (reported : Result T E) (day : ℤ) (all seats : List (List Receipt)) (before after : Option (List ℕ)) → all ≡ seats
    → OnOk reported (Reported day all before after) → OnOk reported (Reported day seats before after)
of-seats reported day all seats before after same holds = subst (λ seats. OnOk reported (Reported day seats before after)) same holds

-- an operator is told the answers, and these are the seats then
pub served-by : {T E : Type 0} (answered : Result T E) (IsKept : Type 0) (seat operator : Named) (others brokers seats : List (List Receipt)) (input before after : Option (List ℕ))
    → OnOk answered (HeardOf (open_ways IsKept) seat input operator before after) → All (λ receipts. are_submits receipts ≡ true) brokers
    → seats ≡ (brokers ++ (operator.receipts ∷ [])) ++ others → OnOk answered (ServedBy IsKept seat others input before after seats)
served-by answered IsKept seat operator others brokers seats input before after heard submits are =
    on-ok answered heard (λ told. record { brokers = brokers; operator = operator; submits = submits; told = told; seats_are = are })

-- an open day that is served, of its lines and its report, which leave the output so
pub is-open-day : {W T E : Type 0} (contents : W → Option (List ℕ)) (answered : Result T E) (input : Option (List ℕ)) (seats others : List (List Receipt)) (first : Named)
    (name : List ℕ) (receipts : List Receipt) (day : ℤ) (before : Option (List ℕ)) (between new last : W) → first ≡ record { name = name; receipts = receipts }
    → name ≡ codes "operator" → receipts ≡ [] → others ≡ [] → IsOk answered → OnOk answered (ServedBy ⊥ first others input before (contents between) seats)
    → Reported day seats (contents between) (contents new) → new ≡ last → OpenDayServed input day before (contents last)
is-open-day contents answered input seats others first name receipts day before between new last is named empty none done served reported same =
    record {
      between = contents between;
      seats = seats;
      served =
          subst (λ others. ServedBy ⊥ (record { name = codes "operator"; receipts = [] }) others input before (contents between) seats) none
          (subst (λ receipts. ServedBy ⊥ (record { name = codes "operator"; receipts = receipts }) others input before (contents between) seats) empty
          (subst (λ name. ServedBy ⊥ (record { name = name; receipts = receipts }) others input before (contents between) seats) named
          (subst (λ seat. ServedBy ⊥ seat others input before (contents between) seats) is (ok-says answered done served))));
      reported = subst (λ found. Reported day seats (contents between) (contents found)) same reported;
    }
