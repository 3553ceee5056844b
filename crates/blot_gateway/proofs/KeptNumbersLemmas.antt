-- What is kept of a session says the truth of its numbers.
use Rattle.std.proofs.Common.{◌≡◌, ℕ, ◌+◌, ◌<◌, ◌≤◌, Bool, true, false, List, [], ◌∷◌, ◌++◌, map, Option, Some, None, Ok, Err, refl, sym, ap, subst, ◌∙◌, inl, inr, arith, ◌≢◌, ◌⊎◌, ◌==◌, All, nat_lt, not, is_some, ℤ, ◌&&◌, ◌||◌, if◌then◌else◌, Contains, flat_map, eqb-true, append-nil}
use Rattle.std.specs.List.{list_all}
use Rattle.std.proofs.lemmas.Bool.{and_parts, cases_Bool, cond-false, cond-true, cond_both, false≢true}
use Rattle.std.proofs.lemmas.List.Concat.{flat_map-append}
use Rattle.std.proofs.lemmas.List.Elements.{All-append, All-cons, All-nil, All-weaker, Contains-append_right}
use Rattle.std.proofs.lemmas.List.Sums.{fold-append}
use Rattle.blot_session.specs.declared.{action.Action.Action, state.Phase.Phase, state.State.State}
use Rattle.blot_session.specs.declared.action.Action.TheVariants.{Close, Deliver, Send}
use Rattle.blot_session.specs.declared.state.Phase.TheVariants as phases
use Rattle.blot_session.specs.Runs.{AreMet, Call, HasNoReset, Meets, Numbered, delivered_by, delivered_of, outcome, said_by}
use Rattle.blot_session.specs.Runs.Call.{Closing, Frame, Reply, Stop, Tick, WaitAgain}
use Rattle.blot_session.specs.Sending.{CountUp, is_of_connection, numbers_sent}
use Rattle.blot_session.specs.States.{IsAwaiting, IsIdle, awaited_of, phase_of}
use Rattle.blot_session.proofs.SendingLemmas.{IsUnspent, MovesNumbers, closed_idle, moves-numbers}
use Rattle.blot_session.proofs.StateLemmas.{idle-none}
use Rattle.blot_gateway.specs.declared.{calling.Before.Before, wire.Heard.Heard}
use Rattle.blot_gateway.specs.Hearing.{before_frame, heard, heard_by, is_on, is_renumbered, word_of}
use Rattle.blot_gateway.specs.KeptNumbers.{AreKept, KeptNumber, KeepsNumbers, kept_numbers_in, kept_numbers_of, expected_after, expected_by, kept_by, next_after, next_by, sent_number, sent_numbers}
use Rattle.blot_gateway.specs.KeptNumbers.KeptNumber.{Taken, Numbers, Sent}
use Rattle.blot_gateway.specs.Serving.{noticed_by, noticed_in}

-- ---- beginnings

-- a beginning of two lists is one of the first, or all of that and a beginning of the second
cut : {A : Type 0} (first second front back : List A) → first ++ second ≡ front ++ back
    → ((mid : List A) × (first ≡ front ++ mid)) ⊎ ((rest : List A) × ((front ≡ first ++ rest) × (second ≡ rest ++ back)))
cut [] second front back is = inr (front, (refl, is))
cut (x ∷ first) second [] back is = inl (x ∷ first, refl)
cut (x ∷ first) second (y ∷ front) back is =
    let heads : x ≡ y = cc in
    let tails : first ++ second ≡ front ++ back = cc in
    elim (cut first second front back tails) [
      | inl here ↦ inl (here.0, (let same = here.1 in cc))
      | inr there ↦ inr (there.0, ((let same = there.1.0 in cc), there.1.1))
    ]

abbrev AllBelow : ℕ → List ℕ → Type 0
AllBelow next numbers = All (λ number. number < next) numbers

-- ---- what is sent

-- what a beginning of the messages that a call sends says: the next number isn't below the first of them, nor any number that was sent, and the expected
-- number stays
record SendsWell (next start : ℕ) (front : List KeptNumber) : Type 0 where
  pub low : next ≤ next_by start front
  pub above : AllBelow (next_by start front) (sent_numbers front)
  pub same : (expected : ℕ) → expected_by expected front ≡ expected

sends-none : (next start : ℕ) → next ≤ start → SendsWell next start []
sends-none next start low = record { low = low; above = All-nil _; same = λ expected. refl }

sent-front : (numbers : List ℕ) (next start last : ℕ) (front back : List KeptNumber) → next ≤ start → CountUp next numbers last → map Sent numbers ≡ front ++ back → SendsWell next start front
sent-front numbers next start last [] back low counts is = sends-none next start low
sent-front [] next start last (entry ∷ front) back low counts is = absurd cc
sent-front (number ∷ numbers) next start last (entry ∷ front) back low counts is =
    let first : Sent number ≡ entry = cc in
    let behind : map Sent numbers ≡ front ++ back = cc in
    let here : number ≡ next = counts.0 in
    let well = sent-front numbers (next + 1) (next + 1) last front back (omega arith) counts.1 behind in
    let least = well.low in
    let start_is : number + 1 ≡ next + 1 = ap (λ n. n + 1) here in
    subst (λ entry. SendsWell next start (entry ∷ front)) first
    (subst (λ begun. SendsWell next start (Sent begun ∷ front)) (sym here)
    (record { low = omega (arith, least); above = All-cons (λ sent. sent < next_by (next + 1) front) next (sent_numbers front) (omega (arith, least)) well.above; same = λ expected. well.same expected }))

sent-end : (numbers : List ℕ) (next start last : ℕ) → (start ≡ next) ⊎ (start ≡ last) → CountUp next numbers last → next_by start (map Sent numbers) ≡ last
sent-end [] next start last (inl is) counts = is ∙ sym counts
sent-end [] next start last (inr is) counts = is
sent-end (number ∷ numbers) next start last either counts =
    subst (λ begun. next_by (begun + 1) (map Sent numbers) ≡ last) (sym counts.0) (sent-end numbers (next + 1) (next + 1) last (inl refl) counts.1)

sent-stays : (numbers : List ℕ) (expected : ℕ) → expected_by expected (map Sent numbers) ≡ expected
sent-stays [] expected = refl
sent-stays (number ∷ numbers) expected = sent-stays numbers expected

count-grows : (numbers : List ℕ) (next last : ℕ) → CountUp next numbers last → next ≤ last
count-grows [] next last counts = omega (arith, counts)
count-grows (number ∷ numbers) next last counts = (let more = count-grows numbers (next + 1) last counts.1 in omega (arith, more))

-- ---- one call

-- what a call keeps gives the numbers of the session after it; and what a beginning of that says
record Keeps (state after : State) (entries : List KeptNumber) : Type 0 where
  pub expected : expected_by state.expected entries ≡ after.expected
  pub next : next_by state.next entries ≡ after.next
  pub front : (front mid : List KeptNumber) → entries ≡ front ++ mid → expected_by state.expected front ≤ after.expected
  pub low : (front mid : List KeptNumber) → entries ≡ front ++ mid → state.next ≤ next_by state.next front
  pub above : (front mid : List KeptNumber) → entries ≡ front ++ mid → AllBelow (next_by state.next front) (sent_numbers front)

-- messages are sent, and the expected number stays
keeps-sent : (state after : State) (numbers : List ℕ) → CountUp state.next numbers after.next → after.expected ≡ state.expected → Keeps state after (map Sent numbers)
keeps-sent state after numbers counts same =
    record {
      expected = sent-stays numbers state.expected ∙ sym same;
      next = sent-end numbers state.next state.next after.next (inl refl) counts;
      front = λ f mid is. (let stays = (sent-front numbers state.next state.next after.next f mid (omega arith) counts is).same state.expected in omega (arith, same, stays));
      low = λ f mid is. (sent-front numbers state.next state.next after.next f mid (omega arith) counts is).low;
      above = λ f mid is. (sent-front numbers state.next state.next after.next f mid (omega arith) counts is).above;
    }

-- an entry is kept before them that leaves these two numbers
record Fronts (state after : State) (front : List KeptNumber) : Type 0 where
  pub expected : expected_by state.expected front ≤ after.expected
  pub low : state.next ≤ next_by state.next front
  pub above : AllBelow (next_by state.next front) (sent_numbers front)

first-front : (state after : State) (first : KeptNumber) (start : ℕ) (numbers : List ℕ) (front mid : List KeptNumber) → state.next ≤ start → next_after state.next first ≡ start
    → sent_number first ≡ [] → expected_after state.expected first ≡ after.expected → state.expected ≤ after.expected → CountUp state.next numbers after.next
    → first ∷ map Sent numbers ≡ front ++ mid → Fronts state after front
first-front state after first start numbers [] mid low begins sends leaves grows counts is = record { expected = grows; low = omega arith; above = All-nil _ }
first-front state after first start numbers (entry ∷ front) mid low begins sends leaves grows counts is =
    let same : first ≡ entry = cc in
    let behind : map Sent numbers ≡ front ++ mid = cc in
    let well = sent-front numbers state.next start after.next front mid low counts behind in
    let stays : expected_by (expected_after state.expected first) front ≡ after.expected = well.same (expected_after state.expected first) ∙ leaves in
    subst (λ entry. Fronts state after (entry ∷ front)) same
    (record {
      expected = omega (arith, stays);
      low = subst (λ begun. state.next ≤ next_by begun front) (sym begins) well.low;
      above = subst (λ begun. AllBelow (next_by begun front) (sent_number first ++ sent_numbers front)) (sym begins)
          (subst (λ found. AllBelow (next_by start front) (found ++ sent_numbers front)) (sym sends) well.above);
    })

keeps-first : (state after : State) (first : KeptNumber) (numbers : List ℕ) → (next_after state.next first ≡ state.next) ⊎ (next_after state.next first ≡ after.next)
    → sent_number first ≡ [] → expected_after state.expected first ≡ after.expected → state.expected ≤ after.expected → CountUp state.next numbers after.next
    → Keeps state after (first ∷ map Sent numbers)
keeps-first state after first numbers either sends leaves grows counts =
    let rises = count-grows numbers state.next after.next counts in
    let low : state.next ≤ next_after state.next first = from either rises in
    let fronts : (f mid : List KeptNumber) → first ∷ map Sent numbers ≡ f ++ mid → Fronts state after f =
    λ f mid is. first-front state after first (next_after state.next first) numbers f mid low refl sends leaves grows counts is in
    record {
      expected = ap (λ begun. expected_by begun (map Sent numbers)) leaves ∙ sent-stays numbers after.expected;
      next = sent-end numbers state.next (next_after state.next first) after.next either counts;
      front = λ f mid is. (fronts f mid is).expected;
      low = λ f mid is. (fronts f mid is).low;
      above = λ f mid is. (fronts f mid is).above;
    }
  where
    from : (next_after state.next first ≡ state.next) ⊎ (next_after state.next first ≡ after.next) → state.next ≤ after.next → state.next ≤ next_after state.next first
    from (inl is) rises = omega (arith, is)
    from (inr is) rises = omega (arith, is, rises)

-- ---- a frame

-- what is kept of a frame of which the sink hears, or doesn't
abbrev kept_heard : Option Heard → List KeptNumber
kept_heard None = []
kept_heard (Some heard) = if heard.is_renumbered then Numbers heard.expected heard.next ∷ [] else []

kept-word : (state : State) (text : List ℕ) (heard : Option Heard) → flat_map (kept_by state) (map noticed_by (word_of text heard)) ≡ kept_heard heard
kept-word state text None = refl
kept-word state text (Some heard) = append-nil (kept_heard (Some heard))

same_expected : (before : Before) (session : State) → is_renumbered before session ≡ false → session.expected ≡ before.expected
same_expected before session kept =
    eqb-true session.expected before.expected (middle (not (is_on before.phase)) (session.expected == before.expected) (nat_lt session.next before.next) kept)
  where
    middle : (a b c : Bool) → (a || not b || c) ≡ false → b ≡ true
    middle true b c is = absurd (false≢true (sym is))
    middle false true c is = refl
    middle false false c is = absurd (false≢true (sym is))

-- nothing is kept where the expected number is as it was, or else both numbers are
heard-kept : (before : Before) (session : State) → (IsAwaiting session → session.expected ≡ before.expected)
    → (is_on before.phase ≡ false → is_on (phase_of session) ≡ false → session.expected ≡ before.expected)
    → ((kept_heard (heard before session) ≡ []) × (session.expected ≡ before.expected)) ⊎ (kept_heard (heard before session) ≡ Numbers session.expected session.next ∷ [])
heard-kept before session quiet off =
    let some : Heard = record { met = before.met; is_renumbered = is_renumbered before session; expected = session.expected; next = session.next } in
    cond_both (is_some (awaited_of session) || (not (is_on before.phase) && not (is_on (phase_of session)))) None (Some some)
    (λ found. ((kept_heard found ≡ []) × (session.expected ≡ before.expected)) ⊎ (kept_heard found ≡ Numbers session.expected session.next ∷ []))
    (λ y. inl (refl, unheard (is_some (awaited_of session)) (is_on before.phase) (is_on (phase_of session)) y quiet off))
    (λ n. elim (cases_Bool (is_renumbered before session)) [
      | inl new ↦ inr (cond-true (is_renumbered before session) (Numbers session.expected session.next ∷ []) [] new)
      | inr kept ↦ inl (cond-false (is_renumbered before session) (Numbers session.expected session.next ∷ []) [] kept, same_expected before session kept)
    ])
  where
    unheard : {P : Type 0} (awaits on after : Bool) → (awaits || (not on && not after)) ≡ true → (awaits ≡ true → P) → (on ≡ false → after ≡ false → P) → P
    unheard true on after y quiet off = quiet refl
    unheard false true after y quiet off = absurd (false≢true y)
    unheard false false true y quiet off = absurd (false≢true y)
    unheard false false false y quiet off = off refl refl

off-phase : (phase : Phase) → is_on phase ≡ false → phase ≢ phases.On
off-phase phase off is = false≢true (sym off ∙ ap is_on is)

frame-keeps : (state : State) (text : List ℕ) (now : ℤ) (moves : MovesNumbers state (Frame text now true) (outcome state (Frame text now true)))
    → Keeps state (outcome state (Frame text now true)).state (kept_numbers_in state (Frame text now true))
frame-keeps state text now moves =
    let after = (outcome state (Frame text now true)).state in
    let numbers = numbers_sent state (Frame text now true) in
    let word = kept-word state text (heard_by state text now) in
    let found = heard-kept (before_frame state (said_by text) now) after (λ awaits. (moves.awaits awaits).0)
    (λ before behind. moves.off (off-phase (phase_of state) before) (off-phase (phase_of after) behind)) in
    elim found [
      | inl none ↦ subst (λ kept. Keeps state after (kept ++ map Sent numbers)) (sym (word ∙ none.0)) (keeps-sent state after numbers moves.sent none.1)
      | inr both ↦ subst (λ kept. Keeps state after (kept ++ map Sent numbers)) (sym (word ∙ both))
          (keeps-first state after (Numbers after.expected after.next) numbers (inr refl) refl refl moves.grows moves.sent)
    ]

-- a call that tells the sink nothing, and leaves the expected number
rests-keeps : (state : State) (call : Call) → noticed_in state call ≡ [] → (moves : MovesNumbers state call (outcome state call)) → (outcome state call).state.expected ≡ state.expected
    → Keeps state (outcome state call).state (kept_numbers_in state call)
rests-keeps state call nothing moves same =
    subst (λ told. Keeps state (outcome state call).state (flat_map (kept_by state) told ++ map Sent (numbers_sent state call))) (sym nothing)
    (keeps-sent state (outcome state call).state (numbers_sent state call) moves.sent same)

call-keeps : (state : State) (call : Call) → is_of_connection call ≡ true → (moves : MovesNumbers state call (outcome state call)) → Keeps state (outcome state call).state (kept_numbers_in state call)
call-keeps state (Frame text now true) of moves = frame-keeps state text now moves
call-keeps state (Frame text now false) of moves = rests-keeps state (Frame text now false) refl moves refl
call-keeps state (Reply (Ok reply) now memory) of moves =
    let after = (outcome state (Reply (Ok reply) now memory)).state in
    keeps-first state after (Taken state.expected) (numbers_sent state (Reply (Ok reply) now memory)) (inl refl) refl (sym moves.expects) moves.grows moves.sent
call-keeps state (Reply (Err fault) now memory) of moves =
    keeps-sent state (outcome state (Reply (Err fault) now memory)).state (numbers_sent state (Reply (Err fault) now memory)) moves.sent moves.expects.0
call-keeps state (Tick now memory) of moves = rests-keeps state (Tick now memory) refl moves moves.expects
call-keeps state (Stop now memory) of moves = rests-keeps state (Stop now memory) refl moves moves.expects
call-keeps state Closing of moves = rests-keeps state Closing refl moves moves.expects
call-keeps state WaitAgain of moves = absurd (false≢true of)

-- ---- a closed session

-- nothing is kept of a session that is closed
closed-phase : (phase : Phase) → phase ≡ phases.Closed → is_on phase ≡ false
closed-phase phase is = ap is_on is

unheard-closed : (before : Before) (session : State) → before.phase ≡ phases.Closed → phase_of session ≡ phases.Closed → heard before session ≡ None
unheard-closed before session was is = cond-true _ None _ (nothing (is_some (awaited_of session)) (is_on before.phase) (is_on (phase_of session)) (closed-phase before.phase was) (closed-phase (phase_of session) is))
  where
    nothing : (awaits on after : Bool) → on ≡ false → after ≡ false → (awaits || (not on && not after)) ≡ true
    nothing true on after off shut = refl
    nothing false true after off shut = absurd (false≢true (sym off))
    nothing false false true off shut = absurd (false≢true (sym shut))
    nothing false false false off shut = refl

closed-entries : (state : State) (call : Call) → phase_of state ≡ phases.Closed → is_of_connection call ≡ true → Meets state call
    → MovesNumbers state call (outcome state call) → kept_numbers_in state call ≡ []
closed-entries state (Frame text now true) shut of met moves =
    let after = (outcome state (Frame text now true)).state in
    let none = unheard-closed (before_frame state (said_by text) now) after shut (moves.shut shut).0 in
    ap (λ heard. flat_map (kept_by state) (map noticed_by (word_of text heard)) ++ map Sent (numbers_sent state (Frame text now true))) none
    ∙ ap (map Sent) (moves.shut shut).1
closed-entries state (Frame text now false) shut of met moves = refl
closed-entries state (Reply reply now memory) shut of met moves = absurd (idle-none state (closed_idle state shut) met)
closed-entries state (Tick now memory) shut of met moves = ap (map Sent) (moves.shut shut).1
closed-entries state (Stop now memory) shut of met moves = ap (map Sent) (moves.shut shut).1
closed-entries state Closing shut of met moves = refl
closed-entries state WaitAgain shut of met moves = absurd (false≢true of)

-- ---- the law

-- where the expected number isn't above this one, nothing has to be kept of a command under it or under a later one
abbrev AllFrom : ℕ → List Numbered → Type 0
AllFrom number delivered = All (λ it. number ≤ it.number) delivered

delivered-from : (number : ℕ) (actions : List Action) → AllFrom number (delivered_by number actions)
delivered-from number [] = All-nil _
delivered-from number (Send bytes ∷ actions) = delivered-from number actions
delivered-from number (Deliver command ∷ actions) = All-cons (λ it. number ≤ it.number) _ (delivered_by number actions) (omega arith) (delivered-from number actions)
delivered-from number (Close reason ∷ actions) = delivered-from number actions

kept-none : (front : List KeptNumber) (expected number : ℕ) (delivered : List Numbered) → expected ≤ number → AllFrom number delivered → AreKept front expected delivered
kept-none front expected number delivered low all =
    All-weaker (λ it. number ≤ it.number) (λ it. it.number < expected → Contains front (Taken it.number)) (λ it first below. absurd (omega (arith, low, first, below))) delivered all

kept-on : (front : List KeptNumber) (expected : ℕ) (delivered more : List Numbered) → AreKept front expected delivered → AreKept front expected more → AreKept front expected (delivered ++ more)
kept-on front expected = All-append (λ it. it.number < expected → Contains front (Taken it.number))

kept-behind : (first front : List KeptNumber) (expected : ℕ) (delivered : List Numbered) → AreKept front expected delivered → AreKept (first ++ front) expected delivered
kept-behind first front expected =
    All-weaker (λ it. it.number < expected → Contains front (Taken it.number)) (λ it. it.number < expected → Contains (first ++ front) (Taken it.number))
    (λ it kept below. Contains-append_right first front (Taken it.number) (kept below))

kept-one : (front : List KeptNumber) (expected number : ℕ) (actions : List Action) → (number < expected → Contains front (Taken number)) → AreKept front expected (delivered_by number actions)
kept-one front expected number [] kept = All-nil _
kept-one front expected number (Send bytes ∷ actions) kept = kept-one front expected number actions kept
kept-one front expected number (Deliver command ∷ actions) kept =
    All-cons (λ it. it.number < expected → Contains front (Taken it.number)) _ (delivered_by number actions) kept (kept-one front expected number actions kept)
kept-one front expected number (Close reason ∷ actions) kept = kept-one front expected number actions kept

-- the law, at a session that may await a reply: then the command that awaits it counts too
record Law (state : State) (calls : List Call) : Type 0 where
  pub numbers : KeepsNumbers state calls
  pub late : AllFrom state.expected (delivered_of state calls)
  pub awaited : IsAwaiting state → (front back : List KeptNumber) → kept_numbers_of state calls ≡ front ++ back → state.expected < expected_by state.expected front
      → Contains front (Taken state.expected)
  pub shut : phase_of state ≡ phases.Closed → kept_numbers_of state calls ≡ []

no-front : (front back : List KeptNumber) → [] ≡ front ++ back → front ≡ []
no-front [] back is = refl
no-front (entry ∷ front) back is = absurd cc

law-none : (state : State) → Law state []
law-none state =
    record {
      numbers = record {
        taken = λ front back is. All-nil _;
        above = λ front back is. subst (λ found. AllBelow (next_by state.next found) (sent_numbers found)) (sym (no-front front back is)) (All-nil _);
        low = λ front back is. subst (λ found. state.next ≤ next_by state.next found) (sym (no-front front back is)) (omega arith);
        expected = refl;
        next = refl;
      };
      late = All-nil _;
      awaited = λ awaits front back is below. absurd
          (let same = ap (expected_by state.expected) (no-front front back is) in omega (arith, same, below));
      shut = λ is. refl;
    }

-- what is kept of a call, and then of more
expected-on : (state after : State) (entries rest : List KeptNumber) → Keeps state after entries → expected_by state.expected (entries ++ rest) ≡ expected_by after.expected rest
expected-on state after entries rest keeps = fold-append expected_after state.expected entries rest ∙ ap (λ expected. expected_by expected rest) keeps.expected

next-on : (state after : State) (entries rest : List KeptNumber) → Keeps state after entries → next_by state.next (entries ++ rest) ≡ next_by after.next rest
next-on state after entries rest keeps = fold-append next_after state.next entries rest ∙ ap (λ next. next_by next rest) keeps.next

-- a reply that was awaited: what was taken is kept first, and of what wasn't the session is closed
awaited-front : (state : State) (call : Call) (calls : List Call) → IsAwaiting state → Meets state call → is_of_connection call ≡ true
    → MovesNumbers state call (outcome state call) → Keeps state (outcome state call).state (kept_numbers_in state call) → Law (outcome state call).state calls
    → (front back : List KeptNumber) → kept_numbers_of state (call ∷ calls) ≡ front ++ back → state.expected < expected_by state.expected front → Contains front (Taken state.expected)
awaited-front state (Reply (Ok reply) now memory) calls awaits met of moves keeps later [] back is below = absurd (omega (arith, below))
awaited-front state (Reply (Ok reply) now memory) calls awaits met of moves keeps later (entry ∷ front) back is below =
    let first : Taken state.expected ≡ entry = cc in
    subst (λ entry. Contains (entry ∷ front) (Taken state.expected)) first (0, omega arith, refl)
awaited-front state (Reply (Err fault) now memory) calls awaits met of moves keeps later front back is below =
    let entries = kept_numbers_in state (Reply (Err fault) now memory) in
    let none = later.shut moves.expects.1 in
    let whole : entries ≡ front ++ back = sym (append-nil entries) ∙ ap (λ rest. entries ++ rest) (sym none) ∙ is in
    let most = keeps.front front back whole in
    let same = moves.expects.0 in
    absurd (omega (arith, most, same, below))
awaited-front state (Frame text now memory) calls awaits met of moves keeps later front back is below = absurd (idle-none state met awaits)
awaited-front state (Tick now memory) calls awaits met of moves keeps later front back is below = absurd (idle-none state met awaits)
awaited-front state (Stop now memory) calls awaits met of moves keeps later front back is below = absurd (idle-none state met awaits)
awaited-front state Closing calls awaits met of moves keeps later front back is below = absurd (idle-none state met awaits)
awaited-front state WaitAgain calls awaits met of moves keeps later front back is below = absurd (false≢true of)

-- of the commands that are delivered over the calls
taken-on : (state : State) (call : Call) (calls : List Call) → MovesNumbers state call (outcome state call) → Keeps state (outcome state call).state (kept_numbers_in state call)
    → Law (outcome state call).state calls → (front back : List KeptNumber) → kept_numbers_of state (call ∷ calls) ≡ front ++ back
    → AreKept front (expected_by state.expected front) (delivered_of state (call ∷ calls))
taken-on state call calls moves keeps later front back is =
    let given = outcome state call in
    let entries = kept_numbers_in state call in
    let delivered = delivered_by state.expected given.actions in
    let more = delivered_of given.state calls in
    elim (cut entries (kept_numbers_of given.state calls) front back is) [
      | inl here ↦
          let most = keeps.front front here.0 here.1 in
          kept-on front (expected_by state.expected front) delivered more
          (elim (moves.delivers state.expected) [
            | inl none ↦ subst (AreKept front (expected_by state.expected front)) (sym none) (All-nil _)
            | inr some ↦
                let same = (moves.awaits some).0 in
                kept-one front (expected_by state.expected front) state.expected given.actions (λ below. absurd (omega (arith, most, same, below)))
          ])
          (kept-none front (expected_by state.expected front) given.state.expected more most later.late)
      | inr there ↦
          let rest = there.0 in
          let on = expected-on state given.state entries rest keeps in
          subst (λ found. AreKept found (expected_by state.expected found) (delivered ++ more)) (sym there.1.0)
          (subst (λ expected. AreKept (entries ++ rest) expected (delivered ++ more)) (sym on)
          (kept-on (entries ++ rest) (expected_by given.state.expected rest) delivered more
          (elim (moves.delivers state.expected) [
            | inl none ↦ subst (AreKept (entries ++ rest) (expected_by given.state.expected rest)) (sym none) (All-nil _)
            | inr some ↦
                let same = (moves.awaits some).0 in
                kept-one (entries ++ rest) (expected_by given.state.expected rest) state.expected given.actions
                (λ below. Contains-append_right entries rest (Taken state.expected)
                (subst (λ number. Contains rest (Taken number)) same (later.awaited some rest back there.1.1 (omega (arith, same, below)))))
          ])
          (kept-behind entries rest (expected_by given.state.expected rest) more (later.numbers.taken rest back there.1.1))))
    ]

above-on : (state : State) (call : Call) (calls : List Call) → Keeps state (outcome state call).state (kept_numbers_in state call)
    → Law (outcome state call).state calls → (front back : List KeptNumber) → kept_numbers_of state (call ∷ calls) ≡ front ++ back → AllBelow (next_by state.next front) (sent_numbers front)
above-on state call calls keeps later front back is =
    let given = outcome state call in
    let entries = kept_numbers_in state call in
    elim (cut entries (kept_numbers_of given.state calls) front back is) [
      | inl here ↦ keeps.above front here.0 here.1
      | inr there ↦
          let rest = there.0 in
          let on = next-on state given.state entries rest keeps in
          let first = subst (λ next. AllBelow next (sent_numbers entries)) keeps.next (keeps.above entries [] (sym (append-nil entries))) in
          subst (λ found. AllBelow (next_by state.next found) (sent_numbers found)) (sym there.1.0)
          (subst (λ next. AllBelow next (sent_numbers (entries ++ rest))) (sym on)
          (subst (AllBelow (next_by given.state.next rest)) (sym (flat_map-append sent_number entries rest))
          (All-append (λ number. number < next_by given.state.next rest) (sent_numbers entries) (sent_numbers rest)
          (All-weaker (λ number. number < given.state.next) (λ number. number < next_by given.state.next rest)
          (λ number below. (let least = later.numbers.low rest back there.1.1 in omega (arith, below, least))) (sent_numbers entries) first)
          (later.numbers.above rest back there.1.1))))
    ]

low-on : (state : State) (call : Call) (calls : List Call) → MovesNumbers state call (outcome state call) → Keeps state (outcome state call).state (kept_numbers_in state call)
    → Law (outcome state call).state calls → (front back : List KeptNumber) → kept_numbers_of state (call ∷ calls) ≡ front ++ back → state.next ≤ next_by state.next front
low-on state call calls moves keeps later front back is =
    let given = outcome state call in
    let entries = kept_numbers_in state call in
    elim (cut entries (kept_numbers_of given.state calls) front back is) [
      | inl here ↦ keeps.low front here.0 here.1
      | inr there ↦
          let on = next-on state given.state entries there.0 keeps in
          let least = later.numbers.low there.0 back there.1.1 in
          let grows = count-grows (numbers_sent state call) state.next given.state.next moves.sent in
          subst (λ found. state.next ≤ next_by state.next found) (sym there.1.0) (omega (arith, on, least, grows))
    ]

late-on : (state : State) (call : Call) (calls : List Call) → MovesNumbers state call (outcome state call) → Law (outcome state call).state calls
    → AllFrom state.expected (delivered_of state (call ∷ calls))
late-on state call calls moves later =
    let given = outcome state call in
    All-append (λ it. state.expected ≤ it.number) (delivered_by state.expected given.actions) (delivered_of given.state calls) (delivered-from state.expected given.actions)
    (All-weaker (λ it. given.state.expected ≤ it.number) (λ it. state.expected ≤ it.number) (λ it first. (let grows = moves.grows in omega (arith, grows, first)))
    (delivered_of given.state calls) later.late)

law : (calls : List Call) (state : State) → (IsAwaiting state → IsUnspent state) → AreMet state calls → HasNoReset calls → list_all is_of_connection calls ≡ true → Law state calls
law [] state low met kept of = law-none state
law (call ∷ calls) state low met kept of =
    let given = outcome state call in
    let entries = kept_numbers_in state call in
    let both : (is_of_connection call ≡ true) × (list_all is_of_connection calls ≡ true) = and_parts (is_of_connection call) (list_all is_of_connection calls) of in
    let here = both.0 in
    let moves = moves-numbers state call met.0 kept.0 here low in
    let keeps = call-keeps state call here moves in
    let later = law calls given.state (λ awaits. (moves.awaits awaits).1) met.1 kept.1 both.1 in
    record {
      numbers = record {
        taken = taken-on state call calls moves keeps later;
        above = above-on state call calls keeps later;
        low = low-on state call calls moves keeps later;
        expected = expected-on state given.state entries (kept_numbers_of given.state calls) keeps ∙ later.numbers.expected;
        next = next-on state given.state entries (kept_numbers_of given.state calls) keeps ∙ later.numbers.next;
      };
      late = late-on state call calls moves later;
      awaited = λ awaits. awaited-front state call calls awaits met.0 here moves keeps later;
      shut = λ shut. ap (λ front. front ++ kept_numbers_of given.state calls) (closed-entries state call shut here met.0 moves) ∙ later.shut (moves.shut shut).0;
    }

pub keeps_all_numbers : (state : State) (calls : List Call) → IsIdle state → AreMet state calls → HasNoReset calls → list_all is_of_connection calls ≡ true → KeepsNumbers state calls
keeps_all_numbers state calls idle met kept of = (law calls state (λ awaits. absurd (idle-none state idle awaits)) met kept of).numbers
