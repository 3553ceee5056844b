-- Over any calls without a reset the numbers of what is taken rise, and each number that isn't taken was passed by a message.
use Rattle.std.proofs.Common.{◌≡◌, ◌⊎◌, ℕ, ◌+◌, ◌≤◌, ◌<◌, Bool, true, false, ◌&&◌, List, [], ◌∷◌, ◌++◌, Option, Some, None, Result, Ok, Err, refl, sym, ap, subst, ◌∙◌, arith, inl, inr, nat_lt, ℤ, is_some, ltb-true, ltb-false}
use Rattle.std.proofs.lemmas.Bool.{cond_both, cond-false, cases_Bool, false≢true}
use Rattle.blot_types.specs.declared.command.Command.{Command}
use Rattle.blot_fields.specs.declared.admin.Admin.TheVariants as admin
use Rattle.blot_fields.specs.declared.{fault.FieldFault.FieldFault, message.Body.Body, message.Message.Message}
use Rattle.blot_fields.specs.declared.message.Body.TheVariants as bodies
use Rattle.blot_session.specs.declared.{outbound.Outbound.Outbound, replies.NotTaken.NotTaken, replies.SeenReply.SeenReply, row.End.End, row.End.TheVariants.Delivers, row.Row.Row, row.Sends.Sends, state.State.State, carrying.TheConstants.LAST_NUMBER}
use Rattle.blot_session.specs.declared.row.Sends.TheVariants.{Nothing, One, Two}
use Rattle.blot_session.specs.Calls.{Outcome, behind, behind_all, carried_out, is_spent, spent, outcome_of, command_said, on_frame, row_of_reply}
use Rattle.blot_session.specs.Rows.{frame_row, stop_row, tick_row}
use Rattle.blot_session.specs.Runs.{Call, Numbered, outcome, said_by, quiet, behind_calls, delivered_by, taken_by, taken_behind, AreMet, is_reset, HasNoReset, RiseFrom, AreBelow, CoversBy, Covers, Bears, Passes, IsPassed, IsTaken, IsInOrder}
use Rattle.blot_session.specs.Runs.Call.{Frame, Reply, Tick, Stop, Closing, WaitAgain}
use Rattle.blot_session.specs.States.{closed, waiting_again, awaited_of, IsIdle, IsAwaiting}
use Rattle.blot_session.specs.Table.{acts, messages_of}
use Rattle.blot_session.proofs.RowLemmas.{Names, NamesBy, NumberSteps, GoesOn, HandsOn, frame-moves}
use Rattle.blot_session.proofs.StateLemmas.{spoken-awaited, steps-grow, unspent-last, idle-none, Rests, stop-rests, tick-rests, settles}

-- ---- what is sent changes no expected number, and nothing that is awaited

pub behind_all-expected : (messages : List Outbound) (state : State) (now : ℤ) → (behind_all state messages now).expected ≡ state.expected
behind_all-expected [] state now = refl
behind_all-expected (message ∷ messages) state now = behind_all-expected messages (behind state message now) now

pub behind_all-awaited : (messages : List Outbound) (state : State) (now : ℤ) → awaited_of (behind_all state messages now) ≡ awaited_of state
behind_all-awaited [] state now = refl
behind_all-awaited (message ∷ messages) state now = behind_all-awaited messages (behind state message now) now ∙ spoken-awaited now state.link

-- ---- one call

-- what is held is what awaits its reply, under the number that is expected; the numbers to send aren't used up then
abbrev pub HoldsNext : List Numbered → State → Type 0
HoldsNext last state = IsAwaiting state → (state.next ≤ LAST_NUMBER) × (command : Command) × (last ≡ record { number = state.expected; command = command } ∷ [])

-- a frame bears a number, or covers it, where the session passes that number
abbrev pub GoesBy : ℕ → State → Call → Type 0
GoesBy number state (Frame text now memory) =
    ((number ≡ state.expected) × Bears number (said_by text)) ⊎ Covers number state.expected (said_by text)
GoesBy number state call = ⊥

passes : (number : ℕ) (state : State) (call : Call) → GoesBy number state call → number < (outcome state call).state.expected → Passes number state call
passes number state (Frame text now memory) by high = (high, by)
passes number state (Reply reply now memory) by high = absurd by
passes number state (Tick now memory) by high = absurd by
passes number state (Stop now memory) by high = absurd by
passes number state Closing by high = absurd by
passes number state WaitAgain by high = absurd by

-- a call takes nothing, and passes each number up to the one that is expected after it
record Aside (state : State) (call : Call) (next : Outcome) : Type 0 where
  pub grows : state.expected ≤ next.state.expected
  pub passed : (number : ℕ) → state.expected ≤ number → number < next.state.expected → GoesBy number state call
  pub holds : HoldsNext (delivered_by state.expected next.actions) next.state

idle-holds : (last : List Numbered) (state : State) → IsIdle state → HoldsNext last state
idle-holds last state idle awaiting = absurd (idle-none state idle awaiting)

-- a call that changes no expected number
same-aside : (state : State) (call : Call) (next : Outcome) → next.state.expected ≡ state.expected → IsIdle next.state → Aside state call next
same-aside state call next same idle =
    record {
      grows = omega (arith, same);
      passed = λ number low high. absurd (omega (arith, same, low, high));
      holds = idle-holds (delivered_by state.expected next.actions) next.state idle;
    }

covers_by : (body : Body) (said : Result Message FieldFault) (number expected new_number : ℕ) → expected ≤ number → number < new_number → NamesBy new_number expected said body → CoversBy number expected said body
covers_by (bodies.Admin (admin.SequenceReset named true)) said number expected new_number low high is = (is.1, low, omega (arith, high, is.0))
covers_by (bodies.Admin (admin.SequenceReset named false)) said number expected new_number low high is = (low, omega (arith, high, is))
covers_by (bodies.Admin (admin.Logon heartbeat reset)) said number expected new_number low high is = absurd is
covers_by (bodies.Admin admin.Heartbeat) said number expected new_number low high is = absurd is
covers_by (bodies.Admin admin.Reject) said number expected new_number low high is = absurd is
covers_by (bodies.Admin (admin.TestRequest id)) said number expected new_number low high is = absurd is
covers_by (bodies.Admin (admin.ResendRequest begin end)) said number expected new_number low high is = absurd is
covers_by (bodies.Admin admin.Logout) said number expected new_number low high is = absurd is
covers_by (bodies.Report report) said number expected new_number low high is = absurd is
covers_by (bodies.Allocation allocation) said number expected new_number low high is = absurd is
covers_by bodies.Other said number expected new_number low high is = absurd is

covers : (said : Result Message FieldFault) (number expected new_number : ℕ) → expected ≤ number → number < new_number → Names new_number expected said → Covers number expected said
covers (Ok message) number expected new_number low high is = covers_by message.body (Ok message) number expected new_number low high is
covers (Err fault) number expected new_number low high is = absurd is

steps-pass : (said : Result Message FieldFault) (expected next number : ℕ) → NumberSteps expected said next → expected ≤ number → number < next
    → ((number ≡ expected) × Bears number said) ⊎ Covers number expected said
steps-pass said expected next number steps low high = elim steps [
  | inl same ↦ absurd (omega (arith, same, low, high))
  | inr moved ↦ elim moved [
    | inl one ↦
        let here : number ≡ expected = omega (arith, one.0, low, high) in
        inl (here, one.1 ∙ ap Some (sym here))
    | inr named ↦ inr (covers said number expected next low high named.1)
  ]
]

-- ---- a frame

carried-on : (state : State) (text : List ℕ) (now moment : ℤ) (row : Row) (command : Option Command) → GoesOn state.peer state.next state.expected (said_by text) row
    → Aside state (Frame text now true) (carried_out row command moment)
carried-on state text now moment row command on =
    let same = behind_all-expected (messages_of row.sends) row.state moment in
    let steps = subst (NumberSteps state.expected (said_by text)) (sym same) on.number in
    record {
      grows = steps-grow (said_by text) state.expected _ steps;
      passed = λ number low high. steps-pass (said_by text) state.expected _ number steps low high;
      holds = idle-holds (delivered_by state.expected (carried_out row command moment).actions) (carried_out row command moment).state
          (behind_all-awaited (messages_of row.sends) row.state moment ∙ on.idle);
    }

handed-holds : (state : State) (sends : Sends) (end : End) (session : State) (command : Option Command) (now : ℤ)
    → sends ≡ Nothing → end ≡ Delivers → session.expected ≡ state.expected → session.next ≤ LAST_NUMBER → is_some command ≡ true
    → HoldsNext (delivered_by state.expected (carried_out (record { sends = sends; end = end; state = session }) command now).actions)
    (carried_out (record { sends = sends; end = end; state = session }) command now).state
handed-holds state sends end session (Some command) now nothing delivers same last is =
    subst (λ s. HoldsNext (delivered_by state.expected (carried_out (record { sends = s; end = end; state = session }) (Some command) now).actions)
    (carried_out (record { sends = s; end = end; state = session }) (Some command) now).state) (sym nothing)
    (subst (λ e. HoldsNext (delivered_by state.expected (carried_out (record { sends = Nothing; end = e; state = session }) (Some command) now).actions)
    (carried_out (record { sends = Nothing; end = e; state = session }) (Some command) now).state) (sym delivers)
    (λ awaiting. (last, command, ap (λ n. record { number = n; command = command } ∷ []) (sym same))))
handed-holds state sends end session None now nothing delivers same last is = absurd (false≢true is)

acting-delivery : (sends : Sends) (session : State) → acts (record { sends = sends; end = Delivers; state = session }) ≡ true
acting-delivery Nothing session = refl
acting-delivery (One message) session = refl
acting-delivery (Two message more) session = refl

carried-by_hand : (state : State) (text : List ℕ) (now : ℤ) (row : Row) (peer : List ℕ) → is_spent state row ≡ false → HandsOn state.peer state.next state.expected (said_by text) row
    → Aside state (Frame text now true) (carried_out row (command_said (said_by text) peer) now)
carried-by_hand state text now row peer unspent hands =
    let same = behind_all-expected (messages_of row.sends) row.state now ∙ hands.same in
    let acting : acts row ≡ true = ap (λ e. acts (record { sends = row.sends; end = e; state = row.state })) hands.end ∙ acting-delivery row.sends row.state in
    let last = unspent-last state row unspent acting in
    record {
      grows = omega (arith, same);
      passed = λ number low high. absurd (omega (arith, same, low, high));
      holds = handed-holds state row.sends row.end row.state (command_said (said_by text) peer) now hands.sends hands.end hands.same
          (omega (arith, hands.next_same, last)) (hands.command peer);
    }

frame-aside : (state : State) (text : List ℕ) (now : ℤ) → IsIdle state → is_reset (Frame text now true) ≡ false
    → Aside state (Frame text now true) (on_frame state (said_by text) now)
frame-aside state text now idle kept =
    let row = frame_row state (said_by text) now in
    let command = command_said (said_by text) state.peer in
    cond_both (is_spent state row) _ _ (λ (outcome : Outcome). Aside state (Frame text now true) outcome)
    (λ y. same-aside state (Frame text now true) (spent state) refl refl)
    (λ unspent. elim (frame-moves state (said_by text) now idle) [
      | inl moves ↦ elim moves [
        | inl on ↦ carried-on state text now now row command on
        | inr hands ↦ carried-by_hand state text now row state.peer unspent hands
      ]
      | inr resets ↦ absurd (false≢true (sym kept ∙ resets.0))
    ])

-- ---- any other call that takes nothing

rests-aside : (state : State) (call : Call) (row : Row) (now : ℤ) → Rests state row → Aside state call (outcome_of state row None now)
rests-aside state call row now rests =
    cond_both (is_spent state row) _ _ (λ (outcome : Outcome). Aside state call outcome)
    (λ y. same-aside state call (spent state) refl refl)
    (λ unspent. same-aside state call (carried_out row None now) (behind_all-expected (messages_of row.sends) row.state now ∙ rests.expected)
    (behind_all-awaited (messages_of row.sends) row.state now ∙ rests.idle))

-- ---- what comes over a list of calls

-- numbers that rise from one number on also rise from any number before it
rise-lower : (low high : ℕ) (taken : List Numbered) → low ≤ high → RiseFrom high taken → RiseFrom low taken
rise-lower low high [] below rise = tt
rise-lower low high (first ∷ later) below rise = (omega (arith, below, rise.0), rise.1)

-- the law, after a call that delivered what is held
record InOrder (last : List Numbered) (state : State) (calls : List Call) : Type 0 where
  pub grows : state.expected ≤ (behind_calls state calls).expected
  pub rise : RiseFrom state.expected (taken_behind last state calls)
  pub below : AreBelow (behind_calls state calls).expected (taken_behind last state calls)
  pub accounted : (number : ℕ) → state.expected ≤ number → number < (behind_calls state calls).expected
      → IsTaken number (taken_behind last state calls) ⊎ IsPassed number state calls

aside-law : (last : List Numbered) (state : State) (call : Call) (calls : List Call) → taken_by last call ≡ [] → Aside state call (outcome state call)
    → InOrder (delivered_by state.expected (outcome state call).actions) (outcome state call).state calls → InOrder last state (call ∷ calls)
aside-law last state call calls none aside later =
    let next = (outcome state call).state in
    let rest = taken_behind (delivered_by state.expected (outcome state call).actions) next calls in
    let same : taken_behind last state (call ∷ calls) ≡ rest = ap (λ first. first ++ rest) none in
    record {
      grows = omega (arith, aside.grows, later.grows);
      rise = subst (RiseFrom state.expected) (sym same) (rise-lower state.expected next.expected rest aside.grows later.rise);
      below = subst (AreBelow (behind_calls next calls).expected) (sym same) later.below;
      accounted = λ number low high. elim (cases_Bool (nat_lt number next.expected)) [
        | inl y ↦ inr (inl (passes number state call (aside.passed number low (ltb-true number next.expected y)) (ltb-true number next.expected y)))
        | inr n ↦ elim (later.accounted number (ltb-false number next.expected n) high) [
          | inl taken ↦ inl (subst (IsTaken number) (sym same) taken)
          | inr passed ↦ inr (inr passed)
        ]
      ];
    }

taken-law : (last : List Numbered) (state : State) (call : Call) (calls : List Call) (command : Command)
    → taken_by last call ≡ record { number = state.expected; command = command } ∷ [] → (outcome state call).state.expected ≡ state.expected + 1
    → InOrder (delivered_by state.expected (outcome state call).actions) (outcome state call).state calls → InOrder last state (call ∷ calls)
taken-law last state call calls command one step later =
    let next = (outcome state call).state in
    let rest = taken_behind (delivered_by state.expected (outcome state call).actions) next calls in
    let same : taken_behind last state (call ∷ calls) ≡ record { number = state.expected; command = command } ∷ rest = ap (λ first. first ++ rest) one in
    record {
      grows = omega (arith, step, later.grows);
      rise = subst (RiseFrom state.expected) (sym same) (omega arith, subst (λ n. RiseFrom n rest) step later.rise);
      below = subst (AreBelow (behind_calls next calls).expected) (sym same) (omega (arith, step, later.grows), later.below);
      accounted = λ number low high. elim (cases_Bool (nat_lt number next.expected)) [
        | inl y ↦ inl (subst (IsTaken number) (sym same) (inl (omega (arith, step, low, ltb-true number next.expected y))))
        | inr n ↦ elim (later.accounted number (ltb-false number next.expected n) high) [
          | inl taken ↦ inl (subst (IsTaken number) (sym same) (inr taken))
          | inr passed ↦ inr (inr passed)
        ]
      ];
    }

-- ---- a reply

-- what a reply leaves: the number of what was taken is counted, and no reply is awaited
record Settled (state : State) (reply : Result SeenReply NotTaken) (next : Outcome) : Type 0 where
  pub taken : (seen : SeenReply) → reply ≡ Ok seen → next.state.expected ≡ state.expected + 1
  pub not_taken : (fault : NotTaken) → reply ≡ Err fault → next.state.expected ≡ state.expected
  pub idle : IsIdle next.state

pub unspent : (state : State) (row : Row) → state.next ≤ LAST_NUMBER → is_spent state row ≡ false
unspent state row low = elim (cases_Bool (nat_lt LAST_NUMBER state.next)) [
  | inl y ↦ absurd (omega (arith, low, ltb-true LAST_NUMBER state.next y))
  | inr n ↦ ap (λ past. past && acts row) n
]

reply-settled : (state : State) (reply : Result SeenReply NotTaken) (now : ℤ) (memory : Bool) → IsAwaiting state → state.next ≤ LAST_NUMBER
    → Settled state reply (outcome state (Reply reply now memory))
reply-settled state reply now true awaiting low =
    let row = row_of_reply state reply in
    let settled = settles state reply awaiting in
    let same = behind_all-expected (messages_of row.sends) row.state now in
    subst (Settled state reply) (sym (cond-false (is_spent state row) (spent state) (carried_out row None now) (unspent state row low)))
    (record {
      taken = λ seen is. same ∙ settled.taken seen is;
      not_taken = λ fault is. same ∙ settled.not_taken fault is;
      idle = behind_all-awaited (messages_of row.sends) row.state now ∙ settled.idle;
    })
reply-settled state reply now false awaiting low =
    let settled = settles state reply awaiting in
    record { taken = settled.taken; not_taken = settled.not_taken; idle = refl }

-- ---- the law

law : (calls : List Call) (last : List Numbered) (state : State) → HoldsNext last state → AreMet state calls → HasNoReset calls → InOrder last state calls
law [] last state holds met kept =
    record { grows = omega arith; rise = tt; below = tt; accounted = λ number low high. absurd (omega (arith, low, high)) }
law (Frame text now true ∷ calls) last state holds met kept =
    let aside = frame-aside state text now met.0 kept.0 in
    aside-law last state (Frame text now true) calls refl aside (law calls _ _ aside.holds met.1 kept.1)
law (Frame text now false ∷ calls) last state holds met kept =
    let aside = same-aside state (Frame text now false) (quiet (closed state)) refl refl in
    aside-law last state (Frame text now false) calls refl aside (law calls _ _ aside.holds met.1 kept.1)
law (Reply (Ok seen) now memory ∷ calls) last state holds met kept =
    let held = holds met.0 in
    let settled = reply-settled state (Ok seen) now memory met.0 held.0 in
    taken-law last state (Reply (Ok seen) now memory) calls held.1 held.2 (settled.taken seen refl)
    (law calls _ _ (idle-holds _ (outcome state (Reply (Ok seen) now memory)).state settled.idle) met.1 kept.1)
law (Reply (Err fault) now memory ∷ calls) last state holds met kept =
    let settled = reply-settled state (Err fault) now memory met.0 (holds met.0).0 in
    let aside = same-aside state (Reply (Err fault) now memory) (outcome state (Reply (Err fault) now memory)) (settled.not_taken fault refl) settled.idle in
    aside-law last state (Reply (Err fault) now memory) calls refl aside (law calls _ _ aside.holds met.1 kept.1)
law (Tick now true ∷ calls) last state holds met kept =
    let aside = rests-aside state (Tick now true) (tick_row state now) now (tick-rests state now met.0) in
    aside-law last state (Tick now true) calls refl aside (law calls _ _ aside.holds met.1 kept.1)
law (Tick now false ∷ calls) last state holds met kept =
    let aside = same-aside state (Tick now false) (quiet (closed state)) refl refl in
    aside-law last state (Tick now false) calls refl aside (law calls _ _ aside.holds met.1 kept.1)
law (Stop now true ∷ calls) last state holds met kept =
    let aside = rests-aside state (Stop now true) (stop_row state) now (stop-rests state met.0) in
    aside-law last state (Stop now true) calls refl aside (law calls _ _ aside.holds met.1 kept.1)
law (Stop now false ∷ calls) last state holds met kept =
    let aside = same-aside state (Stop now false) (quiet (closed state)) refl refl in
    aside-law last state (Stop now false) calls refl aside (law calls _ _ aside.holds met.1 kept.1)
law (Closing ∷ calls) last state holds met kept =
    let aside = same-aside state Closing (quiet (closed state)) refl refl in
    aside-law last state Closing calls refl aside (law calls _ _ aside.holds met.1 kept.1)
law (WaitAgain ∷ calls) last state holds met kept =
    let aside = same-aside state WaitAgain (quiet (waiting_again state)) refl refl in
    aside-law last state WaitAgain calls refl aside (law calls _ _ aside.holds met.1 kept.1)

pub in_order : (state : State) (calls : List Call) → IsIdle state → AreMet state calls → HasNoReset calls → IsInOrder state calls
in_order state calls idle met kept =
    let found = law calls [] state (idle-holds [] state idle) met kept in
    record { rise = found.rise; below = found.below; accounted = found.accounted }
