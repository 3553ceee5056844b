-- A session's numbers stay in their ranges over a call.
use Rattle.std.proofs.Common.{◌≡◌, ℕ, ◌+◌, ◌≤◌, ◌==◌, Bool, true, false, ◌&&◌, List, ◌++◌, Option, Some, None, Result, Ok, Err, refl, sym, ap, subst, ◌∙◌, arith, inl, inr, if◌then◌else◌, nat_lt, ℤ, is_some, IfSome, IfOk, unwrap_or, option_map, ltb-false}
use Rattle.std.proofs.lemmas.Bool.{cond_both, false≢true}
use Rattle.blot_types.specs.declared.command.Command.{Command}
use Rattle.blot_fields.specs.declared.{TheConstants.SEQUENCE_MAX, fault.FieldFault.FieldFault, head.Head.Head, message.Body.Body, message.Message.Message}
use Rattle.blot_fields.specs.declared.admin.Admin.TheVariants as admin
use Rattle.blot_fields.specs.declared.message.Body.TheVariants as bodies
use Rattle.blot_fields.specs.Numbers.{head_in, BodyNamesNumber, IsNumbered}
use Rattle.blot_session.specs.declared.{action.Action.Action, outbound.Outbound.Outbound, replies.NotTaken.NotTaken, replies.SeenReply.SeenReply, row.End.End, row.Row.Row, row.Sends.Sends, state.Awaited.Awaited, state.Live.Live, state.State.State, carrying.TheConstants.LAST_NUMBER, state.LinkState.LinkState}
use Rattle.blot_session.specs.declared.outbound.Outbound.TheVariants.{Logon, Heartbeat, TestRequest, ResendRequest, Reject, GapFill, Logout, Unsupported, AllocationAck}
use Rattle.blot_session.specs.declared.row.Sends.TheVariants.{Nothing, One, Two}
use Rattle.blot_session.specs.declared.state.Awaited.TheVariants as awaits
use Rattle.blot_session.specs.declared.state.LinkState.TheVariants as links
use Rattle.blot_session.specs.Calls.{Outcome, sent, behind, behind_all, ending, is_spent, spent, carried_out, outcome_of, reply_row_by, row_of_reply}
use Rattle.blot_session.specs.Outbound.{next_behind}
use Rattle.blot_session.specs.Rows.{frame_row, asked_row, quiet_row, heartbeat_row, beat_row_by, beat_row, tick_row_by, tick_row, stop_row_by, stop_row, passed, patience, reply_row}
use Rattle.blot_session.specs.States.{closed, changed, awaited_by, awaited_of, IsIdle, IsAwaiting, IsState}
use Rattle.blot_session.specs.Table.{Fits, acts, acts_by, messages_of}
use Rattle.blot_session.proofs.RowLemmas.{Names, NamesBy, NumberSteps, Moves, is_delivery, frame-moves}

-- ---- messages that are sent

next_behind-range : (message : Outbound) (next : ℕ) → (next ≤ next_behind message next) × (next_behind message next ≤ next + 1)
next_behind-range (Logon heartbeat reset) next = (omega arith, omega arith)
next_behind-range (Heartbeat id) next = (omega arith, omega arith)
next_behind-range TestRequest next = (omega arith, omega arith)
next_behind-range (ResendRequest begin) next = (omega arith, omega arith)
next_behind-range (Reject number tag reason) next = (omega arith, omega arith)
next_behind-range (GapFill begin) next = (omega arith, omega arith)
next_behind-range Logout next = (omega arith, omega arith)
next_behind-range (Unsupported number kind) next = (omega arith, omega arith)
next_behind-range (AllocationAck id reply) next = (omega arith, omega arith)

pub spoken-awaited : (now : ℤ) (link : LinkState) → awaited_by (changed (λ live. record live { sent = now }) link) ≡ awaited_by link
spoken-awaited now links.Waiting = refl
spoken-awaited now (links.On live) = refl
spoken-awaited now links.Closed = refl

behind-state : (state : State) (message : Outbound) (now : ℤ) (next : ℕ) → 1 ≤ state.next → state.next ≤ next → 1 ≤ state.expected → state.expected ≤ SEQUENCE_MAX + 1
    → (IsAwaiting state → state.expected ≤ SEQUENCE_MAX) → Fits (next + 1) (record { sends = Nothing; end = End.Stays; state = behind state message now })
behind-state state message now next low high first number awaited =
    let range = next_behind-range message state.next in
    record {
      low = omega (arith, low, range.0);
      high = omega (arith, high, range.1);
      first = first;
      number = number;
      awaited = λ is. awaited (ap is_some (sym (spoken-awaited now state.link)) ∙ is);
    }

sent-state : (sends : Sends) (end : End) (state : State) (now : ℤ) (next : ℕ) → Fits next (record { sends = sends; end = end; state = state })
    → next ≤ SEQUENCE_MAX + 1 → (acts_by sends end ≡ true → next ≤ LAST_NUMBER) → IsState (behind_all state (messages_of sends) now)
sent-state Nothing end state now next fits small unspent =
    record { first = fits.first; expected = fits.number; awaited = fits.awaited; low = fits.low; next = omega (arith, fits.high, small) }
sent-state (One message) end state now next fits small unspent =
    let last = unspent refl in
    let first = behind-state state message now next fits.low fits.high fits.first fits.number fits.awaited in
    record { first = first.first; expected = first.number; awaited = first.awaited; low = first.low; next = omega (arith, first.high, last) }
sent-state (Two message more) end state now next fits small unspent =
    let last = unspent refl in
    let first = behind-state state message now next fits.low fits.high fits.first fits.number fits.awaited in
    let second = behind-state (behind state message now) more now (next + 1) first.low first.high first.first first.number first.awaited in
    record { first = second.first; expected = second.number; awaited = second.awaited; low = second.low; next = omega (arith, second.high, last) }

pub closed_state : (state : State) → IsState state → IsState (closed state)
closed_state state is = record { first = is.first; expected = is.expected; awaited = λ a. absurd (false≢true a); low = is.low; next = is.next }

and-left : (a b : Bool) → (a && b) ≡ false → b ≡ true → a ≡ false
and-left true b fails holds = absurd (false≢true (sym fails ∙ holds))
and-left false b fails holds = refl

pub unspent-last : (state : State) (row : Row) → is_spent state row ≡ false → acts row ≡ true → state.next ≤ LAST_NUMBER
unspent-last state row unspent does = ltb-false LAST_NUMBER state.next (and-left (nat_lt LAST_NUMBER state.next) (acts row) unspent does)

pub carried_state : (state : State) (row : Row) (command : Option Command) (now : ℤ) (next : State) (actions : List Action)
    → IsState state → Fits state.next row → is_spent state row ≡ false → record { state = next; actions = actions } ≡ carried_out row command now → IsState next
carried_state state row command now next actions is fits unspent carried =
    subst IsState (sym (ap (λ (outcome : Outcome). outcome.state) carried))
    (sent-state row.sends row.end row.state now state.next fits is.next (unspent-last state row unspent))

pub spent_state : (state next : State) (actions : List Action) → IsState state → record { state = next; actions = actions } ≡ spent state → IsState next
spent_state state next actions is done = subst IsState (sym (ap (λ (outcome : Outcome). outcome.state) done)) (closed_state state is)

pub same_outcome : (state : State) (row : Row) (a b : Option Command) (now : ℤ) → ending row.end a ≡ ending row.end b → outcome_of state row a now ≡ outcome_of state row b now
same_outcome state row a b now same =
    ap (λ (actions : List Action). if is_spent state row then spent state
    else (record { state = (carried_out row a now).state; actions = sent row.state (messages_of row.sends) now ++ actions })) same

-- ---- frames

bears-small : (found : Option Head) (number : ℕ) → option_map (λ head. head.number) found ≡ Some number → IfSome found (λ head. head.number ≤ SEQUENCE_MAX) → number ≤ SEQUENCE_MAX
bears-small (Some head) number is small = subst (λ n. n ≤ SEQUENCE_MAX) (ap (λ n. unwrap_or n 0) is) small
bears-small None number is small = absurd cc

names-small : (body : Body) (said : Result Message FieldFault) (number expected : ℕ) → NamesBy number expected said body → BodyNamesNumber body → number ≤ SEQUENCE_MAX
names-small (bodies.Admin (admin.SequenceReset new_number true)) said number expected is small = subst (λ n. n ≤ SEQUENCE_MAX) (sym is.0) small
names-small (bodies.Admin (admin.SequenceReset new_number false)) said number expected is small = subst (λ n. n ≤ SEQUENCE_MAX) (sym is) small
names-small (bodies.Admin (admin.Logon heartbeat reset)) said number expected is small = absurd is
names-small (bodies.Admin admin.Heartbeat) said number expected is small = absurd is
names-small (bodies.Admin admin.Reject) said number expected is small = absurd is
names-small (bodies.Admin (admin.TestRequest id)) said number expected is small = absurd is
names-small (bodies.Admin (admin.ResendRequest begin end)) said number expected is small = absurd is
names-small (bodies.Admin admin.Logout) said number expected is small = absurd is
names-small (bodies.Report report) said number expected is small = absurd is
names-small (bodies.Allocation allocation) said number expected is small = absurd is
names-small bodies.Other said number expected is small = absurd is

names_said-small : (said : Result Message FieldFault) (number expected : ℕ) → Names number expected said → IfOk said (λ message. BodyNamesNumber message.body) → number ≤ SEQUENCE_MAX
names_said-small (Ok message) number expected is small = names-small message.body (Ok message) number expected is small
names_said-small (Err fault) number expected is small = absurd is

pub steps-grow : (said : Result Message FieldFault) (expected next : ℕ) → NumberSteps expected said next → expected ≤ next
steps-grow said expected next steps = elim steps [
  | inl same ↦ omega (arith, same)
  | inr moved ↦ elim moved [
    | inl one ↦ omega (arith, one.0)
    | inr named ↦ named.0
  ]
]

steps-small : (said : Result Message FieldFault) (expected number : ℕ) → NumberSteps expected said number → IsNumbered said → expected ≤ SEQUENCE_MAX + 1 → number ≤ SEQUENCE_MAX + 1
steps-small said expected number steps is small = elim steps [
  | inl same ↦ omega (arith, same, small)
  | inr moved ↦ elim moved [
    | inl next ↦ omega (arith, next.0, bears-small (head_in said) expected next.1 is.head)
    | inr named ↦ omega (arith, names_said-small said number expected named.1 is.named)
  ]
]

pub idle-none : (state : State) → IsIdle state → IsAwaiting state → ⊥
idle-none state idle awaiting = false≢true (sym (ap is_some idle) ∙ awaiting)

moves-fit : (peer : List ℕ) (next expected limit : ℕ) (said : Result Message FieldFault) (row : Row) → Moves peer next expected said row → IsNumbered said
    → 1 ≤ next → next ≤ limit → 1 ≤ expected → expected ≤ SEQUENCE_MAX + 1 → Fits limit row
moves-fit peer next expected limit said row moves is low high one small = elim moves [
  | inl on ↦ record {
    low = omega (arith, on.next_same, low);
    high = omega (arith, on.next_same, high);
    first = omega (arith, one, steps-grow said expected row.state.expected on.number);
    number = steps-small said expected row.state.expected on.number is small;
    awaited = λ awaiting. absurd (idle-none row.state on.idle awaiting);
  }
  | inr hands ↦ record {
    low = omega (arith, hands.next_same, low);
    high = omega (arith, hands.next_same, high);
    first = omega (arith, hands.same, one);
    number = omega (arith, hands.same, small);
    awaited = λ awaiting. omega (arith, hands.same, bears-small (head_in said) expected hands.bears is.head);
  }
]

pub frame-fits : (state : State) (said : Result Message FieldFault) (now : ℤ) → IsState state → IsIdle state → IsNumbered said → Fits state.next (frame_row state said now)
frame-fits state said now is idle numbered = elim (frame-moves state said now idle) [
  | inl moves ↦ moves-fit state.peer state.next state.expected state.next said (frame_row state said now) moves numbered is.low (omega arith) is.first is.expected
  | inr resets ↦ moves-fit state.peer 1 1 state.next said (frame_row state said now) resets.1 numbered (omega arith) is.low (omega arith) (omega arith)
]

-- ---- moments

-- a row that changes no number, and awaits no reply
pub record Rests (state : State) (row : Row) : Type 0 where
  pub of_peer : row.state.peer ≡ state.peer
  pub next : row.state.next ≡ state.next
  pub expected : row.state.expected ≡ state.expected
  pub idle : IsIdle row.state
  pub end : is_delivery row.end ≡ false

heartbeat-rests : (state base : State) (live : Live) (now : ℤ) → base.peer ≡ state.peer → base.next ≡ state.next → base.expected ≡ state.expected → IsIdle base → Rests state (heartbeat_row base live now)
unfolding heartbeat_row
heartbeat-rests state base live now p n e idle =
    cond_both (passed live.sent live.heartbeat now) _ _ (λ row. Rests state row)
    (λ y. record { of_peer = p; next = n; expected = e; idle = idle; end = refl })
    (λ n'. record { of_peer = p; next = n; expected = e; idle = idle; end = refl })

asked-rests : (state : State) (live : Live) (asked now : ℤ) → IsIdle state → Rests state (asked_row state live asked now)
unfolding asked_row
asked-rests state live asked now idle =
    cond_both (passed asked (patience live.heartbeat) now) _ _ (λ row. Rests state row)
    (λ y. record { of_peer = refl; next = refl; expected = refl; idle = refl; end = refl })
    (λ n. heartbeat-rests state state live now refl refl refl idle)

asking-idle : (now : ℤ) (link : LinkState) → awaited_by link ≡ None → awaited_by (changed (λ live. record live { asked = Some now }) link) ≡ None
asking-idle now links.Waiting idle = refl
asking-idle now (links.On live) idle = idle
asking-idle now links.Closed idle = refl

quiet-rests : (state : State) (live : Live) (now : ℤ) → IsIdle state → Rests state (quiet_row state live now)
unfolding quiet_row
quiet-rests state live now idle =
    cond_both (passed live.received (patience live.heartbeat) now) _ _ (λ row. Rests state row)
    (λ y. record { of_peer = refl; next = refl; expected = refl; idle = asking-idle now state.link idle; end = refl })
    (λ n. heartbeat-rests state state live now refl refl refl idle)

beat_by-rests : (state : State) (live : Live) (asked : Option ℤ) (now : ℤ) → IsIdle state → Rests state (beat_row_by state live asked now)
beat_by-rests state live (Some asked) now idle = asked-rests state live asked now idle
beat_by-rests state live None now idle = quiet-rests state live now idle

beat-rests : (state : State) (live : Live) (now : ℤ) → IsIdle state → Rests state (beat_row state live now)
unfolding beat_row
beat-rests state live now idle =
    cond_both (live.heartbeat == 0) _ _ (λ row. Rests state row)
    (λ y. record { of_peer = refl; next = refl; expected = refl; idle = idle; end = refl })
    (λ n. beat_by-rests state live live.asked now idle)

tick_by-rests : (state : State) (link : LinkState) (now : ℤ) → IsIdle state → Rests state (tick_row_by state link now)
tick_by-rests state links.Waiting now idle = record { of_peer = refl; next = refl; expected = refl; idle = idle; end = refl }
tick_by-rests state (links.On live) now idle = beat-rests state live now idle
tick_by-rests state links.Closed now idle = record { of_peer = refl; next = refl; expected = refl; idle = idle; end = refl }

pub tick-rests : (state : State) (now : ℤ) → IsIdle state → Rests state (tick_row state now)
unfolding tick_row
tick-rests state now idle = tick_by-rests state state.link now idle

-- ---- the end of the day

leaving-idle : (link : LinkState) → awaited_by link ≡ None → awaited_by (changed (λ live. record live { leaving = true }) link) ≡ None
leaving-idle links.Waiting idle = refl
leaving-idle (links.On live) idle = idle
leaving-idle links.Closed idle = refl

stop_by-rests : (state : State) (link : LinkState) → IsIdle state → Rests state (stop_row_by state link)
stop_by-rests state links.Waiting idle = record { of_peer = refl; next = refl; expected = refl; idle = idle; end = refl }
stop_by-rests state (links.On live) idle =
    cond_both live.leaving _ _ (λ row. Rests state row)
    (λ leaves. record { of_peer = refl; next = refl; expected = refl; idle = idle; end = refl })
    (λ stays. record { of_peer = refl; next = refl; expected = refl; idle = leaving-idle state.link idle; end = refl })
stop_by-rests state links.Closed idle = record { of_peer = refl; next = refl; expected = refl; idle = idle; end = refl }

pub stop-rests : (state : State) → IsIdle state → Rests state (stop_row state)
unfolding stop_row
stop-rests state idle = stop_by-rests state state.link idle

-- ---- what a row that rests leaves of the numbers

rests-fits : (state : State) (row : Row) → Rests state row → IsState state → Fits state.next row
rests-fits state row rests is =
    record {
      low = omega (arith, rests.next, is.low);
      high = omega (arith, rests.next);
      first = omega (arith, rests.expected, is.first);
      number = omega (arith, rests.expected, is.expected);
      awaited = λ awaiting. absurd (idle-none row.state rests.idle awaiting);
    }

-- ---- replies

-- what a reply does: the number of what was taken is counted
pub record Settles (state : State) (reply : Result SeenReply NotTaken) (row : Row) : Type 0 where
  pub of_peer : row.state.peer ≡ state.peer
  pub next : row.state.next ≡ state.next
  pub taken : (seen : SeenReply) → reply ≡ Ok seen → row.state.expected ≡ state.expected + 1
  pub not_taken : (fault : NotTaken) → reply ≡ Err fault → row.state.expected ≡ state.expected
  pub idle : IsIdle row.state
  pub end : is_delivery row.end ≡ false

pub answered-idle : (link : LinkState) → awaited_by (changed (λ live. record live { awaited = None }) link) ≡ None
answered-idle links.Waiting = refl
answered-idle (links.On live) = refl
answered-idle links.Closed = refl

reply-settles : (state : State) (awaited : Awaited) (reply : Result SeenReply NotTaken) → Settles state reply (reply_row state awaited reply)
unfolding reply_row
reply-settles state awaits.Report (Ok seen) =
    record { of_peer = refl; next = refl; taken = λ s is. refl; not_taken = λ f is. absurd cc; idle = answered-idle state.link; end = refl }
reply-settles state (awaits.Allocation id) (Ok seen) =
    record { of_peer = refl; next = refl; taken = λ s is. refl; not_taken = λ f is. absurd cc; idle = answered-idle state.link; end = refl }
reply-settles state awaited (Err fault) =
    record { of_peer = refl; next = refl; taken = λ s is. absurd cc; not_taken = λ f is. refl; idle = refl; end = refl }

settles_by : (state : State) (found : Option Awaited) (reply : Result SeenReply NotTaken) → is_some found ≡ true → Settles state reply (reply_row_by state found reply)
settles_by state (Some awaited) reply is = reply-settles state awaited reply
settles_by state None reply is = absurd (false≢true is)

pub settles : (state : State) (reply : Result SeenReply NotTaken) → IsAwaiting state → Settles state reply (row_of_reply state reply)
settles state reply is = settles_by state (awaited_of state) reply is

settled-small : (state : State) (reply : Result SeenReply NotTaken) (row : Row) → Settles state reply row → state.expected ≤ SEQUENCE_MAX → row.state.expected ≤ SEQUENCE_MAX + 1
settled-small state (Ok seen) row is small = omega (arith, is.taken seen refl, small)
settled-small state (Err fault) row is small = omega (arith, is.not_taken fault refl, small)

settled-first : (state : State) (reply : Result SeenReply NotTaken) (row : Row) → Settles state reply row → 1 ≤ state.expected → 1 ≤ row.state.expected
settled-first state (Ok seen) row is one = omega (arith, is.taken seen refl, one)
settled-first state (Err fault) row is one = omega (arith, is.not_taken fault refl, one)

pub reply-fits : (state : State) (reply : Result SeenReply NotTaken) → IsState state → IsAwaiting state → Fits state.next (row_of_reply state reply)
reply-fits state reply is awaiting =
    let row = row_of_reply state reply in
    let settled = settles state reply awaiting in
    record {
      low = omega (arith, settled.next, is.low);
      high = omega (arith, settled.next);
      first = settled-first state reply row settled is.first;
      number = settled-small state reply row settled (is.awaited awaiting);
      awaited = λ still. absurd (idle-none row.state settled.idle still);
    }

-- ---- as the code reads them

pub row_fits_frame : (state : State) (said : Result Message FieldFault) (now : ℤ) (row : Row) → row ≡ frame_row state said now
    → IsState state → IsIdle state → IsNumbered said → Fits state.next row
row_fits_frame state said now row is within idle numbered = subst (Fits state.next) (sym is) (frame-fits state said now within idle numbered)

pub row_fits_tick : (state : State) (now : ℤ) (row : Row) → row ≡ tick_row state now → IsState state → IsIdle state → Fits state.next row
row_fits_tick state now row is within idle = subst (Fits state.next) (sym is) (rests-fits state (tick_row state now) (tick-rests state now idle) within)

pub row_fits_stop : (state : State) (row : Row) → row ≡ stop_row state → IsState state → IsIdle state → Fits state.next row
row_fits_stop state row is within idle = subst (Fits state.next) (sym is) (rests-fits state (stop_row state) (stop-rests state idle) within)

pub row_fits_reply : (state : State) (reply : Result SeenReply NotTaken) (row : Row) → row ≡ row_of_reply state reply
    → IsState state → IsAwaiting state → Fits state.next row
row_fits_reply state reply row is within awaiting = subst (Fits state.next) (sym is) (reply-fits state reply within awaiting)

-- the session of a row, closed
pub closed_row : (next : ℕ) (row : Row) → Fits next row → next ≤ SEQUENCE_MAX + 1 → IsState (closed row.state)
closed_row next row fits small =
    record { first = fits.first; expected = fits.number; awaited = λ a. absurd (false≢true a); low = fits.low; next = omega (arith, fits.high, small) }
