-- What a call does to the two numbers of a session.
use Rattle.std.proofs.Common.{◌≡◌, ℕ, ◌+◌, ◌≤◌, Bool, true, false, List, [], ◌∷◌, ◌++◌, Option, Some, None, Result, Ok, Err, refl, sym, ap, subst, ◌∙◌, inl, inr, arith, ◌≢◌, ◌⊎◌, ◌==◌, ℤ, nat_lt, is_some, if◌then◌else◌}
use Rattle.std.specs.List.{list_all}
use Rattle.std.proofs.lemmas.Bool.{and_parts, cond-false, cond_both, false≢true}
use Rattle.blot_types.specs.declared.command.Command.{Command}
use Rattle.blot_fields.specs.declared.admin.Admin.TheVariants as admin
use Rattle.blot_fields.specs.declared.{fault.FieldFault.FieldFault, head.Head.Head, message.Body.Body, message.Message.Message}
use Rattle.blot_fields.specs.declared.message.Body.TheVariants as bodies
use Rattle.blot_session.specs.declared.{action.Action.Action, carrying.TheConstants.LAST_NUMBER, outbound.Outbound.Outbound, replies.NotTaken.NotTaken, replies.SeenReply.SeenReply, row.End.End, row.Row.Row, row.Sends.Sends, state.Awaited.Awaited, state.LinkState.LinkState, state.State.State}
use Rattle.blot_session.specs.declared.outbound.Outbound.TheVariants.{Logon, Heartbeat, TestRequest, ResendRequest, Reject, GapFill, Logout, Unsupported, AllocationAck}
use Rattle.blot_session.specs.declared.row.End.TheVariants.{Stays, Delivers, Closes}
use Rattle.blot_session.specs.declared.row.Sends.TheVariants.{Nothing, One, Two}
use Rattle.blot_session.specs.declared.state.LinkState.TheVariants as links
use Rattle.blot_session.specs.declared.state.Phase.TheVariants as phases
use Rattle.blot_session.specs.Calls.{Outcome, behind, behind_all, carried_out, command_said, ending, is_spent, reply_row_by, row_of_reply, sent, spent}
use Rattle.blot_session.specs.Outbound.{next_behind}
use Rattle.blot_session.specs.Rows.{first_logon_row, frame_row, frame_row_by, is_from_peer, logon_row, low_logon_row, reply_row, stop_row, stop_row_by, tick_row, tick_row_by, waiting_body_row, waiting_logon_row, waiting_row}
use Rattle.blot_session.specs.Runs.{AreBorne, AreMet, Bears, Call, HasNoReset, IsBorne, Meets, behind_calls, delivered_by, is_reset, is_reset_by, is_reset_said, outcome, quiet, said_by}
use Rattle.blot_session.specs.Runs.Call.{Closing, Frame, Reply, Stop, Tick, WaitAgain}
use Rattle.blot_session.specs.Sending.{CountUp, all_sent, is_of_connection, numbers_from, numbers_sent}
use Rattle.blot_session.specs.States.{IsAwaiting, IsIdle, awaited_by, awaited_of, changed, closed, phase_by, phase_of}
use Rattle.blot_session.specs.Table.{acts, messages_of, silent}
use Rattle.blot_session.proofs.RowLemmas.{is_delivery, frame-moves}
use Rattle.blot_session.proofs.RunLemmas.{behind_all-awaited, unspent, behind_all-expected}
use Rattle.blot_session.proofs.StateLemmas.{Rests, Settles, idle-none, settles, steps-grow, stop-rests, tick-rests, unspent-last}

-- ---- a call of a connection

-- the number that is expected after a call: the reply to a command that was taken counts it, one to a command that wasn't closes the session, and only
-- a frame makes it another
abbrev pub Expects : State → Call → State → Type 0
Expects state (Frame text now memory) after = Unit {0}
Expects state (Reply (Ok reply) now memory) after = after.expected ≡ state.expected + 1
Expects state (Reply (Err fault) now memory) after = (after.expected ≡ state.expected) × (phase_of after ≡ phases.Closed)
Expects state call after = after.expected ≡ state.expected

-- a session has numbers to send
abbrev pub IsUnspent : State → Type 0
IsUnspent state = state.next ≤ LAST_NUMBER

-- what a call does to the two numbers, where it resets none
pub record MovesNumbers (state : State) (call : Call) (given : Outcome) : Type 0 where
  pub sent : CountUp state.next (numbers_sent state call) given.state.next
  pub grows : state.expected ≤ given.state.expected
  -- what is delivered awaits its reply, and the expected number stays until that
  pub delivers : (number : ℕ) → (delivered_by number given.actions ≡ []) ⊎ IsAwaiting given.state
  pub awaits : IsAwaiting given.state → (given.state.expected ≡ state.expected) × IsUnspent given.state
  pub expects : Expects state call given.state
  -- a session that isn't on and doesn't come on expects the same number, and a closed one stays closed
  pub off : phase_of state ≢ phases.On → phase_of given.state ≢ phases.On → given.state.expected ≡ state.expected
  pub shut : phase_of state ≡ phases.Closed → (phase_of given.state ≡ phases.Closed) × (numbers_sent state call ≡ [])

-- ---- what is sent

-- the next number after some messages
abbrev next_from : ℕ → List Outbound → ℕ
next_from next [] = next
next_from next (message ∷ messages) = next_from (next_behind message next) messages

counts : (messages : List Outbound) (next : ℕ) → CountUp next (numbers_from next messages) (next_from next messages)
counts [] next = refl
counts (GapFill begin ∷ messages) next = counts messages next
counts ((Logon heartbeat reset) ∷ messages) next = (refl, counts messages (next + 1))
counts ((Heartbeat id) ∷ messages) next = (refl, counts messages (next + 1))
counts (TestRequest ∷ messages) next = (refl, counts messages (next + 1))
counts ((ResendRequest begin) ∷ messages) next = (refl, counts messages (next + 1))
counts ((Reject number tag reason) ∷ messages) next = (refl, counts messages (next + 1))
counts (Logout ∷ messages) next = (refl, counts messages (next + 1))
counts ((Unsupported number kind) ∷ messages) next = (refl, counts messages (next + 1))
counts ((AllocationAck id reply) ∷ messages) next = (refl, counts messages (next + 1))

behind_all-next : (messages : List Outbound) (state : State) (now : ℤ) → (behind_all state messages now).next ≡ next_from state.next messages
behind_all-next [] state now = refl
behind_all-next (message ∷ messages) state now = behind_all-next messages (behind state message now) now

spoken-phase : (now : ℤ) (link : LinkState) → phase_by (changed (λ live. record live { sent = now }) link) ≡ phase_by link
spoken-phase now links.Waiting = refl
spoken-phase now (links.On live) = refl
spoken-phase now links.Closed = refl

behind_all-phase : (messages : List Outbound) (state : State) (now : ℤ) → phase_of (behind_all state messages now) ≡ phase_of state
behind_all-phase [] state now = refl
behind_all-phase (message ∷ messages) state now = behind_all-phase messages (behind state message now) now ∙ spoken-phase now state.link

delivered-sent : (messages : List Outbound) (state : State) (now : ℤ) (number : ℕ) (actions : List Action)
    → delivered_by number (sent state messages now ++ actions) ≡ delivered_by number actions
delivered-sent [] state now number actions = refl
delivered-sent (message ∷ messages) state now number actions = delivered-sent messages (behind state message now) now number actions

-- ---- a row

-- what a row does to the two numbers
record RowMoves (state : State) (row : Row) (command : Option Command) : Type 0 where
  pub next : row.state.next ≡ state.next
  pub grows : state.expected ≤ row.state.expected
  pub delivers : (number : ℕ) → (delivered_by number (ending row.end command) ≡ []) ⊎ IsAwaiting row.state
  pub awaits : IsAwaiting row.state → (row.state.expected ≡ state.expected) × (acts row ≡ true)
  pub off : phase_of state ≢ phases.On → phase_of row.state ≢ phases.On → row.state.expected ≡ state.expected
  pub shut : phase_of state ≡ phases.Closed → (phase_of row.state ≡ phases.Closed) × (messages_of row.sends ≡ [])

-- what a call does to them, but for what a reply counts
record CallMoves (state : State) (given : Outcome) (numbers : List ℕ) : Type 0 where
  pub sent : CountUp state.next numbers given.state.next
  pub grows : state.expected ≤ given.state.expected
  pub delivers : (number : ℕ) → (delivered_by number given.actions ≡ []) ⊎ IsAwaiting given.state
  pub awaits : IsAwaiting given.state → (given.state.expected ≡ state.expected) × (given.state.next ≤ LAST_NUMBER)
  pub off : phase_of state ≢ phases.On → phase_of given.state ≢ phases.On → given.state.expected ≡ state.expected
  pub shut : phase_of state ≡ phases.Closed → (phase_of given.state ≡ phases.Closed) × (numbers ≡ [])

-- the session is closed, and its numbers stay
shut-moves : (state : State) (actions : List Action) → ((number : ℕ) → delivered_by number actions ≡ []) → CallMoves state (record { state = closed state; actions = actions }) []
shut-moves state actions none =
    record {
      sent = refl;
      grows = omega arith;
      delivers = λ number. inl (none number);
      awaits = λ awaiting. absurd (false≢true awaiting);
      off = λ before after. refl;
      shut = λ is. (refl, refl);
    }

row-moves : (is_used_up : Bool) (state : State) (row : Row) (command : Option Command) (now : ℤ) → is_spent state row ≡ is_used_up → RowMoves state row command
    → (IsAwaiting row.state → messages_of row.sends ≡ [])
    → CallMoves state (if is_used_up then spent state else carried_out row command now) (if is_used_up then [] else numbers_from row.state.next (messages_of row.sends))
row-moves true state row command now is moves silent_await = shut-moves state _ (λ number. refl)
row-moves false state row command now is moves silent_await =
    let messages = messages_of row.sends in
    let after = behind_all-next messages row.state now in
    let same = behind_all-expected messages row.state now in
    let awaited = behind_all-awaited messages row.state now in
    let phase = behind_all-phase messages row.state now in
    record {
      sent = subst (λ last. CountUp state.next (numbers_from row.state.next messages) last) (sym after)
          (subst (λ first. CountUp first (numbers_from row.state.next messages) (next_from row.state.next messages)) moves.next (counts messages row.state.next));
      grows = (let grows = moves.grows in omega (arith, grows, same));
      delivers = λ number.
          subst (λ found. (found ≡ []) ⊎ IsAwaiting (carried_out row command now).state) (sym (delivered-sent messages row.state now number (ending row.end command)))
          (subst (λ found. (delivered_by number (ending row.end command) ≡ []) ⊎ (is_some found ≡ true)) (sym awaited) (moves.delivers number));
      awaits = λ awaiting.
          let here = subst (λ found. is_some found ≡ true) awaited awaiting in
          let low = unspent-last state row is (moves.awaits here).1 in
          let none = ap (next_from row.state.next) (silent_await here) in
          let next = moves.next in
          (same ∙ (moves.awaits here).0, omega (arith, after, none, next, low));
      off = λ before behind. same ∙ moves.off before (λ on. behind (phase ∙ on));
      shut = λ is. (
        phase ∙ (moves.shut is).0,
        ap (numbers_from row.state.next) (moves.shut is).1,
      );
    }

-- ---- a frame

-- a session that waits for a Logon comes on, or expects the same number
abbrev Waits : State → Row → Type 0
Waits state row = (phase_of row.state ≡ phases.On) ⊎ (row.state.expected ≡ state.expected)

logon-waits : (state : State) (number heartbeat : ℕ) (reset : Bool) (now : ℤ) → Waits state (logon_row state number heartbeat reset now)
unfolding logon_row
logon-waits state number heartbeat reset now = cond_both (state.expected == number) _ _ (Waits state) (λ y. inl refl) (λ n. inl refl)

first_logon-waits : (state : State) (head : Head) (heartbeat : ℕ) (now : ℤ) → Waits state (first_logon_row state head heartbeat false now)
unfolding first_logon_row low_logon_row
first_logon-waits state head heartbeat now =
    cond_both (nat_lt head.number state.expected) _ _ (Waits state)
    (λ y. cond_both head.dup _ _ (Waits state) (λ dup. inr refl) (λ other. inr refl))
    (λ n. logon-waits state head.number heartbeat false now)

waiting_logon-waits : (state : State) (head : Head) (heartbeat : ℕ) (now : ℤ) → Waits state (waiting_logon_row state head heartbeat false now)
unfolding waiting_logon_row
waiting_logon-waits state head heartbeat now =
    cond_both (is_from_peer state head) _ _ (Waits state) (λ y. first_logon-waits state head heartbeat now) (λ n. inr refl)

waiting_body-waits : (state : State) (head : Head) (body : Body) (now : ℤ) → is_reset_by body ≡ false → Waits state (waiting_body_row state head body now)
waiting_body-waits state head (bodies.Admin (admin.Logon heartbeat true)) now kept = absurd (false≢true (sym kept))
waiting_body-waits state head (bodies.Admin (admin.Logon heartbeat false)) now kept = waiting_logon-waits state head heartbeat now
waiting_body-waits state head (bodies.Admin admin.Heartbeat) now kept = inr refl
waiting_body-waits state head (bodies.Admin admin.Reject) now kept = inr refl
waiting_body-waits state head (bodies.Admin (admin.TestRequest id)) now kept = inr refl
waiting_body-waits state head (bodies.Admin (admin.ResendRequest begin end)) now kept = inr refl
waiting_body-waits state head (bodies.Admin (admin.SequenceReset new_number gap_fill)) now kept = inr refl
waiting_body-waits state head (bodies.Admin admin.Logout) now kept = inr refl
waiting_body-waits state head (bodies.Report report) now kept = inr refl
waiting_body-waits state head (bodies.Allocation allocation) now kept = inr refl
waiting_body-waits state head bodies.Other now kept = inr refl

waiting-waits : (state : State) (said : Result Message FieldFault) (now : ℤ) → is_reset_said said ≡ false → Waits state (waiting_row state said now)
unfolding waiting_row
waiting-waits state (Ok message) now kept = waiting_body-waits state message.head message.body now kept
waiting-waits state (Err fault) now kept = inr refl

-- a session that isn't on comes on, or expects the same number
off-waits : (state : State) (link : LinkState) (said : Result Message FieldFault) (now : ℤ) → is_reset_said said ≡ false → phase_by link ≢ phases.On
    → Waits state (frame_row_by state link said now)
off-waits state links.Waiting said now kept off = waiting-waits state said now kept
off-waits state (links.On live) said now kept off = absurd (off refl)
off-waits state links.Closed said now kept off = inr refl

-- about a frame that comes to a closed session nothing is done
closed-frame : (state : State) (link : LinkState) (said : Result Message FieldFault) (now : ℤ) → phase_by link ≡ phases.Closed → frame_row_by state link said now ≡ silent state
closed-frame state links.Waiting said now is = absurd cc
closed-frame state (links.On live) said now is = absurd cc
closed-frame state links.Closed said now is = refl

none-delivered : (end : End) (command : Option Command) (number : ℕ) → is_delivery end ≡ false → delivered_by number (ending end command) ≡ []
none-delivered Stays command number is = refl
none-delivered Delivers command number is = absurd (false≢true (sym is))
none-delivered (Closes reason) command number is = refl

acting : (sends : Sends) (end : End) (state : State) → end ≡ Delivers → acts (record { sends = sends; end = end; state = state }) ≡ true
acting Nothing Delivers state is = refl
acting Nothing Stays state is = absurd cc
acting Nothing (Closes reason) state is = refl
acting (One message) end state is = refl
acting (Two first second) end state is = refl

-- what is the same for each row of a frame
off-same : (state : State) (said : Result Message FieldFault) (now : ℤ) → is_reset_said said ≡ false → phase_of state ≢ phases.On
    → phase_of (frame_row state said now).state ≢ phases.On → (frame_row state said now).state.expected ≡ state.expected
off-same state said now kept off after = elim (off-waits state state.link said now kept off) [
  | inl on ↦ absurd (after on)
  | inr same ↦ same
]

shut-same : (state : State) (said : Result Message FieldFault) (now : ℤ) → phase_of state ≡ phases.Closed
    → (phase_of (frame_row state said now).state ≡ phases.Closed) × (messages_of (frame_row state said now).sends ≡ [])
shut-same state said now is =
    let row = closed-frame state state.link said now is in
    (ap (λ (row : Row). phase_of row.state) row ∙ is, ap (λ (row : Row). messages_of row.sends) row)

frame-row : (state : State) (said : Result Message FieldFault) (now : ℤ) (command : Option Command) → IsIdle state → is_reset_said said ≡ false
    → RowMoves state (frame_row state said now) command × (IsAwaiting (frame_row state said now).state → messages_of (frame_row state said now).sends ≡ [])
frame-row state said now command idle kept =
    let row = frame_row state said now in
    elim (frame-moves state said now idle) [
      | inl moves ↦ elim moves [
        | inl on ↦ (
          record {
            next = on.next_same;
            grows = steps-grow said state.expected row.state.expected on.number;
            delivers = λ number. inl (none-delivered row.end command number on.end);
            awaits = λ awaiting. absurd (idle-none row.state on.idle awaiting);
            off = off-same state said now kept;
            shut = shut-same state said now;
          },
          λ awaiting. absurd (idle-none row.state on.idle awaiting),
        )
        | inr hands ↦ (
          record {
            next = hands.next_same;
            grows = (let same = hands.same in omega (arith, same));
            delivers = λ number. inr hands.awaits;
            awaits = λ awaiting. (hands.same, acting row.sends row.end row.state hands.end);
            off = off-same state said now kept;
            shut = shut-same state said now;
          },
          λ awaiting. ap messages_of hands.sends,
        )
      ]
      | inr resets ↦ absurd (false≢true (sym kept ∙ resets.0))
    ]

-- ---- a moment, the end of the day, a reply

rests-row : (state : State) (row : Row) → Rests state row → (phase_of state ≡ phases.Closed → (phase_of row.state ≡ phases.Closed) × (messages_of row.sends ≡ [])) → RowMoves state row None
rests-row state row rests shut =
    record {
      next = rests.next;
      grows = (let same = rests.expected in omega (arith, same));
      delivers = λ number. inl (none-delivered row.end None number rests.end);
      awaits = λ awaiting. absurd (idle-none row.state rests.idle awaiting);
      off = λ before after. rests.expected;
      shut = shut;
    }

closed-tick : (state : State) (link : LinkState) (now : ℤ) → phase_by link ≡ phases.Closed → tick_row_by state link now ≡ silent state
closed-tick state links.Waiting now is = absurd cc
closed-tick state (links.On live) now is = absurd cc
closed-tick state links.Closed now is = refl

closed-stop : (state : State) (link : LinkState) → phase_by link ≡ phases.Closed → stop_row_by state link ≡ silent state
closed-stop state links.Waiting is = absurd cc
closed-stop state (links.On live) is = absurd cc
closed-stop state links.Closed is = refl

silent-shut : (state : State) (row : Row) → row ≡ silent state → phase_of state ≡ phases.Closed → (phase_of row.state ≡ phases.Closed) × (messages_of row.sends ≡ [])
silent-shut state row is closed = (ap (λ (row : Row). phase_of row.state) is ∙ closed, ap (λ (row : Row). messages_of row.sends) is)

tick-row : (state : State) (now : ℤ) → IsIdle state → RowMoves state (tick_row state now) None
unfolding tick_row
tick-row state now idle = rests-row state (tick_row state now) (tick-rests state now idle) (λ is. silent-shut state (tick_row state now) (closed-tick state state.link now is) is)

stop-row : (state : State) → IsIdle state → RowMoves state (stop_row state) None
unfolding stop_row
stop-row state idle = rests-row state (stop_row state) (stop-rests state idle) (λ is. silent-shut state (stop_row state) (closed-stop state state.link is) is)

-- a closed session awaits no reply
closed_link : (link : LinkState) → phase_by link ≡ phases.Closed → awaited_by link ≡ None
closed_link links.Waiting is = absurd cc
closed_link (links.On live) is = absurd cc
closed_link links.Closed is = refl

pub closed_idle : (state : State) → phase_of state ≡ phases.Closed → IsIdle state
closed_idle state is = closed_link state.link is

off-awaits : (link : LinkState) → phase_by link ≢ phases.On → is_some (awaited_by link) ≡ true → ⊥
off-awaits links.Waiting off awaiting = false≢true awaiting
off-awaits (links.On live) off awaiting = off refl
off-awaits links.Closed off awaiting = false≢true awaiting

settled-grows : (state : State) (reply : Result SeenReply NotTaken) (row : Row) → Settles state reply row → state.expected ≤ row.state.expected
settled-grows state (Ok seen) row settled = (let one = settled.taken seen refl in omega (arith, one))
settled-grows state (Err fault) row settled = (let same = settled.not_taken fault refl in omega (arith, same))

reply-row : (state : State) (reply : Result SeenReply NotTaken) → IsAwaiting state → RowMoves state (row_of_reply state reply) None
reply-row state reply awaiting =
    let row = row_of_reply state reply in
    let settled = settles state reply awaiting in
    record {
      next = settled.next;
      grows = settled-grows state reply row settled;
      delivers = λ number. inl (none-delivered row.end None number settled.end);
      awaits = λ awaits. absurd (idle-none row.state settled.idle awaits);
      off = λ before after. absurd (off-awaits state.link before awaiting);
      shut = λ is. absurd (idle-none state (closed_idle state is) awaiting);
    }

-- a command that wasn't taken closes the session
declined-shut : (state : State) (found : Option Awaited) (fault : NotTaken) → is_some found ≡ true → phase_of (reply_row_by state found (Err fault)).state ≡ phases.Closed
unfolding reply_row
declined-shut state (Some awaited) fault is = refl
declined-shut state None fault is = absurd (false≢true is)

-- ---- a call

moved : (state : State) (call : Call) (given : Outcome) → CallMoves state given (numbers_sent state call) → Expects state call given.state → MovesNumbers state call given
moved state call given moves expects =
    record { sent = moves.sent; grows = moves.grows; delivers = moves.delivers; awaits = moves.awaits; expects = expects; off = moves.off; shut = moves.shut }

replied : (state : State) (reply : Result SeenReply NotTaken) (now : ℤ) (memory : Bool) → IsAwaiting state → state.next ≤ LAST_NUMBER
    → Expects state (Reply reply now memory) (outcome state (Reply reply now memory)).state
replied state (Ok seen) now true awaiting low =
    let row = row_of_reply state (Ok seen) in
    subst (λ (given : Outcome). given.state.expected ≡ state.expected + 1) (sym (cond-false (is_spent state row) (spent state) (carried_out row None now) (unspent state row low)))
    (behind_all-expected (messages_of row.sends) row.state now ∙ (settles state (Ok seen) awaiting).taken seen refl)
replied state (Ok seen) now false awaiting low = (settles state (Ok seen) awaiting).taken seen refl
replied state (Err fault) now true awaiting low =
    let row = row_of_reply state (Err fault) in
    subst (λ (given : Outcome). (given.state.expected ≡ state.expected) × (phase_of given.state ≡ phases.Closed))
    (sym (cond-false (is_spent state row) (spent state) (carried_out row None now) (unspent state row low))) (
      behind_all-expected (messages_of row.sends) row.state now ∙ (settles state (Err fault) awaiting).not_taken fault refl,
      behind_all-phase (messages_of row.sends) row.state now ∙ declined-shut state (awaited_of state) fault awaiting,
    )
replied state (Err fault) now false awaiting low = ((settles state (Err fault) awaiting).not_taken fault refl, refl)

-- the reply's number is counted though there is no memory to go on
short-moves : (state : State) (reply : Result SeenReply NotTaken) → IsAwaiting state → CallMoves state (quiet (closed (row_of_reply state reply).state)) []
short-moves state reply awaiting =
    let row = row_of_reply state reply in
    let settled = settles state reply awaiting in
    record {
      sent = settled.next;
      grows = settled-grows state reply row settled;
      delivers = λ number. inl refl;
      awaits = λ awaits. absurd (false≢true awaits);
      off = λ before after. absurd (off-awaits state.link before awaiting);
      shut = λ is. (refl, refl);
    }

-- a row that rests leaves the number that is expected
rests-same : (is_used_up : Bool) (state : State) (row : Row) (now : ℤ) → Rests state row → (if is_used_up then spent state else carried_out row None now).state.expected ≡ state.expected
rests-same true state row now rests = refl
rests-same false state row now rests = behind_all-expected (messages_of row.sends) row.state now ∙ rests.expected

pub moves-numbers : (state : State) (call : Call) → Meets state call → is_reset call ≡ false → is_of_connection call ≡ true
    → (IsAwaiting state → IsUnspent state) → MovesNumbers state call (outcome state call)
moves-numbers state (Frame text now true) met kept of low =
    let found = frame-row state (said_by text) now (command_said (said_by text) state.peer) met kept in
    moved state (Frame text now true) _ (row-moves _ state (frame_row state (said_by text) now) _ now refl found.0 found.1) tt
moves-numbers state (Frame text now false) met kept of low = moved state (Frame text now false) _ (shut-moves state [] (λ number. refl)) tt
moves-numbers state (Reply reply now true) met kept of low =
    let row = row_of_reply state reply in
    moved state (Reply reply now true) _ (row-moves _ state row None now refl (reply-row state reply met) (λ awaits. absurd (idle-none row.state (settles state reply met).idle awaits)))
    (replied state reply now true met (low met))
moves-numbers state (Reply reply now false) met kept of low =
    moved state (Reply reply now false) _ (short-moves state reply met) (replied state reply now false met (low met))
moves-numbers state (Tick now true) met kept of low =
    moved state (Tick now true) _ (row-moves _ state (tick_row state now) None now refl (tick-row state now met) (λ awaits. absurd (idle-none (tick_row state now).state (tick-rests state now met).idle awaits)))
    (rests-same _ state (tick_row state now) now (tick-rests state now met))
moves-numbers state (Tick now false) met kept of low = moved state (Tick now false) _ (shut-moves state [] (λ number. refl)) refl
moves-numbers state (Stop now true) met kept of low =
    moved state (Stop now true) _ (row-moves _ state (stop_row state) None now refl (stop-row state met) (λ awaits. absurd (idle-none (stop_row state).state (stop-rests state met).idle awaits)))
    (rests-same _ state (stop_row state) now (stop-rests state met))
moves-numbers state (Stop now false) met kept of low = moved state (Stop now false) _ (shut-moves state [] (λ number. refl)) refl
moves-numbers state Closing met kept of low = moved state Closing _ (shut-moves state [] (λ number. refl)) refl
moves-numbers state WaitAgain met kept of low = absurd (false≢true of)

-- ---- calls

count-on : (first middle last : ℕ) (numbers more : List ℕ) → CountUp first numbers middle → CountUp middle more last → CountUp first (numbers ++ more) last
count-on first middle last [] more one two = subst (λ start. CountUp start more last) one two
count-on first middle last (number ∷ numbers) more one two = (one.0, count-on (first + 1) middle last numbers more one.1 two)

counts-up : (calls : List Call) (state : State) → (IsAwaiting state → IsUnspent state) → AreMet state calls → HasNoReset calls → list_all is_of_connection calls ≡ true
    → CountUp state.next (all_sent state calls) (behind_calls state calls).next
counts-up [] state low met kept of = refl
counts-up (call ∷ calls) state low met kept of =
    let parts : (is_of_connection call ≡ true) × (list_all is_of_connection calls ≡ true) = and_parts (is_of_connection call) (list_all is_of_connection calls) of in
    let moves = moves-numbers state call met.0 kept.0 parts.0 low in
    let next = (outcome state call).state in
    count-on state.next next.next (behind_calls next calls).next (numbers_sent state call) (all_sent next calls) moves.sent
    (counts-up calls next (λ awaits. (moves.awaits awaits).1) met.1 kept.1 parts.1)

pub counted_up : (state : State) (calls : List Call) → IsIdle state → AreMet state calls → HasNoReset calls → list_all is_of_connection calls ≡ true
    → CountUp state.next (all_sent state calls) (behind_calls state calls).next
counted_up state calls idle met kept of = counts-up calls state (λ awaits. absurd (idle-none state idle awaits)) met kept of

-- ---- the numbers of what is delivered

-- a frame whose command is delivered bears the number that is expected then
borne-by : (is_used_up : Bool) (state : State) (said : Result Message FieldFault) (now : ℤ) (command : Option Command) → IsIdle state → is_reset_said said ≡ false
    → (delivered_by state.expected (if is_used_up then spent state else carried_out (frame_row state said now) command now).actions ≡ []) ⊎ Bears state.expected said
borne-by true state said now command idle kept = inl refl
borne-by false state said now command idle kept =
    let row = frame_row state said now in
    let none = delivered-sent (messages_of row.sends) row.state now state.expected (ending row.end command) in
    elim (frame-moves state said now idle) [
      | inl moves ↦ elim moves [
        | inl on ↦ inl (none ∙ none-delivered row.end command state.expected on.end)
        | inr hands ↦ inr hands.bears
      ]
      | inr resets ↦ absurd (false≢true (sym kept ∙ resets.0))
    ]

borne : (state : State) (call : Call) → Meets state call → is_reset call ≡ false → IsBorne state call
borne state (Frame text now true) met kept = borne-by _ state (said_by text) now (command_said (said_by text) state.peer) met kept
borne state (Frame text now false) met kept = inl refl
borne state (Reply reply now memory) met kept = tt
borne state (Tick now memory) met kept = tt
borne state (Stop now memory) met kept = tt
borne state Closing met kept = tt
borne state WaitAgain met kept = tt

all-borne : (calls : List Call) (state : State) → AreMet state calls → HasNoReset calls → AreBorne state calls
all-borne [] state met kept = tt
all-borne (call ∷ calls) state met kept = (borne state call met.0 kept.0, all-borne calls (outcome state call).state met.1 kept.1)

pub all_borne : (state : State) (calls : List Call) → AreMet state calls → HasNoReset calls → AreBorne state calls
all_borne state calls met kept = all-borne calls state met kept
