-- What a call delivers is last, and awaits its reply.
use Rattle.std.proofs.Common.{◌≡◌, ℕ, Bool, true, false, List, [], ◌∷◌, ◌++◌, Option, Some, None, Result, Ok, Err, refl, sym, ap, subst, ◌∙◌, inl, inr, ℤ, is_some, IfOk, OnErr}
use Rattle.std.specs.List.{list_any}
use Rattle.std.proofs.lemmas.Bool.{cond_both, false≢true}
use Rattle.blot_types.specs.declared.command.Command.{Command}
use Rattle.blot_fields.specs.declared.{fault.FieldFault.FieldFault, message.Message.Message}
use Rattle.blot_session.specs.declared.{action.Action.Action, action.Action.TheVariants.Send, outbound.Outbound.Outbound, replies.NotTaken.NotTaken, replies.SeenReply.SeenReply, row.End.End, row.Row.Row, state.State.State}
use Rattle.blot_session.specs.declared.row.End.TheVariants.{Stays, Delivers, Closes}
use Rattle.blot_session.specs.Calls.{Outcome, Awaits, GivesCommand, DeliversLast, DeliversAlone, behind, sent, ending, carried_out, is_deliver, is_spent, outcome_of, behind_all, command_said, on_frame, on_tick, on_stop, row_of_reply, on_reply}
use Rattle.blot_session.specs.Outbound.{text_of}
use Rattle.blot_session.specs.Rows.{frame_row, stop_row, tick_row}
use Rattle.blot_session.specs.States.{awaited_of, IsIdle, IsAwaiting}
use Rattle.blot_session.specs.Table.{messages_of}
use Rattle.blot_session.proofs.RowLemmas.{GoesOn, HandsOn, Moves, is_delivery, frame-moves}
use Rattle.blot_session.proofs.RunLemmas.{behind_all-awaited}
use Rattle.blot_session.proofs.StateLemmas.{stop-rests, tick-rests, settles}

-- ---- what is sent delivers nothing

any-sent : (messages : List Outbound) (state : State) (now : ℤ) (actions : List Action) → list_any is_deliver (sent state messages now ++ actions) ≡ list_any is_deliver actions
any-sent [] state now actions = refl
any-sent (message ∷ messages) state now actions = any-sent messages (behind state message now) now actions

last-behind : (bytes : List ℕ) (actions : List Action) → DeliversLast actions → DeliversLast (Send bytes ∷ actions)
last-behind bytes [] last = tt
last-behind bytes (action ∷ actions) last = (refl, last)

last-sent : (messages : List Outbound) (state : State) (now : ℤ) (actions : List Action) → DeliversLast actions → DeliversLast (sent state messages now ++ actions)
last-sent [] state now actions last = last
last-sent (message ∷ messages) state now actions last =
    last-behind (text_of state message now) (sent (behind state message now) messages now ++ actions) (last-sent messages (behind state message now) now actions last)

last-ending : (end : End) (command : Option Command) → DeliversLast (ending end command)
last-ending Stays command = tt
last-ending Delivers None = tt
last-ending Delivers (Some command) = tt
last-ending (Closes reason) command = tt

none-ending : (end : End) (command : Option Command) → is_delivery end ≡ false → list_any is_deliver (ending end command) ≡ false
none-ending Stays command none = refl
none-ending Delivers command none = absurd (false≢true (sym none))
none-ending (Closes reason) command none = refl

some-ending : (end : End) (command : Option Command) → end ≡ Delivers → is_some command ≡ true → list_any is_deliver (ending end command) ≡ true
some-ending end (Some command) is some = ap (λ e. list_any is_deliver (ending e (Some command))) is
some-ending end None is some = absurd (false≢true some)

-- ---- a frame

carried-awaits : (row : Row) (command : Option Command) (now : ℤ) → list_any is_deliver (ending row.end command) ≡ is_some (awaited_of row.state)
    → Awaits (carried_out row command now).state (carried_out row command now).actions
carried-awaits row command now same =
    record {
      last = last-sent (messages_of row.sends) row.state now (ending row.end command) (last-ending row.end command);
      awaited = any-sent (messages_of row.sends) row.state now (ending row.end command) ∙ same
          ∙ ap is_some (sym (behind_all-awaited (messages_of row.sends) row.state now));
    }

went-on : (peer : List ℕ) (next expected : ℕ) (said : Result Message FieldFault) (row : Row) (command : Option Command) → GoesOn peer next expected said row
    → list_any is_deliver (ending row.end command) ≡ is_some (awaited_of row.state)
went-on peer next expected said row command on = none-ending row.end command on.end ∙ ap is_some (sym on.idle)

handed-on : (next expected : ℕ) (said : Result Message FieldFault) (row : Row) (peer : List ℕ) → HandsOn peer next expected said row
    → list_any is_deliver (ending row.end (command_said said peer)) ≡ is_some (awaited_of row.state)
handed-on next expected said row peer hands = some-ending row.end (command_said said peer) hands.end (hands.command peer) ∙ sym hands.awaits

frame-awaits : (state : State) (said : Result Message FieldFault) (now : ℤ) → IsIdle state → Awaits (on_frame state said now).state (on_frame state said now).actions
frame-awaits state said now idle =
    let row = frame_row state said now in
    let command = command_said said state.peer in
    cond_both (is_spent state row) _ _ (λ (outcome : Outcome). Awaits outcome.state outcome.actions)
    (λ y. record { last = tt; awaited = refl })
    (λ n. carried-awaits row command now (elim (frame-moves state said now idle) [
      | inl moves ↦ elim moves [
        | inl on ↦ went-on state.peer state.next state.expected said row command on
        | inr hands ↦ handed-on state.next state.expected said row state.peer hands
      ]
      | inr resets ↦ elim resets.1 [
        | inl on ↦ went-on state.peer 1 1 said row command on
        | inr hands ↦ handed-on 1 1 said row state.peer hands
      ]
    ]))

pub awaits_reply : (state next : State) (actions : List Action) (said : Result Message FieldFault) (now : ℤ) → IsIdle state
    → record { state = next; actions = actions } ≡ on_frame state said now → Awaits next actions
awaits_reply state next actions said now idle is =
    subst (λ (outcome : Outcome). Awaits outcome.state outcome.actions) (sym is) (frame-awaits state said now idle)

-- a report's command, too, and where none was taken no reply is awaited
pub awaits_report : (taken : Bool) (state next : State) (command : Option Command) (said : Result Message FieldFault) (now : ℤ) → IsIdle state
    → (taken ≡ true → GivesCommand (on_frame state said now) next command) → (taken ≡ false → next ≡ state) → taken ≡ is_some (awaited_of next)
awaits_report true state next command said now idle gives same =
    let given = gives refl in
    sym (some-ending Delivers command refl given.brings) ∙ (awaits_reply state next (ending Delivers command) said now idle given.gives).awaited
awaits_report false state next command said now idle gives same = sym (ap (λ (state : State). is_some (awaited_of state)) (same refl) ∙ ap is_some idle)

-- and it is the only action
alone-none : (actions : List Action) → list_any is_deliver actions ≡ false → DeliversAlone actions
alone-none [] none = refl
alone-none (action ∷ []) none = tt
alone-none (action ∷ next ∷ actions) none = none

alone-ending : (end : End) (command : Option Command) → DeliversAlone (ending end command)
alone-ending Stays command = refl
alone-ending Delivers None = refl
alone-ending Delivers (Some command) = tt
alone-ending (Closes reason) command = tt

alone-row : (peer : List ℕ) (next expected : ℕ) (said : Result Message FieldFault) (row : Row) (command : Option Command) (now : ℤ) → Moves peer next expected said row
    → DeliversAlone (carried_out row command now).actions
alone-row peer next expected said row command now (inl on) =
    let messages = messages_of row.sends in
    alone-none (sent row.state messages now ++ ending row.end command) (any-sent messages row.state now (ending row.end command) ∙ none-ending row.end command on.end)
alone-row peer next expected said row command now (inr hands) =
    subst (λ sends. DeliversAlone (sent row.state (messages_of sends) now ++ ending row.end command)) (sym hands.sends) (alone-ending row.end command)

delivers-alone : (state next : State) (actions : List Action) (said : Result Message FieldFault) (now : ℤ) → IsIdle state
    → record { state = next; actions = actions } ≡ on_frame state said now → DeliversAlone actions
delivers-alone state next actions said now idle is =
    let row = frame_row state said now in
    let command = command_said said state.peer in
    subst (λ (outcome : Outcome). DeliversAlone outcome.actions) (sym is)
    (cond_both (is_spent state row) _ _ (λ (outcome : Outcome). DeliversAlone outcome.actions)
    (λ y. tt)
    (λ n. elim (frame-moves state said now idle) [
      | inl moves ↦ alone-row state.peer state.next state.expected said row command now moves
      | inr resets ↦ alone-row state.peer 1 1 said row command now resets.1
    ]))

-- ---- a moment and a reply deliver nothing

rests-awaits : (row : Row) (state : State) (now : ℤ) → IsIdle row.state → is_delivery row.end ≡ false
    → Awaits (outcome_of state row None now).state (outcome_of state row None now).actions
rests-awaits row state now idle end =
    cond_both (is_spent state row) _ _ (λ (outcome : Outcome). Awaits outcome.state outcome.actions)
    (λ y. record { last = tt; awaited = refl })
    (λ n. carried-awaits row None now (none-ending row.end None end ∙ ap is_some (sym idle)))

pub awaits_tick : (state next : State) (actions : List Action) (now : ℤ) → IsIdle state
    → record { state = next; actions = actions } ≡ on_tick state now → Awaits next actions
awaits_tick state next actions now idle is =
    let rests = tick-rests state now idle in
    subst (λ (outcome : Outcome). Awaits outcome.state outcome.actions) (sym is) (rests-awaits (tick_row state now) state now rests.idle rests.end)

pub awaits_stop : (state next : State) (actions : List Action) (now : ℤ) → IsIdle state
    → record { state = next; actions = actions } ≡ on_stop state now → Awaits next actions
awaits_stop state next actions now idle is =
    let rests = stop-rests state idle in
    subst (λ (outcome : Outcome). Awaits outcome.state outcome.actions) (sym is) (rests-awaits (stop_row state) state now rests.idle rests.end)

pub awaits_after_reply : (state next : State) (actions : List Action) (reply : Result SeenReply NotTaken) (now : ℤ) → IsAwaiting state
    → record { state = next; actions = actions } ≡ on_reply state reply now → Awaits next actions
awaits_after_reply state next actions reply now awaiting is =
    let settled = settles state reply awaiting in
    subst (λ (outcome : Outcome). Awaits outcome.state outcome.actions) (sym is) (rests-awaits (row_of_reply state reply) state now settled.idle settled.end)

-- ---- the session after a call

-- nothing awaits a reply
rests-idle : (row : Row) (state : State) (now : ℤ) → IsIdle row.state → IsIdle (outcome_of state row None now).state
rests-idle row state now idle =
    cond_both (is_spent state row) _ _ (λ (outcome : Outcome). IsIdle outcome.state)
    (λ y. refl)
    (λ n. behind_all-awaited (messages_of row.sends) row.state now ∙ idle)

pub tick-idle : (state : State) (now : ℤ) → IsIdle state → IsIdle (on_tick state now).state
tick-idle state now idle = rests-idle (tick_row state now) state now (tick-rests state now idle).idle

pub reply-idle : (state : State) (reply : Result SeenReply NotTaken) (now : ℤ) → IsAwaiting state → IsIdle (on_reply state reply now).state
reply-idle state reply now awaiting = rests-idle (row_of_reply state reply) state now (settles state reply awaiting).idle

-- it is the same peer's
behind_all-peer : (messages : List Outbound) (state : State) (now : ℤ) → (behind_all state messages now).peer ≡ state.peer
behind_all-peer [] state now = refl
behind_all-peer (message ∷ messages) state now = behind_all-peer messages (behind state message now) now

outcome-peer : (row : Row) (state : State) (command : Option Command) (now : ℤ) → row.state.peer ≡ state.peer → (outcome_of state row command now).state.peer ≡ state.peer
outcome-peer row state command now same =
    cond_both (is_spent state row) _ _ (λ (outcome : Outcome). outcome.state.peer ≡ state.peer)
    (λ y. refl)
    (λ n. behind_all-peer (messages_of row.sends) row.state now ∙ same)

moves-peer : (peer : List ℕ) (next expected : ℕ) (said : Result Message FieldFault) (row : Row) → Moves peer next expected said row → row.state.peer ≡ peer
moves-peer peer next expected said row (inl on) = on.of_peer
moves-peer peer next expected said row (inr hands) = hands.of_peer

pub frame-peer : (state : State) (said : Result Message FieldFault) (now : ℤ) → IsIdle state → (on_frame state said now).state.peer ≡ state.peer
frame-peer state said now idle =
    outcome-peer (frame_row state said now) state (command_said said state.peer) now (elim (frame-moves state said now idle) [
      | inl moves ↦ moves-peer state.peer state.next state.expected said (frame_row state said now) moves
      | inr resets ↦ moves-peer state.peer 1 1 said (frame_row state said now) resets.1
    ])

pub stop-idle : (state : State) (now : ℤ) → IsIdle state → IsIdle (on_stop state now).state
stop-idle state now idle = rests-idle (stop_row state) state now (stop-rests state idle).idle

pub stop-peer : (state : State) (now : ℤ) → IsIdle state → (on_stop state now).state.peer ≡ state.peer
stop-peer state now idle = outcome-peer (stop_row state) state None now (stop-rests state idle).of_peer

pub tick-peer : (state : State) (now : ℤ) → IsIdle state → (on_tick state now).state.peer ≡ state.peer
tick-peer state now idle = outcome-peer (tick_row state now) state None now (tick-rests state now idle).of_peer

pub row-peer : (state : State) (reply : Result SeenReply NotTaken) → IsAwaiting state → (row_of_reply state reply).state.peer ≡ state.peer
row-peer state reply awaiting = (settles state reply awaiting).of_peer

pub reply-peer : (state : State) (reply : Result SeenReply NotTaken) (now : ℤ) → IsAwaiting state → (on_reply state reply now).state.peer ≡ state.peer
reply-peer state reply now awaiting = outcome-peer (row_of_reply state reply) state None now (row-peer state reply awaiting)

-- what holds of the session that a call gives, and of the closed one, holds of the session after the call
pub behind-call : {V E : Type 0} (P : State → Type 0) (items : V → List Action) (given : Outcome) (result : Result V E) (done : Result (State × V) E) (next shut : State)
    → IfOk result (λ actions. done ≡ Ok (next, actions)) → OnErr result (next ≡ shut)
    → IfOk done (λ done. record { state = done.0; actions = items done.1 } ≡ given) → P given.state → P shut → P next
behind-call P items given (Ok actions) done next shut ok err is gives closed =
    let same : record { state = next; actions = items actions } ≡ given =
    subst (λ found. IfOk found (λ done. record { state = done.0; actions = items done.1 } ≡ given)) ok is in
    subst (λ (outcome : Outcome). P outcome.state) (sym same) gives
behind-call P items given (Err fault) done next shut ok err is gives closed = subst P (sym err) closed

pub behind-taken : {V E : Type 0} (P : State → Type 0) (items : V → List Action) (given : Outcome) (result : Result V E) (next shut : State)
    → IfOk result (λ actions. record { state = next; actions = items actions } ≡ given) → OnErr result (next ≡ shut) → P given.state → P shut → P next
behind-taken P items given (Ok actions) next shut ok err gives closed = subst (λ (outcome : Outcome). P outcome.state) (sym ok) gives
behind-taken P items given (Err fault) next shut ok err gives closed = subst P (sym err) closed

-- what a call delivers is the only action that it gives
pub alone-taken : {V E : Type 0} (items : V → List Action) (state : State) (said : Result Message FieldFault) (now : ℤ) (result : Result V E) (next : State)
    → IsIdle state → IfOk result (λ actions. record { state = next; actions = items actions } ≡ on_frame state said now) → IfOk result (λ actions. DeliversAlone (items actions))
alone-taken items state said now (Ok actions) next idle ok = delivers-alone state next (items actions) said now idle ok
alone-taken items state said now (Err fault) next idle ok = tt
