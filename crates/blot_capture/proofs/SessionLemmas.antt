-- What a frame comes to at its session.
use Rattle.std.proofs.Common.{◌≡◌, ℕ, Bool, true, false, List, [], ◌∷◌, ◌++◌, map, Option, Some, None, Result, Ok, Err, refl, sym, ap, subst, ◌∙◌, inl, inr, ℤ, pos, is_some, IfOk, if◌then◌else◌, option_map, append-nil}
use Rattle.std.specs.Option.{option_map_or}
use Rattle.std.specs.Result.{result_unwrap_or}
use Rattle.std.proofs.lemmas.Bool.{and_parts, cond_both, cases_Bool, false≢true}
use Rattle.blot_time.specs.Moment.{moment_of}
use Rattle.blot_time.specs.declared.fault.TimeFault.{TimeFault}
use Rattle.blot_types.specs.declared.{command.Command.Command, refused.Refused.Refused as Refusal}
use Rattle.blot_types.specs.Legal.{refusal_of}
use Rattle.blot_types.specs.RefusalNames.{refused_number}
use Rattle.blot_fields.specs.declared.{fault.FieldFault.FieldFault, message.Message.Message}
use Rattle.blot_session.specs.declared.{action.Action.Action, replies.NotTaken.NotTaken, replies.SeenReply.SeenReply, state.Awaited.Awaited, state.State.State, met.Met.Met}
use Rattle.blot_session.specs.declared.action.Action.TheVariants.{Send, Deliver, Close}
use Rattle.blot_session.specs.declared.replies.SeenReply.TheVariants.{Accepted, Refused}
use Rattle.blot_session.specs.declared.state.Awaited.TheVariants as awaits
use Rattle.blot_session.specs.Calls.{GivesCommand, Outcome, Awaits, command_said, delivery_of, is_spent, outcome_of, reply_row_by, on_frame, on_reply}
use Rattle.blot_session.specs.Met.{met_of}
use Rattle.blot_session.specs.InTurn.{is_report_said}
use Rattle.blot_session.specs.Rows.{reply_row}
use Rattle.blot_session.specs.Runs.{Numbered, outcome, said_by, delivered_by, taken_behind, taken_of}
use Rattle.blot_session.specs.States.{awaited_of, phase_of}
use Rattle.blot_session.proofs.ActionLemmas.{delivered-none}
use Rattle.blot_session.proofs.OneLemmas.{AtMostOne, one-frame}
use Rattle.blot_desk.specs.declared.{event.Event.TheVariants.Submit, event.Reply.Reply as DeskReply}
use Rattle.blot_desk.specs.Desk.{DeskBook, DeskState, step_of, submit_by}
use Rattle.blot_gateway.specs.Serving.{seen_reply}
use Rattle.blot_capture.specs.Capture.{frame_call, reply_calls, waiting_calls, behind_frame, behind_reply, calls_of, taken_by, moment_at, is_closed_phase}
use Rattle.blot_capture.specs.declared.handled.Handled.{Handled}
use Rattle.blot_capture.specs.Handling.{IsHandled, IsHandledBy, delivered_in, report_actions, is_fill_said}
use Rattle.blot_capture.specs.Trace.{actions_after, became_of}

-- ---- what is delivered

-- the number that they are delivered under doesn't matter
commands-same : (number : ℕ) (actions : List Action) → map (λ numbered. numbered.command) (delivered_by number actions) ≡ delivered_in actions
commands-same number [] = refl
commands-same number (Send bytes ∷ actions) = commands-same number actions
commands-same number (Deliver command ∷ actions) = ap (λ more. command ∷ more) (commands-same number actions)
commands-same number (Close reason ∷ actions) = commands-same number actions

-- a report in its turn is about a fill
pub said-fill : (state : State) (said : Result Message FieldFault) → is_report_said state said ≡ true → is_fill_said said ≡ true
said-fill state (Err fault) is = is
said-fill state (Ok message) is =
    let turn = and_parts _ _ is in
    let number = and_parts _ _ turn.0 in
    (and_parts _ _ number.0).1

-- ---- the reply

-- an acceptance and a refusal leave a session the same
seen-by : (state : State) (found : Option Awaited) (seen : SeenReply) (now : ℤ)
    → (outcome_of state (reply_row_by state found (Ok seen)) None now).state ≡ (outcome_of state (reply_row_by state found (Ok Accepted)) None now).state
unfolding reply_row
seen-by state (Some awaits.Report) seen now = refl
seen-by state (Some (awaits.Allocation id)) seen now =
    elim (cases_Bool (is_spent state (reply_row_by state (Some (awaits.Allocation id)) (Ok Accepted)))) [ inl y ↦ rw y refl | inr n ↦ rw n refl ]
seen-by state None seen now = refl

submit-seen : (book : DeskBook) (command : Command) (refused : Option Refusal) (state : State) (now : ℤ)
    → (on_reply state (seen_reply (Ok (submit_by book command refused).reply)) now).state ≡ (on_reply state (Ok Accepted) now).state
submit-seen book command None state now = refl
submit-seen book command (Some reason) state now = seen-by state (awaited_of state) (Refused (refused_number reason)) now

-- the session after the desk's reply is the one after an acceptance
pub replied : (book : DeskBook) (command : Command) (reply : DeskReply) (seen : Result SeenReply NotTaken) (state : State) (now : ℤ)
    → reply ≡ (step_of book (Submit command)).reply → seen ≡ seen_reply (Ok reply) → (on_reply state seen now).state ≡ (on_reply state (Ok Accepted) now).state
replied book command reply seen state now given told =
    ap (λ said. (on_reply state said now).state) (told ∙ ap (λ answer. seen_reply (Ok answer)) given)
    ∙ submit-seen book command (refusal_of book.list command) state now

-- ---- the calls of a frame

waiting-takes : (last : List Numbered) (closed state : State) → taken_behind last state (waiting_calls closed) ≡ []
waiting-takes last closed state = cond_both (is_closed_phase (phase_of closed)) _ _ (λ calls. taken_behind last state calls ≡ []) (λ y. refl) (λ n. refl)

-- after a frame, what it delivers is taken where a reply is awaited
reply-takes : (last : List Numbered) (state closed : State) (now : ℤ)
    → taken_behind last state (reply_calls state now ++ waiting_calls closed) ≡ (if is_some (awaited_of state) then last else [])
reply-takes last state closed now = elim (cases_Bool (is_some (awaited_of state))) [
  | inl y ↦ rw y (ap (λ rest. last ++ rest) (waiting-takes _ closed _) ∙ append-nil last)
  | inr n ↦ rw n (waiting-takes last closed state)
]

chosen : {A : Type 0} (awaiting : Bool) (items : List A) → (awaiting ≡ false → items ≡ []) → (if awaiting then items else []) ≡ items
chosen true items none = refl
chosen false items none = sym (none refl)

-- a frame's calls take what the frame delivers, where its reply is awaited
pub calls-take : (state : State) (text : List ℕ)
    → taken_of state (calls_of state text)
    ≡ (if is_some (awaited_of (behind_frame state text)) then delivered_by state.expected (outcome state (frame_call text)).actions else [])
calls-take state text =
    reply-takes (delivered_by state.expected (outcome state (frame_call text)).actions) (behind_frame state text) (behind_reply state text) (moment_at text)

awaited-take : (state : State) (text : List ℕ) → Awaits (behind_frame state text) (outcome state (frame_call text)).actions
    → taken_by state text ≡ delivered_in (outcome state (frame_call text)).actions
awaited-take state text awaits =
    let actions = (outcome state (frame_call text)).actions in
    let last = delivered_by state.expected actions in
    ap (map (λ numbered. numbered.command))
    (calls-take state text ∙ chosen (is_some (awaited_of (behind_frame state text))) last (λ none. delivered-none state.expected actions (awaits.awaited ∙ none)))
    ∙ commands-same state.expected actions

pub frame-takes : (state next : State) (text : List ℕ) (actions : List Action) (now : ℤ)
    → now ≡ moment_at text → record { state = next; actions = actions } ≡ on_frame state (said_by text) now → Awaits next actions
    → taken_by state text ≡ delivered_in actions
frame-takes state next text actions now at is awaits =
    let gave : record { state = next; actions = actions } ≡ outcome state (frame_call text) = is ∙ ap (on_frame state (said_by text)) at in
    awaited-take state text (subst (λ (given : Outcome). Awaits given.state given.actions) gave awaits)
    ∙ ap (λ (given : Outcome). delivered_in given.actions) (sym gave)

-- what is no report in its turn is given to the session as it was
pub given-after : (before between : State) (text : List ℕ) (said : Result Message FieldFault) (now : ℤ) (after : Outcome)
    → between ≡ before → after ≡ on_frame between said now → said ≡ said_by text → after ≡ on_frame before (said_by text) now
given-after before between text said now after same is says =
    is ∙ ap (λ state. on_frame state said now) same ∙ ap (λ said. on_frame before said now) says

-- of what is one, its command is delivered
given-report : (before after : State) (text : List ℕ) (said : Result Message FieldFault) (now : ℤ) → GivesCommand (on_frame before said now) after (command_said said before.peer)
    → after.peer ≡ before.peer → said ≡ said_by text → record { state = after; actions = report_actions said after.peer } ≡ on_frame before (said_by text) now
given-report before after text said now given same says =
    ap (λ peer. record { state = after; actions = report_actions said peer }) same
    ∙ given.gives ∙ ap (λ said. on_frame before said now) says

report-brings : (before after : State) (said : Result Message FieldFault) (given : Outcome) → GivesCommand given after (command_said said before.peer)
    → after.peer ≡ before.peer → is_some (command_said said after.peer) ≡ true
report-brings before after said given gives same = ap (λ peer. is_some (command_said said peer)) same ∙ gives.brings

report-awaits : (state : State) (command : Option Command) → is_some command ≡ true → is_some (awaited_of state) ≡ true → Awaits state (delivery_of command)
report-awaits state (Some command) brings awaited = record { last = tt; awaited = sym awaited }
report-awaits state None brings awaited = absurd (false≢true brings)

pub report-takes : (before after : State) (text : List ℕ) (said : Result Message FieldFault) (now : ℤ) → now ≡ moment_at text
    → GivesCommand (on_frame before said now) after (command_said said before.peer) → after.peer ≡ before.peer → is_some (awaited_of after) ≡ true → said ≡ said_by text
    → taken_by before text ≡ delivered_in (report_actions said after.peer)
report-takes before after text said now at gives same awaited says =
    frame-takes before after text (report_actions said after.peer) now at (given-report before after text said now gives same says)
    (report-awaits after (command_said said after.peer) (report-brings before after said (on_frame before said now) gives same) awaited)

-- and what is said of what it delivers is said of what is taken
handled-one : (state next : State) (desk : DeskState) (text : List ℕ) (actions : List Action) (now : ℤ) (handled : Handled)
    → now ≡ moment_at text → record { state = next; actions = actions } ≡ on_frame state (said_by text) now → Awaits next actions
    → ((met : Met) → IsHandled (became_of met desk (delivered_in actions)) (actions_after next desk now actions (delivered_in actions)) (Some met) handled)
    → IsHandledBy (Some state) desk text handled
handled-one state next desk text actions now handled at is awaits given =
    let gave : record { state = next; actions = actions } ≡ outcome state (frame_call text) = is ∙ ap (on_frame state (said_by text)) at in
    let met = met_of state (said_by text) (moment_at text) in
    let behind = behind_frame state text in
    let all = (outcome state (frame_call text)).actions in
    subst (λ commands. IsHandled (became_of met desk commands) (actions_after behind desk (moment_at text) all commands) (Some met) handled)
    (sym (frame-takes state next text actions now at is awaits))
    (subst (λ (given : Outcome). IsHandled (became_of met desk (delivered_in actions)) (actions_after given.state desk (moment_at text) given.actions (delivered_in actions)) (Some met) handled) gave
    (subst (λ moment. IsHandled (became_of met desk (delivered_in actions)) (actions_after next desk moment actions (delivered_in actions)) (Some met) handled) at (given met)))

pub handled-frame : {E : Type 0} (state next : State) (desk : DeskState) (text : List ℕ) (actions : List Action) (now : ℤ) (result : Result Handled E)
    → now ≡ moment_at text → record { state = next; actions = actions } ≡ on_frame state (said_by text) now → Awaits next actions
    → IfOk result (λ handled. (met : Met) → IsHandled (became_of met desk (delivered_in actions)) (actions_after next desk now actions (delivered_in actions)) (Some met) handled)
    → IfOk result (IsHandledBy (Some state) desk text)
handled-frame state next desk text actions now (Ok handled) at is awaits given = handled-one state next desk text actions now handled at is awaits given
handled-frame state next desk text actions now (Err fault) at is awaits given = tt

pub handled-report : {E : Type 0} (before after : State) (desk : DeskState) (text : List ℕ) (said : Result Message FieldFault) (now : ℤ) (result : Result Handled E)
    → now ≡ moment_at text → GivesCommand (on_frame before said now) after (command_said said before.peer) → after.peer ≡ before.peer → is_some (awaited_of after) ≡ true
    → said ≡ said_by text
    → IfOk result (λ handled. (met : Met) → IsHandled (became_of met desk (delivered_in (report_actions said after.peer)))
    (actions_after after desk now (report_actions said after.peer) (delivered_in (report_actions said after.peer))) (Some met) handled)
    → IfOk result (IsHandledBy (Some before) desk text)
handled-report before after desk text said now result at gives same awaited says given =
    handled-frame before after desk text (report_actions said after.peer) now result at (given-report before after text said now gives same says)
    (report-awaits after (command_said said after.peer) (report-brings before after said (on_frame before said now) gives same) awaited) given

-- where no reply is awaited, nothing is delivered
pub delivers-none : (state : State) (actions : List Action) → Awaits state actions → is_some (awaited_of state) ≡ false → delivered_in actions ≡ []
delivers-none state actions awaits none = ap (map (λ numbered. numbered.command)) (delivered-none 0 actions (awaits.awaited ∙ none))

-- a frame brings one command at most
pub one-taken : (state : State) (text : List ℕ) → AtMostOne (taken_by state text)
one-taken state text =
    subst (λ (taken : List Numbered). AtMostOne (map (λ numbered. numbered.command) taken)) (sym (calls-take state text))
    (one-chosen (is_some (awaited_of (behind_frame state text))) (delivered_by state.expected (outcome state (frame_call text)).actions)
    (one-frame state.expected state (said_by text) (moment_at text)))
  where
    one-chosen : (awaiting : Bool) (taken : List Numbered) → AtMostOne taken → AtMostOne (map (λ numbered. numbered.command) (if awaiting then taken else []))
    one-chosen false taken one = tt
    one-chosen true [] one = tt
    one-chosen true (numbered ∷ []) one = tt
    one-chosen true (numbered ∷ next ∷ taken) one = absurd one

-- ---- the moment of a frame

-- a SendingTime that was read is the frame's moment
pub sent-at : (found : Option (List ℕ)) (sending : ℤ) → option_map moment_of found ≡ Some (Ok sending)
    → sending ≡ option_map_or (λ value. result_unwrap_or (moment_of value) (pos 0)) found (pos 0)
sent-at None sending is = absurd cc
sent-at (Some value) sending is = let read : moment_of value ≡ Ok sending = cc in sym (ap (λ (time : Result ℤ TimeFault). result_unwrap_or time (pos 0)) read)
