-- What is told of a message.
use Rattle.std.proofs.Common.{◌≡◌, ℕ, List, [], ◌∷◌, ◌++◌, length, Option, Some, None, sym, ap, subst, ◌∙◌, flat_map}
use Rattle.blot_tag.specs.Fields.{fields_of}
use Rattle.blot_types.specs.declared.{command.Command.Command, refused.Refused.Refused as Refusal}
use Rattle.blot_types.specs.Legal.{refusal_of}
use Rattle.blot_fields.specs.Numbers.{head_in}
use Rattle.blot_fields.specs.Sender.{sender_of}
use Rattle.blot_session.specs.declared.{action.Action.Action, met.Met.Met, state.State.State}
use Rattle.blot_session.specs.Met.{met_of}
use Rattle.blot_session.specs.Runs.{said_by}
use Rattle.blot_desk.specs.Desk.{DeskBook, DeskState, submit_by}
use Rattle.blot_console.specs.Replies.{IsTold, word_text}
use Rattle.blot_capture.specs.declared.{became.Became.Became, handled.Handled.Handled}
use Rattle.blot_capture.specs.declared.handled.Handled.TheVariants as handled
use Rattle.blot_capture.specs.Capture.{Sessions, moment_at, taken_by}
use Rattle.blot_capture.specs.Handling.{IsHandled, IsHandledBy, Wants, met_in, wanted_of}
use Rattle.blot_capture.specs.Replay.{Taking}
use Rattle.blot_capture.specs.Trace.{actions_in, became_in, became_of, session_for}
use Rattle.blot_trail.specs.Making.{IsTurnOf, TrailLine, line_at, line_for}
use Rattle.blot_trail.specs.TrailText.{IsToldOf, action_text, became_text, head_text, word_of, word_or_dash}

-- what is sent is told, and nothing else that a session wants done
sent-wanted : (actions : List Action) (handled : Handled) → Wants actions handled → flat_map action_text (wanted_of handled) ≡ flat_map action_text actions
sent-wanted actions handled.Passed wants = ap (flat_map action_text) (sym wants)
sent-wanted actions (handled.Met wanted) wants = ap (flat_map action_text) (sym wants)
sent-wanted actions (handled.Replied reply wanted) wants = ap (flat_map action_text) (sym wants.1)

-- the end of a line and those after it, by the lines of what is sent
abbrev tail-by : List ℕ → Became → List ℕ → List ℕ
tail-by text became sent =
    word_text (word_or_dash (sender_of (fields_of text))) ++ head_text (head_in (said_by text)) (fields_of text) ++ 9 ∷ became_text became ++ sent

pub told-turn : (text : List ℕ) (met : Option Met) (handled : Handled) (line : TrailLine) (became : Became) (actions : List Action)
    → IsTurnOf text met handled line → IsHandled became actions met handled
    → line ≡ line_for text became actions
told-turn text met handled line became actions is of =
    is
    ∙ ap (λ became. line_for text became (wanted_of handled)) of.became
    ∙ ap (λ sent. record { tail = tail-by text became sent; word = word_of became; length_of = length text }) (sent-wanted actions handled of.wanted)

-- the book's reply to a command is told without a key
told-reply : (book : DeskBook) (command : Command) (refusal : Option Refusal) → IsTold (submit_by book command refusal).reply
told-reply book command None = tt
told-reply book command (Some refusal) = tt

told-became : (met : Met) (desk : DeskState) (commands : List Command) → IsToldOf (became_of met desk commands)
told-became met desk [] = tt
told-became met desk (command ∷ commands) = told-reply desk.book command (refusal_of desk.book.list command)

told-in : (session : Option State) (desk : DeskState) (text : List ℕ) → IsToldOf (became_in session desk text)
told-in None desk text = tt
told-in (Some state) desk text = told-became (met_of state (said_by text) (moment_at text)) desk (taken_by state text)

pub can-be-told : (session : Option State) (desk : DeskState) (text : List ℕ) (became : Became) → became ≡ became_in session desk text → IsToldOf became
can-be-told session desk text became is = subst IsToldOf (sym is) (told-in session desk text)

-- ---- a frame that was taken

-- what is said of the sessions after `meets` is said of those before it
pub handled-as : (before after : Sessions) (desk : DeskState) (text : List ℕ) (met : Option Met) (handled : Handled)
    → after ≡ before → met ≡ met_in before text
    → IsHandledBy (session_for after text) desk text handled
    → IsHandled (became_in (session_for before text) desk text) (actions_in (session_for before text) desk text) met handled
handled-as before after desk text met handled same is given =
    subst (λ met. IsHandled (became_in (session_for before text) desk text) (actions_in (session_for before text) desk text) met handled) (sym is)
    (subst (λ sessions. IsHandledBy (session_for sessions text) desk text handled) same given)

-- so what is told of it is what is told of its turn
pub told-taken : (taking : Taking) (text : List ℕ) (met : Option Met) (handled : Handled) (line : TrailLine)
    → IsHandled (became_in (session_for taking.sessions text) taking.desk text) (actions_in (session_for taking.sessions text) taking.desk text) met handled
    → IsTurnOf text met handled line → line ≡ line_at taking text
told-taken taking text met handled line of is =
    told-turn text met handled line (became_in (session_for taking.sessions text) taking.desk text) (actions_in (session_for taking.sessions text) taking.desk text) is of
