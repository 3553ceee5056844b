-- Execution Reports about fills in their turn, and the replies to them. The table says what is done about them, too: these
-- words only tell them from all else.
use Rattle.std.specs.Prelude.{◌==◌, Bool, true, false, ◌&&◌, nat_le, ℤ, Option, Some, None, Result, Ok, Err}
use Rattle.blot_fields.specs.declared.{fault.FieldFault.FieldFault, message.Body.Body, message.Message.Message}
use Rattle.blot_fields.specs.declared.message.Body.TheVariants as bodies
use Rattle.blot_fields.specs.declared.report.Report.TheVariants as reports
use Rattle.blot_session.specs.declared.{carrying.TheConstants.LAST_NUMBER, replies.NotTaken.NotTaken, replies.SeenReply.SeenReply, state.Awaited.Awaited, state.LinkState.LinkState, state.State.State}
use Rattle.blot_session.specs.declared.state.Awaited.TheVariants as awaits
use Rattle.blot_session.specs.declared.state.LinkState.TheVariants as links
use Rattle.blot_session.specs.Rows.{is_from_peer}
use Rattle.blot_session.specs.States.{awaited_of, changed}

-- whether a message is an Execution Report about a fill
abbrev pub is_about_fill : Body → Bool
is_about_fill (bodies.Report reports.Other) = false
is_about_fill (bodies.Report report) = true
is_about_fill body = false

-- whether a connection is on
abbrev pub is_on : LinkState → Bool
is_on (links.On live) = true
is_on link = false

-- whether a message is such a report, the expected one of the peer, at a session that is on and has numbers to send
abbrev pub is_report_in_turn : State → Message → Bool
is_report_in_turn state message =
    (((is_on state.link && nat_le state.next LAST_NUMBER) && is_about_fill message.body) && (message.head.number == state.expected))
    && is_from_peer state message.head

-- whether a frame says one
abbrev pub is_report_said : State → Result Message FieldFault → Bool
is_report_said state (Ok message) = is_report_in_turn state message
is_report_said state (Err fault) = false

-- a connection on which a frame came, whose command is delivered
abbrev pub delivering : ℤ → LinkState → LinkState
delivering now link =
    changed (λ live. record live { awaited = Some awaits.Report }) (changed (λ live. record live { received = now; asked = None }) link)

-- whether an Execution Report awaits its reply
abbrev pub is_of_report : Option Awaited → Bool
is_of_report (Some awaits.Report) = true
is_of_report awaited = false

-- whether a reply says what became of a command
abbrev pub is_taken : Result SeenReply NotTaken → Bool
is_taken (Ok reply) = true
is_taken (Err fault) = false

-- whether a reply says what became of an Execution Report's command
abbrev pub is_report_taken : State → Result SeenReply NotTaken → Bool
is_report_taken state reply = is_of_report (awaited_of state) && is_taken reply
