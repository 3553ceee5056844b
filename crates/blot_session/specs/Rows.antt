-- The table of a session: what it does about a frame, a moment that passes, the end of the day and a reply, a word for each row or
-- choice between rows (FIX 4.4 volume 2, "Session protocol"; docs/SESSION.md has the rows that are this project's rule).
use Rattle.std.specs.Prelude.{ℕ, ◌+◌, ◌*◌, ◌/◌, Bool, true, false, ◌&&◌, ◌==◌, nat_lt, nat_le, int_le, ℤ, pos, ◌+ℤ◌, List, codes, Option, Some, None, Result, Ok, Err, if◌then◌else◌}
use Rattle.blot_types.specs.Keys.{same_text}
use Rattle.blot_fields.specs.declared.{admin.Admin.Admin, allocation.Allocation.Allocation, fault.FieldFault.FieldFault, head.Head.Head, message.Body.Body, message.Message.Message, report.Report.Report}
use Rattle.blot_fields.specs.declared.admin.Admin.TheVariants as admin
use Rattle.blot_fields.specs.declared.allocation.Allocation.TheVariants as allocations
use Rattle.blot_fields.specs.declared.message.Body.TheVariants as bodies
use Rattle.blot_fields.specs.declared.report.Report.TheVariants as reports
use Rattle.blot_fields.specs.FaultText.{reason_number}
use Rattle.blot_fields.specs.Numbers.{head_in}
use Rattle.blot_session.specs.declared.action.CloseReason.TheVariants as reasons
use Rattle.blot_session.specs.declared.outbound.Outbound.TheVariants.{Logon, Heartbeat, TestRequest, ResendRequest, Reject, GapFill, Logout, Unsupported, AllocationAck}
use Rattle.blot_session.specs.declared.{replies.NotTaken.NotTaken, replies.SeenReply.SeenReply, row.Row.Row, state.Awaited.Awaited, state.Live.Live, state.LinkState.LinkState, state.State.State}
use Rattle.blot_session.specs.declared.state.Awaited.TheVariants as awaits
use Rattle.blot_session.specs.declared.state.LinkState.TheVariants as links
use Rattle.blot_session.specs.States.{restarted, expecting, counted, counted_under, is_leaving, leaving, opened, heard, asking, answered}
use Rattle.blot_session.specs.Table.{silent, sends, sends_both, delivers, closing}

-- ---- a Logon that is taken

-- the answer to a Logon, and what is asked for again where its number is above the expected one
unfoldable pub logon_row : State → ℕ → ℕ → Bool → ℤ → Row
logon_row state number heartbeat reset now =
    if state.expected == number then sends (Logon heartbeat reset) (counted (opened heartbeat now state))
    else sends_both (Logon heartbeat reset) (ResendRequest state.expected) (opened heartbeat now state)

-- ---- phase Waiting

-- a number below the expected one
unfoldable pub low_logon_row : State → Bool → Row
low_logon_row state dup =
    if dup then closing reasons.NoLogon (silent state)
    else closing reasons.TooLow (sends Logout state)

-- a Logon, once a reset is done
unfoldable pub first_logon_row : State → Head → ℕ → Bool → ℤ → Row
first_logon_row state head heartbeat reset now =
    if nat_lt head.number state.expected then low_logon_row state head.dup
    else logon_row state head.number heartbeat reset now

-- both numbers start again where a Logon says so
abbrev pub reset_by : Bool → State → State
reset_by reset state = if reset then restarted state else state

-- whether a message names the session's peer as its sender
abbrev pub is_sender : State → Head → Bool
is_sender state head = same_text head.sender state.peer

-- and own CompID as its target
abbrev pub is_from_peer : State → Head → Bool
is_from_peer state head = is_sender state head && same_text head.target state.own

-- a Logon from whomever
unfoldable pub waiting_logon_row : State → Head → ℕ → Bool → ℤ → Row
waiting_logon_row state head heartbeat reset now =
    if is_from_peer state head then first_logon_row (reset_by reset state) head heartbeat reset now
    else closing reasons.CompId (silent state)

-- only a Logon without a fault opens a session
abbrev pub waiting_body_row : State → Head → Body → ℤ → Row
waiting_body_row state head (bodies.Admin (admin.Logon heartbeat reset)) now = waiting_logon_row state head heartbeat reset now
waiting_body_row state head body now = closing reasons.NoLogon (silent state)

unfoldable pub waiting_row : State → Result Message FieldFault → ℤ → Row
waiting_row state (Ok message) now = waiting_body_row state message.head message.body now
waiting_row state (Err fault) now = closing reasons.NoLogon (silent state)

-- ---- phase On: the message with the expected number

-- what is asked of the numbers from one on: they are covered by one gap fill, if any was sent
unfoldable pub resend_row : State → ℕ → ℕ → Row
resend_row state number begin =
    if nat_lt begin state.next then sends (GapFill begin) (counted state)
    else sends (Reject number 7 5) (counted state)

-- a gap fill names a number above the expected one
unfoldable pub gap_fill_row : State → ℕ → ℕ → Row
gap_fill_row state number new_number =
    if nat_le new_number state.expected then sends (Reject number 36 5) state
    else silent (expecting new_number state)

-- a message of the session layer
unfoldable pub admin_row : State → ℕ → Admin → Row
admin_row state number (admin.Logon heartbeat reset) = silent (counted state)
admin_row state number admin.Heartbeat = silent (counted state)
admin_row state number admin.Reject = silent (counted state)
admin_row state number (admin.TestRequest id) = sends (Heartbeat (Some id)) (counted state)
admin_row state number (admin.ResendRequest begin end) = resend_row state number begin
admin_row state number (admin.SequenceReset new_number gap_fill) = gap_fill_row state number new_number
admin_row state number admin.Logout = closing reasons.LoggedOut (sends Logout (counted state))

-- an Execution Report: one that isn't about a fill leaves the book alone
unfoldable pub report_row : State → Report → Row
report_row state reports.Other = silent (counted state)
report_row state report = delivers awaits.Report state

-- AllocID
abbrev pub alloc_id_of : Allocation → List ℕ
alloc_id_of (allocations.New id terms) = id
alloc_id_of (allocations.Replace id reference terms) = id
alloc_id_of (allocations.Cancel id reference) = id

-- a message of a type that the blotter doesn't know; a Business Message Reject isn't answered
unfoldable pub other_row : State → ℕ → List ℕ → Row
other_row state number kind =
    if same_text kind (codes "j") then silent (counted state)
    else sends (Unsupported number kind) (counted state)

-- a message without a fault
unfoldable pub body_row : State → Head → Body → Row
body_row state head (bodies.Admin message) = admin_row state head.number message
body_row state head (bodies.Report report) = report_row state report
body_row state head (bodies.Allocation allocation) = delivers (awaits.Allocation (alloc_id_of allocation)) state
body_row state head bodies.Other = other_row state head.number head.kind

-- the expected message
unfoldable pub expected_row : State → Head → Result Message FieldFault → Row
expected_row state head (Ok message) = body_row state head message.body
expected_row state head (Err fault) = sends (Reject head.number fault.tag (reason_number fault.reason)) (counted state)

-- ---- phase On: a number above the expected one, and one below it

-- what was lost is asked for again. A ResendRequest is answered at once, and so is a Logout
unfoldable pub high_body_row : State → Body → Row
high_body_row state (bodies.Admin (admin.ResendRequest begin end)) =
    (if nat_lt begin state.next then sends_both (GapFill begin) (ResendRequest state.expected) state
    else sends (ResendRequest state.expected) state)
high_body_row state (bodies.Admin admin.Logout) = sends_both (ResendRequest state.expected) Logout state
high_body_row state body = sends (ResendRequest state.expected) state

unfoldable pub high_row : State → Result Message FieldFault → Row
high_row state (Ok message) = high_body_row state message.body
high_row state (Err fault) = sends (ResendRequest state.expected) state

-- a message that came before is ignored, where it says that it may be one
unfoldable pub low_row : State → Bool → Row
low_row state dup =
    if dup then silent state
    else closing reasons.TooLow (sends Logout state)

-- by the number
unfoldable pub number_row : State → Head → Result Message FieldFault → Row
number_row state head said =
    if nat_lt head.number state.expected then low_row state head.dup
    else (if nat_lt state.expected head.number then high_row state said
    else expected_row state head said)

-- ---- phase On: what is looked at before the number

-- a Sequence Reset that isn't a gap fill sets the expected number, and never to a lower one
unfoldable pub reset_row : State → ℕ → ℕ → Row
reset_row state number new_number =
    if nat_lt new_number state.expected then sends (Reject number 36 5) state
    else silent (expecting new_number state)

-- a Logout, under whatever number, is a leaving session's answer: the connection ends, and nothing more is sent. Any other session
-- goes by the number
unfoldable pub logout_row : State → Head → Result Message FieldFault → Row
logout_row state head said =
    if is_leaving state then closing reasons.LoggedOut (silent (counted_under head.number state))
    else number_row state head said

-- a Logon that resets the numbers, a Sequence Reset and a Logout are looked at before their numbers
unfoldable pub message_row : State → Head → Body → Result Message FieldFault → ℤ → Row
message_row state head (bodies.Admin (admin.Logon heartbeat true)) said now =
    logon_row (restarted state) head.number heartbeat true now
message_row state head (bodies.Admin (admin.SequenceReset new_number false)) said now =
    reset_row state head.number new_number
message_row state head (bodies.Admin admin.Logout) said now = logout_row state head said
message_row state head body said now = number_row state head said

unfoldable pub peer_row : State → Head → Result Message FieldFault → ℤ → Row
peer_row state head (Ok message) now = message_row state head message.body (Ok message) now
peer_row state head (Err fault) now = number_row state head (Err fault)

-- the tag at fault where a message names another CompID: the sender's first
abbrev pub comp_id_tag : State → Head → ℕ
comp_id_tag state head = if is_sender state head then 56 else 49

-- a message of another sender, or to another target
unfoldable pub comp_id_row : State → Head → Row
comp_id_row state head =
    closing reasons.CompId (sends_both (Reject head.number (comp_id_tag state head) 9) Logout (counted_under head.number state))

-- a message with this header
unfoldable pub head_row : State → Head → Result Message FieldFault → ℤ → Row
head_row state head said now =
    if is_from_peer state head then peer_row state head said now
    else comp_id_row state head

-- a frame whose header can be read, or can't
abbrev pub on_row_by : State → Option Head → Result Message FieldFault → ℤ → Row
on_row_by state (Some head) said now = head_row state head said now
on_row_by state None said now = closing reasons.BadHeader (sends Logout state)

unfoldable pub on_row : State → Result Message FieldFault → ℤ → Row
on_row state said now = on_row_by state (head_in said) said now

-- ---- a frame, by phase

-- what a session does about a frame: a closed one does nothing
abbrev pub frame_row_by : State → LinkState → Result Message FieldFault → ℤ → Row
frame_row_by state links.Waiting said now = waiting_row state said now
frame_row_by state (links.On live) said now = on_row (heard now state) said now
frame_row_by state links.Closed said now = silent state

abbrev pub frame_row : State → Result Message FieldFault → ℤ → Row
frame_row state said now = frame_row_by state state.link said now

-- ---- time

-- whether so many seconds have passed
abbrev pub passed : ℤ → ℕ → ℤ → Bool
passed since seconds now = int_le (since +ℤ pos (seconds * 1000)) now

-- how long a peer may be silent, in seconds: HeartBtInt and a fifth of it
abbrev pub patience : ℕ → ℕ
patience heartbeat = heartbeat + heartbeat / 5

-- a heartbeat is due
unfoldable pub heartbeat_row : State → Live → ℤ → Row
heartbeat_row state live now =
    if passed live.sent live.heartbeat now then sends (Heartbeat None) state
    else silent state

-- a TestRequest is out
unfoldable pub asked_row : State → Live → ℤ → ℤ → Row
asked_row state live asked now =
    if passed asked (patience live.heartbeat) now then closing reasons.Silent (silent state)
    else heartbeat_row state live now

-- no TestRequest is out
unfoldable pub quiet_row : State → Live → ℤ → Row
quiet_row state live now =
    if passed live.received (patience live.heartbeat) now then sends TestRequest (asking now state)
    else heartbeat_row state live now

-- what is due to the peer as time passes, by whether a TestRequest is out
abbrev pub beat_row_by : State → Live → Option ℤ → ℤ → Row
beat_row_by state live (Some asked) now = asked_row state live asked now
beat_row_by state live None now = quiet_row state live now

-- nothing, where no heartbeats were agreed on
unfoldable pub beat_row : State → Live → ℤ → Row
beat_row state live now =
    if live.heartbeat == 0 then silent state
    else beat_row_by state live live.asked now

-- what a session does as time passes: only one that is on does anything
abbrev pub tick_row_by : State → LinkState → ℤ → Row
tick_row_by state (links.On live) now = beat_row state live now
tick_row_by state link now = silent state

unfoldable pub tick_row : State → ℤ → Row
tick_row state now = tick_row_by state state.link now

-- ---- the end of the day

-- a session that is on says goodbye, once: then it is leaving
abbrev pub stop_row_by : State → LinkState → Row
stop_row_by state (links.On live) =
    if live.leaving then silent state
    else sends Logout (leaving state)
stop_row_by state link = silent state

unfoldable pub stop_row : State → Row
stop_row state = stop_row_by state state.link

-- ---- replies

-- an Allocation Instruction is answered, an Execution Report isn't
abbrev pub taken_row : State → Awaited → SeenReply → Row
taken_row state awaits.Report reply = silent state
taken_row state (awaits.Allocation id) reply = sends (AllocationAck id reply) state

-- a command that wasn't taken leaves its number expected
unfoldable pub reply_row : State → Awaited → Result SeenReply NotTaken → Row
reply_row state awaited (Ok reply) = taken_row (counted (answered state)) awaited reply
reply_row state awaited (Err fault) = closing reasons.NotTaken (sends Logout (answered state))
