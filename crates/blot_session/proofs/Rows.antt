-- Worked rows that compute, among them those that no test can reach: the numbers to send are used up.
use Rattle.std.proofs.Common.{◌≡◌, ℕ, true, false, [], ◌∷◌, Some, None, Result, Ok, Err, refl, codes, pos}
use Rattle.blot_fields.specs.declared.{admin.Admin.Admin, fault.FieldFault.FieldFault, head.Head.Head, message.Message.Message}
use Rattle.blot_fields.specs.declared.admin.Admin.TheVariants as admin
use Rattle.blot_fields.specs.declared.fault.FieldReason.TheVariants as faults
use Rattle.blot_fields.specs.declared.message.Body.TheVariants as bodies
use Rattle.blot_session.specs.declared.action.Action.TheVariants.{Close}
use Rattle.blot_session.specs.declared.action.CloseReason.TheVariants as reasons
use Rattle.blot_session.specs.declared.met.Met.TheVariants as met
use Rattle.blot_session.specs.declared.outbound.Outbound.TheVariants.{Heartbeat, TestRequest, ResendRequest, Reject, GapFill, Logout}
use Rattle.blot_session.specs.declared.{state.Live.Live, state.State.State}
use Rattle.blot_session.specs.declared.state.LinkState.TheVariants as links
use Rattle.blot_session.specs.Calls.{Outcome, is_spent, on_frame, on_tick, on_stop, spent}
use Rattle.blot_session.specs.Met.{met_of}
use Rattle.blot_session.specs.Rows.{frame_row, logon_row, on_row, head_row, peer_row, message_row, number_row, high_row, high_body_row, low_row, expected_row, body_row, admin_row, resend_row, gap_fill_row, reset_row, logout_row, waiting_row, waiting_logon_row, first_logon_row, stop_row, tick_row, beat_row, quiet_row, heartbeat_row}
use Rattle.blot_session.specs.Runs.{quiet}
use Rattle.blot_session.specs.States.{expecting, counted, heard, asking, is_leaving, leaving, waiting_again, closed}
use Rattle.blot_session.specs.Table.{silent, sends, closing}

-- a session that is on since moment 0, with a HeartBtInt of 30 seconds
abbrev live : Live
live = record { heartbeat = 30; received = pos 0; sent = pos 0; asked = None; awaited = None; leaving = false }

abbrev session : ℕ → ℕ → State
session expected next = record { own = codes "MO"; peer = codes "BRKA"; expected = expected; next = next; link = links.On live }

-- the header of a message of the peer
abbrev head : ℕ → Head
head number = record { kind = codes "0"; sender = codes "BRKA"; target = codes "MO"; number = number; dup = false; sending = pos 0 }

abbrev message : ℕ → Admin → Result Message FieldFault
message number a = Ok (record { head = head number; body = bodies.Admin a })

-- the session ends, with a Logout that isn't answered
abbrev closed_by_logout : ℕ → Outcome
closed_by_logout expected = record { state = closed (session expected 3); actions = Close reasons.LoggedOut ∷ [] }

-- a lost message is asked for again
gap : frame_row (session 5 2) (message 7 admin.Heartbeat) (pos 1) ≡ sends (ResendRequest 5) (heard (pos 1) (session 5 2))
unfolding on_row head_row peer_row message_row number_row high_row high_body_row
gap = refl

-- a gap fill moves the expected number, under its own number alone
filled : frame_row (session 5 2) (message 5 (admin.SequenceReset 9 true)) (pos 1) ≡ silent (expecting 9 (heard (pos 1) (session 5 2)))
unfolding on_row head_row peer_row message_row number_row expected_row body_row admin_row gap_fill_row
filled = refl

not_filled : frame_row (session 5 2) (message 7 (admin.SequenceReset 9 true)) (pos 1) ≡ sends (ResendRequest 5) (heard (pos 1) (session 5 2))
unfolding on_row head_row peer_row message_row number_row high_row high_body_row
not_filled = refl

-- a Sequence Reset that isn't a gap fill does so under any number
reset : frame_row (session 9 2) (message 1 (admin.SequenceReset 12 false)) (pos 1) ≡ silent (expecting 12 (heard (pos 1) (session 9 2)))
unfolding on_row head_row peer_row message_row reset_row
reset = refl

-- what is asked of the numbers from 1 on is covered by one gap fill
resent : frame_row (session 12 4) (message 12 (admin.ResendRequest 1 0)) (pos 1) ≡ sends (GapFill 1) (counted (heard (pos 1) (session 12 4)))
unfolding on_row head_row peer_row message_row number_row expected_row body_row admin_row resend_row
resent = refl

-- time: 30 seconds, 36 seconds, and 36 more
beat : tick_row (session 2 2) (pos 30_000) ≡ sends (Heartbeat None) (session 2 2)
unfolding tick_row beat_row quiet_row heartbeat_row
beat = refl

no_beat : tick_row (session 2 2) (pos 29_999) ≡ silent (session 2 2)
unfolding tick_row beat_row quiet_row heartbeat_row
no_beat = refl

asked : tick_row (session 2 2) (pos 36_000) ≡ sends TestRequest (asking (pos 36_000) (session 2 2))
unfolding tick_row beat_row quiet_row
asked = refl

-- the end of the day: one Logout, which takes the next number, and the session is leaving
goodbye : stop_row (session 5 2) ≡ sends Logout (leaving (session 5 2))
unfolding stop_row
goodbye = refl

behind_goodbye : (on_stop (session 5 2) (pos 1)).state ≡ record (session 5 3) { link = links.On (record live { sent = pos 1; leaving = true }) }
unfolding stop_row
behind_goodbye = refl

-- a second time nothing is done, nor where no session is on
no_second_goodbye : on_stop (leaving (session 5 3)) (pos 2) ≡ quiet (leaving (session 5 3))
unfolding stop_row
no_second_goodbye = refl

no_goodbye_unless_on : on_stop (waiting_again (session 5 2)) (pos 1) ≡ quiet (waiting_again (session 5 2))
unfolding stop_row
no_goodbye_unless_on = refl

no_goodbye_once_closed : on_stop (closed (session 5 2)) (pos 1) ≡ quiet (closed (session 5 2))
unfolding stop_row
no_goodbye_once_closed = refl

-- a leaving session is closed by a Logout under the expected number, which is counted
left : on_frame (leaving (session 5 3)) (message 5 admin.Logout) (pos 2) ≡ closed_by_logout 6
unfolding on_row head_row peer_row message_row logout_row
left = refl

-- above it: nothing is asked for again
left_above : on_frame (leaving (session 5 3)) (message 9 admin.Logout) (pos 2) ≡ closed_by_logout 5
unfolding on_row head_row peer_row message_row logout_row
left_above = refl

-- and below it, as a duplicate or not
left_below : on_frame (leaving (session 5 3)) (message 3 admin.Logout) (pos 2) ≡ closed_by_logout 5
unfolding on_row head_row peer_row message_row logout_row
left_below = refl

left_below_again : on_frame (leaving (session 5 3)) (Ok (record { head = record (head 3) { dup = true }; body = bodies.Admin admin.Logout })) (pos 2) ≡ closed_by_logout 5
unfolding on_row head_row peer_row message_row logout_row
left_below_again = refl

-- a Logout at fault, or of another sender, goes by the table as before
not_left : frame_row (leaving (session 5 3)) (Err (record { head = Some (head 5); tag = 58; reason = faults.TagRepeated })) (pos 2)
    ≡ sends (Reject 5 58 13) (counted (heard (pos 2) (leaving (session 5 3))))
unfolding on_row head_row peer_row number_row expected_row
not_left = refl

-- and so does all else
still_asks : frame_row (leaving (session 5 3)) (message 7 admin.Heartbeat) (pos 2) ≡ sends (ResendRequest 5) (heard (pos 2) (leaving (session 5 3)))
unfolding on_row head_row peer_row message_row number_row high_row high_body_row
still_asks = refl

-- a Logon that resets the numbers leaves it leaving; on the next connection it isn't
reset_while_leaving : is_leaving (frame_row (leaving (session 5 3)) (message 1 (admin.Logon 10 true)) (pos 2)).state ≡ true
unfolding on_row head_row peer_row message_row logon_row
reset_while_leaving = refl

next_connection : is_leaving (frame_row (waiting_again (leaving (session 5 3))) (message 5 (admin.Logon 30 false)) (pos 2)).state ≡ false
unfolding waiting_row waiting_logon_row first_logon_row logon_row
next_connection = refl

-- a session that isn't leaving answers a Logout
answered : frame_row (session 5 2) (message 5 admin.Logout) (pos 1) ≡ closing reasons.LoggedOut (sends Logout (counted (heard (pos 1) (session 5 2))))
unfolding on_row head_row peer_row message_row logout_row number_row expected_row body_row admin_row
answered = refl

-- the numbers to send are used up: whatever would be done, the connection ends instead, and no number changes
spent_beat : on_tick (session 2 999_999_991) (pos 30_000) ≡ spent (session 2 999_999_991)
unfolding tick_row beat_row quiet_row heartbeat_row
spent_beat = refl

spent_answer : on_frame (session 5 999_999_991) (message 5 (admin.TestRequest (codes "T1"))) (pos 1) ≡ spent (session 5 999_999_991)
unfolding on_row head_row peer_row message_row number_row expected_row body_row admin_row
spent_answer = refl

spent_reset : on_frame (session 5 999_999_991) (message 1 (admin.Logon 30 true)) (pos 1) ≡ spent (session 5 999_999_991)
unfolding on_row head_row peer_row message_row logon_row
spent_reset = refl

spent_goodbye : on_stop (session 5 999_999_991) (pos 1) ≡ spent (session 5 999_999_991)
unfolding stop_row
spent_goodbye = refl

-- what needs no answer goes on
spent_silent : on_frame (session 5 999_999_991) (message 5 admin.Heartbeat) (pos 1) ≡ record { state = counted (heard (pos 1) (session 5 999_999_991)); actions = [] }
unfolding on_row head_row peer_row message_row number_row expected_row body_row admin_row
spent_silent = refl

-- and one number before, an answer is sent
last_answer : is_spent (session 5 999_999_990) (sends Logout (session 5 999_999_990)) ≡ false
last_answer = refl

-- ---- what became of a message, by the row that it meets

met_taken : met_of (session 5 2) (message 5 admin.Heartbeat) (pos 1) ≡ met.Taken
unfolding on_row head_row peer_row message_row number_row expected_row body_row admin_row
met_taken = refl

met_early : met_of (session 5 2) (message 7 admin.Heartbeat) (pos 1) ≡ met.Early 5
unfolding on_row head_row peer_row message_row number_row high_row high_body_row
met_early = refl

-- a number below the expected one closes the session, unless the message is a duplicate
met_low : met_of (session 5 2) (message 3 admin.Heartbeat) (pos 1) ≡ met.Closed reasons.TooLow
unfolding on_row head_row peer_row message_row number_row low_row
met_low = refl

met_late : met_of (session 5 2) (Ok (record { head = record (head 3) { dup = true }; body = bodies.Admin admin.Heartbeat })) (pos 1) ≡ met.Late 5
unfolding on_row head_row peer_row message_row number_row low_row
met_late = refl

met_rejected : met_of (session 9 2) (message 1 (admin.SequenceReset 7 false)) (pos 1) ≡ met.Rejected 36 5
unfolding on_row head_row peer_row message_row reset_row
met_rejected = refl

-- the numbers to send are used up: the connection ends where an answer was due, and only there
met_spent : met_of (session 5 999_999_991) (message 5 (admin.TestRequest (codes "T1"))) (pos 1) ≡ met.Closed reasons.Spent
unfolding on_row head_row peer_row message_row number_row expected_row body_row admin_row
met_spent = refl

met_unspent : met_of (session 5 999_999_991) (message 5 admin.Heartbeat) (pos 1) ≡ met.Taken
unfolding on_row head_row peer_row message_row number_row expected_row body_row admin_row
met_unspent = refl
