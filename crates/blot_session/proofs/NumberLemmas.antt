-- What becomes of a message says the truth about its number, row by row of the table.
use Rattle.std.proofs.Common.{◌≡◌, ℕ, ◌<◌, ◌==◌, Bool, true, false, List, Option, Some, None, Result, Ok, Err, refl, sym, subst, arith, inl, inr, nat_lt, nat_le, codes, ℤ, not, ◌&&◌, MatchOption, ltb-false, ltb-true}
use Rattle.std.specs.Option.{option_map_or}
use Rattle.std.proofs.lemmas.Bool.{and_parts, cond_both, eqb-false}
use Rattle.std.proofs.lemmas.Option.{same_Some}
use Rattle.blot_types.specs.Keys.{same_text}
use Rattle.blot_fields.specs.declared.{admin.Admin.Admin, fault.FieldFault.FieldFault, head.Head.Head, message.Body.Body, message.Message.Message, report.Report.Report}
use Rattle.blot_fields.specs.declared.admin.Admin.TheVariants as admin
use Rattle.blot_fields.specs.declared.message.Body.TheVariants as bodies
use Rattle.blot_fields.specs.declared.report.Report.TheVariants as reports
use Rattle.blot_fields.specs.Numbers.{head_in}
use Rattle.blot_session.specs.declared.{met.Met.Met, row.Row.Row, state.LinkState.LinkState, state.State.State}
use Rattle.blot_session.specs.declared.met.Met.TheVariants as met
use Rattle.blot_session.specs.declared.state.LinkState.TheVariants as links
use Rattle.blot_session.specs.Calls.{is_spent}
use Rattle.blot_session.specs.Met.{IsAbove, IsOfNumber, is_before_number, is_late, met_by_end, met_of, passed_by}
use Rattle.blot_session.specs.Rows.{logon_row, low_logon_row, first_logon_row, waiting_logon_row, waiting_body_row, waiting_row, is_from_peer, resend_row, gap_fill_row, admin_row, report_row, other_row, body_row, expected_row, high_body_row, high_row, low_row, number_row, reset_row, logout_row, message_row, peer_row, comp_id_row, head_row, on_row_by, on_row, frame_row_by, frame_row}
use Rattle.blot_session.specs.States.{heard, is_leaving, restarted}
use Rattle.blot_session.proofs.RowLemmas.{message}

-- what a row makes of a message is true of its number, if what becomes of one that isn't answered is
abbrev Tells : State → Result Message FieldFault → Row → Type 0
Tells s said row = (silent : Met) → IsOfNumber s said silent → IsOfNumber s said (met_by_end silent row.sends row.end)

-- ---- a Logon

logon-tells : (s : State) (said : Result Message FieldFault) (state : State) (number heartbeat : ℕ) (reset : Bool) (now : ℤ)
    → ((state.expected == number) ≡ false → IsOfNumber s said (met.Early state.expected)) → Tells s said (logon_row state number heartbeat reset now)
unfolding logon_row
logon-tells s said state number heartbeat reset now early =
    cond_both (state.expected == number) _ _ (λ row. Tells s said row) (λ y. λ silent is. tt) (λ n. λ silent is. early n)

low_logon-tells : (s : State) (said : Result Message FieldFault) (state : State) (dup : Bool) → Tells s said (low_logon_row state dup)
unfolding low_logon_row
low_logon-tells s said state dup = cond_both dup _ _ (λ row. Tells s said row) (λ y. λ silent is. tt) (λ n. λ silent is. tt)

first_logon-tells : (s : State) (said : Result Message FieldFault) (state : State) (head : Head) (heartbeat : ℕ) (reset : Bool) (now : ℤ)
    → (nat_lt head.number state.expected ≡ false → (state.expected == head.number) ≡ false → IsOfNumber s said (met.Early state.expected))
    → Tells s said (first_logon_row state head heartbeat reset now)
unfolding first_logon_row
first_logon-tells s said state head heartbeat reset now early =
    cond_both (nat_lt head.number state.expected) _ _ (λ row. Tells s said row)
    (λ y. low_logon-tells s said state head.dup)
    (λ n. logon-tells s said state head.number heartbeat reset now (early n))

above : (expected number : ℕ) → nat_lt number expected ≡ false → (expected == number) ≡ false → expected < number
above expected number low other =
    let least = ltb-false number expected low in
    let differs = eqb-false expected number other in
    omega (arith, least, differs)

waiting_logon-tells : (s : State) (head : Head) (heartbeat : ℕ) (reset : Bool) (now : ℤ)
    → Tells s (message head (bodies.Admin (admin.Logon heartbeat reset))) (waiting_logon_row s head heartbeat reset now)
unfolding waiting_logon_row
waiting_logon-tells s head heartbeat true now =
    let said = message head (bodies.Admin (admin.Logon heartbeat true)) in
    cond_both (is_from_peer s head) _ _ (λ row. Tells s said row)
    (λ y. first_logon-tells s said (restarted s) head heartbeat true now (λ low other. inr (refl, refl, λ is. eqb-false 1 head.number other (sym is))))
    (λ n. λ silent is. tt)
waiting_logon-tells s head heartbeat false now =
    let said = message head (bodies.Admin (admin.Logon heartbeat false)) in
    cond_both (is_from_peer s head) _ _ (λ row. Tells s said row)
    (λ y. first_logon-tells s said s head heartbeat false now (λ low other. inl (refl, above s.expected head.number low other)))
    (λ n. λ silent is. tt)

waiting_body-tells : (s : State) (head : Head) (body : Body) (now : ℤ) → Tells s (message head body) (waiting_body_row s head body now)
waiting_body-tells s head (bodies.Admin (admin.Logon heartbeat reset)) now = waiting_logon-tells s head heartbeat reset now
waiting_body-tells s head (bodies.Admin admin.Heartbeat) now = λ silent is. tt
waiting_body-tells s head (bodies.Admin admin.Reject) now = λ silent is. tt
waiting_body-tells s head (bodies.Admin (admin.TestRequest id)) now = λ silent is. tt
waiting_body-tells s head (bodies.Admin (admin.ResendRequest begin end)) now = λ silent is. tt
waiting_body-tells s head (bodies.Admin (admin.SequenceReset new_number gap_fill)) now = λ silent is. tt
waiting_body-tells s head (bodies.Admin admin.Logout) now = λ silent is. tt
waiting_body-tells s head (bodies.Report report) now = λ silent is. tt
waiting_body-tells s head (bodies.Allocation allocation) now = λ silent is. tt
waiting_body-tells s head bodies.Other now = λ silent is. tt

waiting-tells : (s : State) (said : Result Message FieldFault) (now : ℤ) → Tells s said (waiting_row s said now)
unfolding waiting_row
waiting-tells s (Ok m) now = waiting_body-tells s m.head m.body now
waiting-tells s (Err fault) now = λ silent is. tt

-- ---- the expected message

resend-tells : (s : State) (said : Result Message FieldFault) (state : State) (number begin : ℕ) → Tells s said (resend_row state number begin)
unfolding resend_row
resend-tells s said state number begin = cond_both (nat_lt begin state.next) _ _ (λ row. Tells s said row) (λ y. λ silent is. tt) (λ n. λ silent is. tt)

gap_fill-tells : (s : State) (said : Result Message FieldFault) (state : State) (number new_number : ℕ) → Tells s said (gap_fill_row state number new_number)
unfolding gap_fill_row
gap_fill-tells s said state number new_number =
    cond_both (nat_le new_number state.expected) _ _ (λ row. Tells s said row) (λ y. λ silent is. tt) (λ n. λ silent is. is)

admin-tells : (s : State) (said : Result Message FieldFault) (state : State) (number : ℕ) (a : Admin) → Tells s said (admin_row state number a)
unfolding admin_row
admin-tells s said state number (admin.Logon heartbeat reset) = λ silent is. is
admin-tells s said state number admin.Heartbeat = λ silent is. is
admin-tells s said state number admin.Reject = λ silent is. is
admin-tells s said state number (admin.TestRequest id) = λ silent is. tt
admin-tells s said state number (admin.ResendRequest begin end) = resend-tells s said state number begin
admin-tells s said state number (admin.SequenceReset new_number gap_fill) = gap_fill-tells s said state number new_number
admin-tells s said state number admin.Logout = λ silent is. tt

report-tells : (s : State) (said : Result Message FieldFault) (state : State) (report : Report) → Tells s said (report_row state report)
unfolding report_row
report-tells s said state (reports.Trade execution) = λ silent is. tt
report-tells s said state (reports.Correct reference execution) = λ silent is. tt
report-tells s said state (reports.Bust id reference) = λ silent is. tt
report-tells s said state reports.Other = λ silent is. is

other-tells : (s : State) (said : Result Message FieldFault) (state : State) (number : ℕ) (kind : List ℕ) → Tells s said (other_row state number kind)
unfolding other_row
other-tells s said state number kind = cond_both (same_text kind (codes "j")) _ _ (λ row. Tells s said row) (λ y. λ silent is. is) (λ n. λ silent is. tt)

body-tells : (s : State) (said : Result Message FieldFault) (state : State) (head : Head) (body : Body) → Tells s said (body_row state head body)
unfolding body_row
body-tells s said state head (bodies.Admin a) = admin-tells s said state head.number a
body-tells s said state head (bodies.Report report) = report-tells s said state report
body-tells s said state head (bodies.Allocation allocation) = λ silent is. tt
body-tells s said state head bodies.Other = other-tells s said state head.number head.kind

expected-tells : (s state : State) (head : Head) (said : Result Message FieldFault) → Tells s said (expected_row state head said)
unfolding expected_row
expected-tells s state head (Ok m) = body-tells s (Ok m) state head m.body
expected-tells s state head (Err fault) = λ silent is. tt

-- ---- another number

high_body-tells : (s : State) (said : Result Message FieldFault) (state : State) (body : Body) → IsOfNumber s said (met.Early state.expected)
    → Tells s said (high_body_row state body)
unfolding high_body_row
high_body-tells s said state (bodies.Admin (admin.Logon heartbeat reset)) early = λ silent is. early
high_body-tells s said state (bodies.Admin admin.Heartbeat) early = λ silent is. early
high_body-tells s said state (bodies.Admin admin.Reject) early = λ silent is. early
high_body-tells s said state (bodies.Admin (admin.TestRequest id)) early = λ silent is. early
high_body-tells s said state (bodies.Admin (admin.ResendRequest begin end)) early =
    cond_both (nat_lt begin state.next) _ _ (λ row. Tells s said row) (λ y. λ silent is. early) (λ n. λ silent is. early)
high_body-tells s said state (bodies.Admin (admin.SequenceReset new_number gap_fill)) early = λ silent is. early
high_body-tells s said state (bodies.Admin admin.Logout) early = λ silent is. early
high_body-tells s said state (bodies.Report report) early = λ silent is. early
high_body-tells s said state (bodies.Allocation allocation) early = λ silent is. early
high_body-tells s said state bodies.Other early = λ silent is. early

high-tells : (s state : State) (said : Result Message FieldFault) → IsOfNumber s said (met.Early state.expected) → Tells s said (high_row state said)
unfolding high_row
high-tells s state (Ok m) early = high_body-tells s (Ok m) state m.body early
high-tells s state (Err fault) early = λ silent is. early

low-tells : (s : State) (said : Result Message FieldFault) (state : State) (dup : Bool) → Tells s said (low_row state dup)
unfolding low_row
low-tells s said state dup = cond_both dup _ _ (λ row. Tells s said row) (λ y. λ silent is. is) (λ n. λ silent is. tt)

number-tells : (s state : State) (head : Head) (said : Result Message FieldFault) → head_in said ≡ Some head → state.expected ≡ s.expected
    → Tells s said (number_row state head said)
unfolding number_row
number-tells s state head said is same =
    cond_both (nat_lt head.number state.expected) _ _ (λ row. Tells s said row)
    (λ y. low-tells s said state head.dup)
    (λ n. cond_both (nat_lt state.expected head.number) _ _ (λ row. Tells s said row)
    (λ high. high-tells s state said
    (subst (λ found. MatchOption found ⊥ (λ (head : Head). IsAbove s said state.expected head.number)) (sym is) (inl (same, ltb-true state.expected head.number high))))
    (λ here. expected-tells s state head said))

-- ---- what is looked at before the number

reset-tells : (s : State) (said : Result Message FieldFault) (state : State) (number new_number : ℕ) → Tells s said (reset_row state number new_number)
unfolding reset_row
reset-tells s said state number new_number =
    cond_both (nat_lt new_number state.expected) _ _ (λ row. Tells s said row) (λ y. λ silent is. tt) (λ n. λ silent is. is)

logout-tells : (s state : State) (head : Head) (said : Result Message FieldFault) → head_in said ≡ Some head → state.expected ≡ s.expected
    → Tells s said (logout_row state head said)
unfolding logout_row
logout-tells s state head said is same =
    cond_both (is_leaving state) _ _ (λ row. Tells s said row) (λ y. λ silent holds. tt) (λ n. number-tells s state head said is same)

message-tells : (s state : State) (head : Head) (body : Body) (now : ℤ) → state.expected ≡ s.expected
    → Tells s (message head body) (message_row state head body (message head body) now)
unfolding message_row
message-tells s state head (bodies.Admin (admin.Logon heartbeat true)) now same =
    logon-tells s (message head (bodies.Admin (admin.Logon heartbeat true))) (restarted state) head.number heartbeat true now
    (λ other. inr (refl, refl, λ is. eqb-false 1 head.number other (sym is)))
message-tells s state head (bodies.Admin (admin.Logon heartbeat false)) now same = number-tells s state head (message head (bodies.Admin (admin.Logon heartbeat false))) refl same
message-tells s state head (bodies.Admin admin.Heartbeat) now same = number-tells s state head (message head (bodies.Admin admin.Heartbeat)) refl same
message-tells s state head (bodies.Admin admin.Reject) now same = number-tells s state head (message head (bodies.Admin admin.Reject)) refl same
message-tells s state head (bodies.Admin (admin.TestRequest id)) now same = number-tells s state head (message head (bodies.Admin (admin.TestRequest id))) refl same
message-tells s state head (bodies.Admin (admin.ResendRequest begin end)) now same =
    number-tells s state head (message head (bodies.Admin (admin.ResendRequest begin end))) refl same
message-tells s state head (bodies.Admin (admin.SequenceReset new_number true)) now same =
    number-tells s state head (message head (bodies.Admin (admin.SequenceReset new_number true))) refl same
message-tells s state head (bodies.Admin (admin.SequenceReset new_number false)) now same =
    reset-tells s (message head (bodies.Admin (admin.SequenceReset new_number false))) state head.number new_number
message-tells s state head (bodies.Admin admin.Logout) now same = logout-tells s state head (message head (bodies.Admin admin.Logout)) refl same
message-tells s state head (bodies.Report report) now same = number-tells s state head (message head (bodies.Report report)) refl same
message-tells s state head (bodies.Allocation allocation) now same = number-tells s state head (message head (bodies.Allocation allocation)) refl same
message-tells s state head bodies.Other now same = number-tells s state head (message head bodies.Other) refl same

peer-tells : (s state : State) (head : Head) (said : Result Message FieldFault) (now : ℤ) → head_in said ≡ Some head → state.expected ≡ s.expected
    → Tells s said (peer_row state head said now)
unfolding peer_row
peer-tells s state head (Ok m) now is same =
    subst (λ h. Tells s (Ok m) (message_row state h m.body (Ok m) now)) (same_Some m.head head is) (message-tells s state m.head m.body now same)
peer-tells s state head (Err fault) now is same = number-tells s state head (Err fault) is same

head-tells : (s state : State) (head : Head) (said : Result Message FieldFault) (now : ℤ) → head_in said ≡ Some head → state.expected ≡ s.expected
    → Tells s said (head_row state head said now)
unfolding head_row comp_id_row
head-tells s state head said now is same =
    cond_both (is_from_peer state head) _ _ (λ row. Tells s said row) (λ y. peer-tells s state head said now is same) (λ n. λ silent is. tt)

on_by-tells : (s state : State) (found : Option Head) (said : Result Message FieldFault) (now : ℤ) → head_in said ≡ found → state.expected ≡ s.expected
    → Tells s said (on_row_by state found said now)
on_by-tells s state (Some head) said now is same = head-tells s state head said now is same
on_by-tells s state None said now is same = λ silent is. tt

on-tells : (s state : State) (said : Result Message FieldFault) (now : ℤ) → state.expected ≡ s.expected → Tells s said (on_row state said now)
unfolding on_row
on-tells s state said now same = on_by-tells s state (head_in said) said now refl same

-- ---- a frame

frame-tells : (s : State) (link : LinkState) (said : Result Message FieldFault) (now : ℤ) → Tells s said (frame_row_by s link said now)
frame-tells s links.Waiting said now = waiting-tells s said now
frame-tells s (links.On live) said now = on-tells s (heard now s) said now refl
frame-tells s links.Closed said now = λ silent is. is

-- one that isn't answered is late, or taken
late : (s : State) (said : Result Message FieldFault) (found : Option Head) → head_in said ≡ found
    → option_map_or (λ head. nat_lt head.number s.expected) found false && not (is_before_number said) ≡ true
    → MatchOption found ⊥ (λ (head : Head). head.number < s.expected)
late s said None is holds = absurd cc
late s said (Some head) is holds = ltb-true head.number s.expected (and_parts (nat_lt head.number s.expected) (not (is_before_number said)) holds).0

passed-tells : (s : State) (said : Result Message FieldFault) → IsOfNumber s said (passed_by s said)
passed-tells s said =
    cond_both (is_late s said) _ _ (λ end. IsOfNumber s said end)
    (λ y. (refl, late s said (head_in said) refl y))
    (λ n. tt)

pub of_number : (s : State) (said : Result Message FieldFault) (now : ℤ) → IsOfNumber s said (met_of s said now)
of_number s said now =
    cond_both (is_spent s (frame_row s said now)) _ _ (λ end. IsOfNumber s said end)
    (λ y. tt)
    (λ n. frame-tells s s.link said now (passed_by s said) (passed-tells s said))
