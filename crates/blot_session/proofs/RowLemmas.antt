-- How each row of the table moves the numbers, and what it delivers.
use Rattle.std.proofs.Common.{◌≡◌, ◌⊎◌, ℕ, ◌+◌, ◌≤◌, ◌==◌, Bool, true, false, List, Option, Some, None, Result, Ok, Err, refl, sym, ap, subst, ◌∙◌, arith, inl, inr, nat_lt, nat_le, codes, ℤ, is_some, option_map, ltb-false, leb-false, eqb-true}
use Rattle.std.proofs.lemmas.Bool.{cond_both}
use Rattle.std.proofs.lemmas.Option.{same_Some}
use Rattle.blot_types.specs.Keys.{same_text}
use Rattle.blot_fields.specs.declared.{admin.Admin.Admin, fault.FieldFault.FieldFault, head.Head.Head, message.Body.Body, message.Message.Message, report.Report.Report}
use Rattle.blot_fields.specs.declared.admin.Admin.TheVariants as admin
use Rattle.blot_fields.specs.declared.message.Body.TheVariants as bodies
use Rattle.blot_fields.specs.declared.report.Report.TheVariants as reports
use Rattle.blot_fields.specs.Numbers.{head_in}
use Rattle.blot_session.specs.declared.{row.End.End, row.Row.Row, row.Sends.TheVariants.Nothing, state.Live.Live, state.LinkState.LinkState, state.State.State}
use Rattle.blot_session.specs.declared.row.End.TheVariants.{Stays, Delivers, Closes}
use Rattle.blot_session.specs.declared.action.CloseReason.TheVariants as reasons
use Rattle.blot_session.specs.declared.outbound.Outbound.TheVariants.{Reject, Logout}
use Rattle.blot_session.specs.declared.state.LinkState.TheVariants as links
use Rattle.blot_session.specs.Calls.{command_said}
use Rattle.blot_session.specs.Rows.{logon_row, low_logon_row, first_logon_row, waiting_logon_row, waiting_body_row, waiting_row, is_from_peer, resend_row, gap_fill_row, admin_row, report_row, other_row, body_row, expected_row, high_body_row, high_row, low_row, number_row, reset_row, logout_row, message_row, peer_row, comp_id_tag, comp_id_row, head_row, on_row_by, on_row, frame_row_by, frame_row}
use Rattle.blot_session.specs.Runs.{Bears, is_reset_said}
use Rattle.blot_session.specs.States.{restarted, with_live, changed, awaited_by, IsIdle, IsAwaiting}
use Rattle.blot_session.specs.Table.{silent, sends_both, closing}

-- ---- what a row does to the number that is expected

-- a Sequence Reset names this number; a gap fill bears the expected one
abbrev pub NamesBy : ℕ → ℕ → Result Message FieldFault → Body → Type 0
NamesBy number expected said (bodies.Admin (admin.SequenceReset new_number true)) = (number ≡ new_number) × Bears expected said
NamesBy number expected said (bodies.Admin (admin.SequenceReset new_number false)) = number ≡ new_number
NamesBy number expected said body = ⊥

abbrev pub Names : ℕ → ℕ → Result Message FieldFault → Type 0
Names number expected (Ok message) = NamesBy number expected (Ok message) message.body
Names number expected (Err fault) = ⊥

-- the number that is expected stays, or goes up by one after a frame that bears it, or is set to a higher one
abbrev pub NumberSteps : ℕ → Result Message FieldFault → ℕ → Type 0
NumberSteps expected said next =
    (next ≡ expected) ⊎ (((next ≡ expected + 1) × Bears expected said) ⊎ ((expected ≤ next) × Names next expected said))

-- whether a call ends with a delivery
abbrev pub is_delivery : End → Bool
is_delivery Stays = false
is_delivery Delivers = true
is_delivery (Closes reason) = false

-- a row that delivers nothing, where these are its peer, the next number to send and the expected one
pub record GoesOn (peer : List ℕ) (next expected : ℕ) (said : Result Message FieldFault) (row : Row) : Type 0 where
  pub of_peer : row.state.peer ≡ peer
  pub next_same : row.state.next ≡ next
  pub idle : IsIdle row.state
  pub end : is_delivery row.end ≡ false
  pub number : NumberSteps expected said row.state.expected

-- a row that delivers the command of its message
pub record HandsOn (peer : List ℕ) (next expected : ℕ) (said : Result Message FieldFault) (row : Row) : Type 0 where
  pub of_peer : row.state.peer ≡ peer
  pub next_same : row.state.next ≡ next
  pub awaits : IsAwaiting row.state
  pub sends : row.sends ≡ Nothing
  pub end : row.end ≡ Delivers
  pub same : row.state.expected ≡ expected
  pub bears : Bears expected said
  pub command : (peer : List ℕ) → is_some (command_said said peer) ≡ true

abbrev pub Moves : List ℕ → ℕ → ℕ → Result Message FieldFault → Row → Type 0
Moves peer next expected said row = GoesOn peer next expected said row ⊎ HandsOn peer next expected said row

-- what a frame says
abbrev pub message : Head → Body → Result Message FieldFault
message head body = Ok (record { head = head; body = body })

-- ---- the expected message

resend-moves : (s : State) (live : Live) (said : Result Message FieldFault) (number begin : ℕ) → live.awaited ≡ None → Bears s.expected said
    → Moves s.peer s.next s.expected said (resend_row (with_live s live) number begin)
unfolding resend_row
resend-moves s live said number begin idle bears =
    cond_both (nat_lt begin s.next) _ _ (λ row. Moves s.peer s.next s.expected said row)
    (λ y. inl (record { of_peer = refl; next_same = refl; idle = idle; end = refl; number = inr (inl (refl, bears)) }))
    (λ n. inl (record { of_peer = refl; next_same = refl; idle = idle; end = refl; number = inr (inl (refl, bears)) }))

names_gap : (expected : ℕ) (head : Head) (new_number : ℕ) (gap_fill : Bool) → head.number ≡ expected
    → Names new_number expected (message head (bodies.Admin (admin.SequenceReset new_number gap_fill)))
names_gap expected head new_number true bears = (refl, ap Some bears)
names_gap expected head new_number false bears = refl

gap_fill-moves : (s : State) (live : Live) (head : Head) (number new_number : ℕ) (gap_fill : Bool) → live.awaited ≡ None → head.number ≡ s.expected
    → Moves s.peer s.next s.expected (message head (bodies.Admin (admin.SequenceReset new_number gap_fill))) (gap_fill_row (with_live s live) number new_number)
unfolding gap_fill_row
gap_fill-moves s live head number new_number gap_fill idle bears =
    cond_both (nat_le new_number s.expected) _ _ (λ row. Moves s.peer s.next s.expected (message head (bodies.Admin (admin.SequenceReset new_number gap_fill))) row)
    (λ y. inl (record { of_peer = refl; next_same = refl; idle = idle; end = refl; number = inl refl }))
    (λ n. inl (record { of_peer = refl; next_same = refl; idle = idle; end = refl; number = inr (inr (omega (arith, leb-false new_number s.expected n), names_gap s.expected head new_number gap_fill bears)) }))

admin-moves : (s : State) (live : Live) (head : Head) (number : ℕ) (a : Admin) → live.awaited ≡ None → head.number ≡ s.expected
    → Moves s.peer s.next s.expected (message head (bodies.Admin a)) (admin_row (with_live s live) number a)
unfolding admin_row
admin-moves s live head number (admin.Logon heartbeat reset) idle bears = inl (record { of_peer = refl; next_same = refl; idle = idle; end = refl; number = inr (inl (refl, ap Some bears)) })
admin-moves s live head number admin.Heartbeat idle bears = inl (record { of_peer = refl; next_same = refl; idle = idle; end = refl; number = inr (inl (refl, ap Some bears)) })
admin-moves s live head number admin.Reject idle bears = inl (record { of_peer = refl; next_same = refl; idle = idle; end = refl; number = inr (inl (refl, ap Some bears)) })
admin-moves s live head number (admin.TestRequest id) idle bears = inl (record { of_peer = refl; next_same = refl; idle = idle; end = refl; number = inr (inl (refl, ap Some bears)) })
admin-moves s live head number (admin.ResendRequest begin end) idle bears =
    resend-moves s live (message head (bodies.Admin (admin.ResendRequest begin end))) number begin idle (ap Some bears)
admin-moves s live head number (admin.SequenceReset new_number gap_fill) idle bears = gap_fill-moves s live head number new_number gap_fill idle bears
admin-moves s live head number admin.Logout idle bears = inl (record { of_peer = refl; next_same = refl; idle = refl; end = refl; number = inr (inl (refl, ap Some bears)) })

report-moves : (s : State) (live : Live) (head : Head) (report : Report) → live.awaited ≡ None → head.number ≡ s.expected
    → Moves s.peer s.next s.expected (message head (bodies.Report report)) (report_row (with_live s live) report)
unfolding report_row
report-moves s live head (reports.Trade execution) idle bears =
    inr (record { of_peer = refl; next_same = refl; awaits = refl; sends = refl; end = refl; same = refl; bears = ap Some bears; command = λ peer. refl })
report-moves s live head (reports.Correct reference execution) idle bears =
    inr (record { of_peer = refl; next_same = refl; awaits = refl; sends = refl; end = refl; same = refl; bears = ap Some bears; command = λ peer. refl })
report-moves s live head (reports.Bust id reference) idle bears =
    inr (record { of_peer = refl; next_same = refl; awaits = refl; sends = refl; end = refl; same = refl; bears = ap Some bears; command = λ peer. refl })
report-moves s live head reports.Other idle bears = inl (record { of_peer = refl; next_same = refl; idle = idle; end = refl; number = inr (inl (refl, ap Some bears)) })

other-moves : (s : State) (live : Live) (head : Head) (number : ℕ) (kind : List ℕ) → live.awaited ≡ None → head.number ≡ s.expected
    → Moves s.peer s.next s.expected (message head bodies.Other) (other_row (with_live s live) number kind)
unfolding other_row
other-moves s live head number kind idle bears =
    cond_both (same_text kind (codes "j")) _ _ (λ row. Moves s.peer s.next s.expected (message head bodies.Other) row)
    (λ y. inl (record { of_peer = refl; next_same = refl; idle = idle; end = refl; number = inr (inl (refl, ap Some bears)) }))
    (λ n. inl (record { of_peer = refl; next_same = refl; idle = idle; end = refl; number = inr (inl (refl, ap Some bears)) }))

body-moves : (s : State) (live : Live) (head : Head) (body : Body) → live.awaited ≡ None → head.number ≡ s.expected
    → Moves s.peer s.next s.expected (message head body) (body_row (with_live s live) head body)
unfolding body_row
body-moves s live head (bodies.Admin a) idle bears = admin-moves s live head head.number a idle bears
body-moves s live head (bodies.Report report) idle bears = report-moves s live head report idle bears
body-moves s live head (bodies.Allocation allocation) idle bears =
    inr (record { of_peer = refl; next_same = refl; awaits = refl; sends = refl; end = refl; same = refl; bears = ap Some bears; command = λ peer. refl })
body-moves s live head bodies.Other idle bears = other-moves s live head head.number head.kind idle bears

expected-moves : (s : State) (live : Live) (head : Head) (said : Result Message FieldFault) → live.awaited ≡ None → head_in said ≡ Some head → head.number ≡ s.expected
    → Moves s.peer s.next s.expected said (expected_row (with_live s live) head said)
unfolding expected_row
expected-moves s live head (Ok m) idle is bears =
    subst (λ h. Moves s.peer s.next s.expected (Ok m) (body_row (with_live s live) h m.body)) (same_Some m.head head is)
    (body-moves s live m.head m.body idle (ap (λ h. h.number) (same_Some m.head head is) ∙ bears))
expected-moves s live head (Err fault) idle is bears =
    inl (record { of_peer = refl; next_same = refl; idle = idle; end = refl; number = inr (inl (refl, subst (λ found. option_map (λ h. h.number) found ≡ Some s.expected) (sym is) (ap Some bears))) })

-- ---- any other number

high_body-moves : (s : State) (live : Live) (said : Result Message FieldFault) (body : Body) → live.awaited ≡ None
    → Moves s.peer s.next s.expected said (high_body_row (with_live s live) body)
unfolding high_body_row
high_body-moves s live said (bodies.Admin (admin.Logon heartbeat reset)) idle = inl (record { of_peer = refl; next_same = refl; idle = idle; end = refl; number = inl refl })
high_body-moves s live said (bodies.Admin admin.Heartbeat) idle = inl (record { of_peer = refl; next_same = refl; idle = idle; end = refl; number = inl refl })
high_body-moves s live said (bodies.Admin admin.Reject) idle = inl (record { of_peer = refl; next_same = refl; idle = idle; end = refl; number = inl refl })
high_body-moves s live said (bodies.Admin (admin.TestRequest id)) idle = inl (record { of_peer = refl; next_same = refl; idle = idle; end = refl; number = inl refl })
high_body-moves s live said (bodies.Admin (admin.ResendRequest begin end)) idle =
    cond_both (nat_lt begin s.next) _ _ (λ row. Moves s.peer s.next s.expected said row)
    (λ y. inl (record { of_peer = refl; next_same = refl; idle = idle; end = refl; number = inl refl }))
    (λ n. inl (record { of_peer = refl; next_same = refl; idle = idle; end = refl; number = inl refl }))
high_body-moves s live said (bodies.Admin (admin.SequenceReset new_number gap_fill)) idle = inl (record { of_peer = refl; next_same = refl; idle = idle; end = refl; number = inl refl })
high_body-moves s live said (bodies.Admin admin.Logout) idle = inl (record { of_peer = refl; next_same = refl; idle = idle; end = refl; number = inl refl })
high_body-moves s live said (bodies.Report report) idle = inl (record { of_peer = refl; next_same = refl; idle = idle; end = refl; number = inl refl })
high_body-moves s live said (bodies.Allocation allocation) idle = inl (record { of_peer = refl; next_same = refl; idle = idle; end = refl; number = inl refl })
high_body-moves s live said bodies.Other idle = inl (record { of_peer = refl; next_same = refl; idle = idle; end = refl; number = inl refl })

high-moves : (s : State) (live : Live) (said : Result Message FieldFault) → live.awaited ≡ None → Moves s.peer s.next s.expected said (high_row (with_live s live) said)
unfolding high_row
high-moves s live (Ok m) idle = high_body-moves s live (Ok m) m.body idle
high-moves s live (Err fault) idle = inl (record { of_peer = refl; next_same = refl; idle = idle; end = refl; number = inl refl })

low-moves : (s : State) (live : Live) (said : Result Message FieldFault) (dup : Bool) → live.awaited ≡ None → Moves s.peer s.next s.expected said (low_row (with_live s live) dup)
unfolding low_row
low-moves s live said dup idle =
    cond_both dup _ _ (λ row. Moves s.peer s.next s.expected said row)
    (λ y. inl (record { of_peer = refl; next_same = refl; idle = idle; end = refl; number = inl refl }))
    (λ n. inl (record { of_peer = refl; next_same = refl; idle = refl; end = refl; number = inl refl }))

number-moves : (s : State) (live : Live) (head : Head) (said : Result Message FieldFault) → live.awaited ≡ None → head_in said ≡ Some head
    → Moves s.peer s.next s.expected said (number_row (with_live s live) head said)
unfolding number_row
number-moves s live head said idle is =
    cond_both (nat_lt head.number s.expected) _ _ (λ row. Moves s.peer s.next s.expected said row)
    (λ low. low-moves s live said head.dup idle)
    (λ notlow. cond_both (nat_lt s.expected head.number) _ _ (λ row. Moves s.peer s.next s.expected said row)
    (λ high. high-moves s live said idle)
    (λ nothigh. expected-moves s live head said idle is (omega (arith, ltb-false _ _ notlow, ltb-false _ _ nothigh))))

-- ---- what is looked at before the number

reset-moves : (s : State) (live : Live) (head : Head) (number new_number : ℕ) → live.awaited ≡ None
    → Moves s.peer s.next s.expected (message head (bodies.Admin (admin.SequenceReset new_number false))) (reset_row (with_live s live) number new_number)
unfolding reset_row
reset-moves s live head number new_number idle =
    cond_both (nat_lt new_number s.expected) _ _ (λ row. Moves s.peer s.next s.expected (message head (bodies.Admin (admin.SequenceReset new_number false))) row)
    (λ low. inl (record { of_peer = refl; next_same = refl; idle = idle; end = refl; number = inl refl }))
    (λ notlow. inl (record { of_peer = refl; next_same = refl; idle = idle; end = refl; number = inr (inr (omega (arith, ltb-false new_number s.expected notlow), refl)) }))

-- a Logout
logout-moves : (s : State) (live : Live) (head : Head) (said : Result Message FieldFault) → live.awaited ≡ None → head_in said ≡ Some head
    → Moves s.peer s.next s.expected said (logout_row (with_live s live) head said)
unfolding logout_row
logout-moves s live head said idle is =
    cond_both live.leaving _ _ (λ row. Moves s.peer s.next s.expected said row)
    (λ leaves. cond_both (s.expected == head.number) _ _ (λ state. Moves s.peer s.next s.expected said (closing reasons.LoggedOut (silent state)))
    (λ same. inl (record {
      of_peer = refl;
      next_same = refl;
      idle = refl;
      end = refl;
      number = inr (inl (refl, subst (λ found. option_map (λ h. h.number) found ≡ Some s.expected) (sym is) (ap Some (sym (eqb-true _ _ same)))));
    }))
    (λ other. inl (record { of_peer = refl; next_same = refl; idle = refl; end = refl; number = inl refl })))
    (λ stays. number-moves s live head said idle is)

-- a Logon that is answered
logon-moves : (state : State) (head : Head) (said : Result Message FieldFault) (heartbeat : ℕ) (reset : Bool) (now : ℤ) → head_in said ≡ Some head
    → Moves state.peer state.next state.expected said (logon_row state head.number heartbeat reset now)
unfolding logon_row
logon-moves state head said heartbeat reset now is =
    cond_both (state.expected == head.number) _ _ (λ row. Moves state.peer state.next state.expected said row)
    (λ same. inl (record {
      of_peer = refl;
      next_same = refl;
      idle = refl;
      end = refl;
      number = inr (inl (refl, subst (λ found. option_map (λ h. h.number) found ≡ Some state.expected) (sym is) (ap Some (sym (eqb-true _ _ same)))));
    }))
    (λ other. inl (record { of_peer = refl; next_same = refl; idle = refl; end = refl; number = inl refl }))

-- ---- a frame in phase On

-- a frame moves the numbers, or those that are both 1 where it resets them
abbrev pub FrameMoves : List ℕ → ℕ → ℕ → Result Message FieldFault → Row → Type 0
FrameMoves peer next expected said row = Moves peer next expected said row ⊎ ((is_reset_said said ≡ true) × Moves peer 1 1 said row)

message-moves : (s : State) (live : Live) (head : Head) (body : Body) (now : ℤ) → live.awaited ≡ None
    → FrameMoves s.peer s.next s.expected (message head body) (message_row (with_live s live) head body (message head body) now)
unfolding message_row
message-moves s live head (bodies.Admin (admin.Logon heartbeat true)) now idle =
    inr (refl, logon-moves (restarted (with_live s live)) head (message head (bodies.Admin (admin.Logon heartbeat true))) heartbeat true now refl)
message-moves s live head (bodies.Admin (admin.Logon heartbeat false)) now idle = inl (number-moves s live head (message head (bodies.Admin (admin.Logon heartbeat false))) idle refl)
message-moves s live head (bodies.Admin admin.Heartbeat) now idle = inl (number-moves s live head (message head (bodies.Admin admin.Heartbeat)) idle refl)
message-moves s live head (bodies.Admin admin.Reject) now idle = inl (number-moves s live head (message head (bodies.Admin admin.Reject)) idle refl)
message-moves s live head (bodies.Admin (admin.TestRequest id)) now idle = inl (number-moves s live head (message head (bodies.Admin (admin.TestRequest id))) idle refl)
message-moves s live head (bodies.Admin (admin.ResendRequest begin end)) now idle = inl (number-moves s live head (message head (bodies.Admin (admin.ResendRequest begin end))) idle refl)
message-moves s live head (bodies.Admin (admin.SequenceReset new_number true)) now idle =
    inl (number-moves s live head (message head (bodies.Admin (admin.SequenceReset new_number true))) idle refl)
message-moves s live head (bodies.Admin (admin.SequenceReset new_number false)) now idle = inl (reset-moves s live head head.number new_number idle)
message-moves s live head (bodies.Admin admin.Logout) now idle = inl (logout-moves s live head (message head (bodies.Admin admin.Logout)) idle refl)
message-moves s live head (bodies.Report report) now idle = inl (number-moves s live head (message head (bodies.Report report)) idle refl)
message-moves s live head (bodies.Allocation allocation) now idle = inl (number-moves s live head (message head (bodies.Allocation allocation)) idle refl)
message-moves s live head bodies.Other now idle = inl (number-moves s live head (message head bodies.Other) idle refl)

peer-moves : (s : State) (live : Live) (head : Head) (said : Result Message FieldFault) (now : ℤ) → live.awaited ≡ None → head_in said ≡ Some head
    → FrameMoves s.peer s.next s.expected said (peer_row (with_live s live) head said now)
unfolding peer_row
peer-moves s live head (Ok m) now idle is =
    subst (λ h. FrameMoves s.peer s.next s.expected (Ok m) (message_row (with_live s live) h m.body (Ok m) now)) (same_Some m.head head is)
    (message-moves s live m.head m.body now idle)
peer-moves s live head (Err fault) now idle is = inl (number-moves s live head (Err fault) idle is)

comp_id-moves : (s : State) (live : Live) (head : Head) (said : Result Message FieldFault) → head_in said ≡ Some head
    → Moves s.peer s.next s.expected said (comp_id_row (with_live s live) head)
unfolding comp_id_row
comp_id-moves s live head said is =
    cond_both (s.expected == head.number) _ _
    (λ state. Moves s.peer s.next s.expected said (closing reasons.CompId (sends_both (Reject head.number (comp_id_tag (with_live s live) head) 9) Logout state)))
    (λ same. inl (record {
      of_peer = refl;
      next_same = refl;
      idle = refl;
      end = refl;
      number = inr (inl (refl, subst (λ found. option_map (λ h. h.number) found ≡ Some s.expected) (sym is) (ap Some (sym (eqb-true _ _ same)))));
    }))
    (λ other. inl (record { of_peer = refl; next_same = refl; idle = refl; end = refl; number = inl refl }))

head-moves : (s : State) (live : Live) (head : Head) (said : Result Message FieldFault) (now : ℤ) → live.awaited ≡ None → head_in said ≡ Some head
    → FrameMoves s.peer s.next s.expected said (head_row (with_live s live) head said now)
unfolding head_row
head-moves s live head said now idle is =
    cond_both (is_from_peer (with_live s live) head) _ _ (λ row. FrameMoves s.peer s.next s.expected said row)
    (λ y. peer-moves s live head said now idle is)
    (λ n. inl (comp_id-moves s live head said is))

on_by-moves : (s : State) (live : Live) (found : Option Head) (said : Result Message FieldFault) (now : ℤ) → live.awaited ≡ None → head_in said ≡ found
    → FrameMoves s.peer s.next s.expected said (on_row_by (with_live s live) found said now)
on_by-moves s live (Some head) said now idle is = head-moves s live head said now idle is
on_by-moves s live None said now idle is = inl (inl (record { of_peer = refl; next_same = refl; idle = refl; end = refl; number = inl refl }))

on-moves : (s : State) (live : Live) (said : Result Message FieldFault) (now : ℤ) → live.awaited ≡ None
    → FrameMoves s.peer s.next s.expected said (on_row (with_live s live) said now)
unfolding on_row
on-moves s live said now idle = on_by-moves s live (head_in said) said now idle refl

-- ---- a frame in phase Waiting

low_logon-moves : (state : State) (said : Result Message FieldFault) (dup : Bool) → Moves state.peer state.next state.expected said (low_logon_row state dup)
unfolding low_logon_row
low_logon-moves state said dup =
    cond_both dup _ _ (λ row. Moves state.peer state.next state.expected said row)
    (λ y. inl (record { of_peer = refl; next_same = refl; idle = refl; end = refl; number = inl refl }))
    (λ n. inl (record { of_peer = refl; next_same = refl; idle = refl; end = refl; number = inl refl }))

first_logon-moves : (state : State) (head : Head) (said : Result Message FieldFault) (heartbeat : ℕ) (reset : Bool) (now : ℤ) → head_in said ≡ Some head
    → Moves state.peer state.next state.expected said (first_logon_row state head heartbeat reset now)
unfolding first_logon_row
first_logon-moves state head said heartbeat reset now is =
    cond_both (nat_lt head.number state.expected) _ _ (λ row. Moves state.peer state.next state.expected said row)
    (λ y. low_logon-moves state said head.dup)
    (λ n. logon-moves state head said heartbeat reset now is)

waiting_logon-moves : (state : State) (head : Head) (heartbeat : ℕ) (reset : Bool) (now : ℤ)
    → FrameMoves state.peer state.next state.expected (message head (bodies.Admin (admin.Logon heartbeat reset))) (waiting_logon_row state head heartbeat reset now)
unfolding waiting_logon_row
waiting_logon-moves state head heartbeat reset now =
    let said = message head (bodies.Admin (admin.Logon heartbeat reset)) in
    cond_both (is_from_peer state head) _ _ (λ row. FrameMoves state.peer state.next state.expected said row)
    (λ y. cond_both reset _ _ (λ base. FrameMoves state.peer state.next state.expected said (first_logon_row base head heartbeat reset now))
    (λ resets. inr (resets, first_logon-moves (restarted state) head said heartbeat reset now refl))
    (λ keeps. inl (first_logon-moves state head said heartbeat reset now refl)))
    (λ n. inl (inl (record { of_peer = refl; next_same = refl; idle = refl; end = refl; number = inl refl })))

no_logon-moves : (state : State) (said : Result Message FieldFault) → FrameMoves state.peer state.next state.expected said (closing reasons.NoLogon (silent state))
no_logon-moves state said = inl (inl (record { of_peer = refl; next_same = refl; idle = refl; end = refl; number = inl refl }))

waiting_body-moves : (state : State) (head : Head) (body : Body) (now : ℤ)
    → FrameMoves state.peer state.next state.expected (message head body) (waiting_body_row state head body now)
waiting_body-moves state head (bodies.Admin (admin.Logon heartbeat reset)) now = waiting_logon-moves state head heartbeat reset now
waiting_body-moves state head (bodies.Admin admin.Heartbeat) now = no_logon-moves state (message head (bodies.Admin admin.Heartbeat))
waiting_body-moves state head (bodies.Admin admin.Reject) now = no_logon-moves state (message head (bodies.Admin admin.Reject))
waiting_body-moves state head (bodies.Admin (admin.TestRequest id)) now = no_logon-moves state (message head (bodies.Admin (admin.TestRequest id)))
waiting_body-moves state head (bodies.Admin (admin.ResendRequest begin end)) now = no_logon-moves state (message head (bodies.Admin (admin.ResendRequest begin end)))
waiting_body-moves state head (bodies.Admin (admin.SequenceReset new_number gap_fill)) now = no_logon-moves state (message head (bodies.Admin (admin.SequenceReset new_number gap_fill)))
waiting_body-moves state head (bodies.Admin admin.Logout) now = no_logon-moves state (message head (bodies.Admin admin.Logout))
waiting_body-moves state head (bodies.Report report) now = no_logon-moves state (message head (bodies.Report report))
waiting_body-moves state head (bodies.Allocation allocation) now = no_logon-moves state (message head (bodies.Allocation allocation))
waiting_body-moves state head bodies.Other now = no_logon-moves state (message head bodies.Other)

waiting-moves : (state : State) (said : Result Message FieldFault) (now : ℤ) → FrameMoves state.peer state.next state.expected said (waiting_row state said now)
unfolding waiting_row
waiting-moves state (Ok m) now = waiting_body-moves state m.head m.body now
waiting-moves state (Err fault) now = no_logon-moves state (Err fault)

-- ---- any frame

frame_by-moves : (state : State) (link : LinkState) (said : Result Message FieldFault) (now : ℤ) → state.link ≡ link → IsIdle state
    → FrameMoves state.peer state.next state.expected said (frame_row_by state link said now)
frame_by-moves state links.Waiting said now is idle = waiting-moves state said now
frame_by-moves state (links.On live) said now is idle =
    subst (λ link. FrameMoves state.peer state.next state.expected said (on_row (record state { link = changed (λ live. record live { received = now; asked = None }) link }) said now)) (sym is)
    (on-moves state (record live { received = now; asked = None }) said now (ap awaited_by (sym is) ∙ idle))
frame_by-moves state links.Closed said now is idle = inl (inl (record { of_peer = refl; next_same = refl; idle = idle; end = refl; number = inl refl }))

pub frame-moves : (state : State) (said : Result Message FieldFault) (now : ℤ) → IsIdle state
    → FrameMoves state.peer state.next state.expected said (frame_row state said now)
frame-moves state said now idle = frame_by-moves state state.link said now refl idle
