-- An Execution Report about a fill in its turn, and the reply to it, as the table has them.
use Rattle.std.proofs.Common.{◌≡◌, ℕ, ◌≤◌, ◌==◌, true, false, ◌&&◌, List, [], Option, Some, None, Result, Ok, Err, refl, sym, ap, ◌∙◌, arith, inl, inr, nat_lt, nat_le, ℤ, is_some, ltb-true, leb-true, eqb-true}
use Rattle.std.proofs.lemmas.Bool.{and_parts, cases_Bool, cond-true, cond_both, false≢true}
use Rattle.blot_fields.specs.declared.{TheConstants.SEQUENCE_MAX, head.Head.Head, message.Body.Body, message.Message.Message, report.Report.Report}
use Rattle.blot_fields.specs.declared.message.Body.TheVariants as bodies
use Rattle.blot_fields.specs.declared.report.Report.TheVariants as reports
use Rattle.blot_fields.specs.Commands.{command_of, command_of_body}
use Rattle.blot_session.specs.declared.{carrying.TheConstants.LAST_NUMBER, replies.NotTaken.NotTaken, replies.SeenReply.SeenReply, row.End.TheVariants.Delivers, row.Row.Row, state.Awaited.Awaited, state.LinkState.LinkState, state.State.State}
use Rattle.blot_session.specs.declared.state.Awaited.TheVariants as awaits
use Rattle.blot_session.specs.declared.state.LinkState.TheVariants as links
use Rattle.blot_session.specs.Calls.{Outcome, GivesCommand, ending, is_spent, carried_out, outcome_of, on_frame, on_reply, reply_row_by}
use Rattle.blot_session.specs.InTurn.{is_about_fill, is_on, is_report_in_turn, delivering, is_of_report, is_taken, is_report_taken}
use Rattle.blot_session.specs.Rows.{is_from_peer, report_row, body_row, expected_row, number_row, message_row, peer_row, head_row, on_row, frame_row_by, reply_row}
use Rattle.blot_session.specs.States.{awaiting, heard, counted, answered, awaited_of, IsAwaiting, IsState}
use Rattle.blot_session.specs.Table.{acts, delivers, silent}
use Rattle.blot_session.proofs.RowLemmas.{message}
use Rattle.blot_session.proofs.StateLemmas.{answered-idle}

-- ---- the row

report-delivers : (s : State) (report : Report) → is_about_fill (bodies.Report report) ≡ true → report_row s report ≡ delivers awaits.Report s
unfolding report_row
report-delivers s (reports.Trade execution) fill = refl
report-delivers s (reports.Correct reference execution) fill = refl
report-delivers s (reports.Bust id reference) fill = refl
report-delivers s reports.Other fill = absurd (false≢true fill)

body-delivers : (s : State) (head : Head) (body : Body) → is_about_fill body ≡ true → body_row s head body ≡ delivers awaits.Report s
unfolding body_row
body-delivers s head (bodies.Admin admin) fill = absurd (false≢true fill)
body-delivers s head (bodies.Report report) fill = report-delivers s report fill
body-delivers s head (bodies.Allocation allocation) fill = absurd (false≢true fill)
body-delivers s head bodies.Other fill = absurd (false≢true fill)

expected-is : (s : State) (head : Head) (body : Body) → expected_row s head (message head body) ≡ body_row s head body
unfolding expected_row
expected-is s head body = refl

number-is : (s : State) (head : Head) (body : Body) → head.number ≡ s.expected → number_row s head (message head body) ≡ expected_row s head (message head body)
unfolding number_row
number-is s head body is =
    cond_both (nat_lt head.number s.expected) _ _ (λ row. row ≡ expected_row s head (message head body))
    (λ y. absurd (omega (arith, is, ltb-true head.number s.expected y)))
    (λ n. cond_both (nat_lt s.expected head.number) _ _ (λ row. row ≡ expected_row s head (message head body))
    (λ y. absurd (omega (arith, is, ltb-true s.expected head.number y)))
    (λ m. refl))

message-is : (s : State) (head : Head) (body : Body) (now : ℤ) → is_about_fill body ≡ true
    → message_row s head body (message head body) now ≡ number_row s head (message head body)
unfolding message_row
message-is s head (bodies.Admin admin) now fill = absurd (false≢true fill)
message-is s head (bodies.Report report) now fill = refl
message-is s head (bodies.Allocation allocation) now fill = absurd (false≢true fill)
message-is s head bodies.Other now fill = absurd (false≢true fill)

peer-is : (s : State) (head : Head) (body : Body) (now : ℤ) → peer_row s head (message head body) now ≡ message_row s head body (message head body) now
unfolding peer_row
peer-is s head body now = refl

head-is : (s : State) (head : Head) (body : Body) (now : ℤ) → is_from_peer s head ≡ true → head_row s head (message head body) now ≡ peer_row s head (message head body) now
unfolding head_row
head-is s head body now peer = cond-true (is_from_peer s head) _ _ peer

on-is : (s : State) (head : Head) (body : Body) (now : ℤ) → on_row s (message head body) now ≡ head_row s head (message head body) now
unfolding on_row
on-is s head body now = refl

on-delivers : (s : State) (head : Head) (body : Body) (now : ℤ) → is_about_fill body ≡ true → head.number ≡ s.expected → is_from_peer s head ≡ true
    → on_row s (message head body) now ≡ delivers awaits.Report s
on-delivers s head body now fill number peer =
    on-is s head body now ∙ head-is s head body now peer ∙ peer-is s head body now ∙ message-is s head body now fill
    ∙ number-is s head body number ∙ expected-is s head body ∙ body-delivers s head body fill

frame_by-delivers : (s : State) (link : LinkState) (said : Message) (now : ℤ) → is_on link ≡ true → is_about_fill said.body ≡ true → said.head.number ≡ s.expected
    → is_from_peer s said.head ≡ true → frame_row_by s link (Ok said) now ≡ delivers awaits.Report (heard now s)
frame_by-delivers s links.Waiting said now on fill number peer = absurd (false≢true on)
frame_by-delivers s (links.On live) said now on fill number peer = on-delivers (heard now s) said.head said.body now fill number peer
frame_by-delivers s links.Closed said now on fill number peer = absurd (false≢true on)

-- ---- the call

unspent : (s : State) (row : Row) → nat_le s.next LAST_NUMBER ≡ true → is_spent s row ≡ false
unspent s row low =
    elim (cases_Bool (nat_lt LAST_NUMBER s.next)) [
      | inl y ↦ absurd (omega (arith, leb-true s.next LAST_NUMBER low, ltb-true LAST_NUMBER s.next y))
      | inr n ↦ ap (λ test. test && acts row) n
    ]

-- what tells such a report, each fact by itself
record InTurn (state : State) (message : Message) : Type 0 where
  pub on : is_on state.link ≡ true
  pub low : nat_le state.next LAST_NUMBER ≡ true
  pub fill : is_about_fill message.body ≡ true
  pub number : message.head.number ≡ state.expected
  pub peer : is_from_peer state message.head ≡ true

in_turn-parts : (state : State) (message : Message) → is_report_in_turn state message ≡ true → InTurn state message
in_turn-parts state message is =
    let on = is_on state.link in
    let low = nat_le state.next LAST_NUMBER in
    let fill = is_about_fill message.body in
    let number = message.head.number == state.expected in
    let first = (and_parts (((on && low) && fill) && number) (is_from_peer state message.head) is).0 in
    let second = (and_parts ((on && low) && fill) number first).0 in
    let third = (and_parts (on && low) fill second).0 in
    record {
      on = (and_parts on low third).0;
      low = (and_parts on low third).1;
      fill = (and_parts (on && low) fill second).1;
      number = eqb-true message.head.number state.expected ((and_parts ((on && low) && fill) number first).1);
      peer = (and_parts (((on && low) && fill) && number) (is_from_peer state message.head) is).1;
    }

in_turn-outcome : (state : State) (message : Message) (now : ℤ) → is_report_in_turn state message ≡ true
    → record { state = record state { link = delivering now state.link }; actions = ending Delivers (command_of message state.peer) } ≡ on_frame state (Ok message) now
in_turn-outcome state message now is =
    let parts = in_turn-parts state message is in
    let row = delivers awaits.Report (heard now state) in
    let command = command_of message state.peer in
    sym (ap (λ (row : Row). outcome_of state row command now) (frame_by-delivers state state.link message now parts.on parts.fill parts.number parts.peer)
    ∙ cond_both (is_spent state row) _ _ (λ (outcome : Outcome). outcome ≡ carried_out row command now)
    (λ y. absurd (false≢true (sym (unspent state row parts.low) ∙ y)))
    (λ n. refl))

-- it brings a command
fill-brings : (peer : List ℕ) (sending : ℤ) (body : Body) → is_about_fill body ≡ true → is_some (command_of_body peer sending body) ≡ true
fill-brings peer sending (bodies.Admin admin) fill = absurd (false≢true fill)
fill-brings peer sending (bodies.Report (reports.Trade execution)) fill = refl
fill-brings peer sending (bodies.Report (reports.Correct reference execution)) fill = refl
fill-brings peer sending (bodies.Report (reports.Bust id reference)) fill = refl
fill-brings peer sending (bodies.Report reports.Other) fill = absurd (false≢true fill)
fill-brings peer sending (bodies.Allocation allocation) fill = absurd (false≢true fill)
fill-brings peer sending bodies.Other fill = absurd (false≢true fill)

pub report_in_turn : (state : State) (message : Message) (now : ℤ) → is_report_in_turn state message ≡ true
    → GivesCommand (on_frame state (Ok message) now) (record state { link = delivering now state.link }) (command_of message state.peer)
report_in_turn state message now is =
    record {
      brings = fill-brings state.peer message.head.sending message.body (in_turn-parts state message is).fill;
      gives = in_turn-outcome state message now is;
    }

pub delivering_state : (state : State) (message : Message) (now : ℤ) → is_report_in_turn state message ≡ true → IsState state
    → message.head.number ≤ SEQUENCE_MAX → IsState (record state { link = delivering now state.link })
delivering_state state message now is within small =
    let number = (in_turn-parts state message is).number in
    record { first = within.first; expected = within.expected; awaited = λ a. omega (arith, number, small); low = within.low; next = within.next }

-- ---- the reply

row-counted : (state : State) (awaited : Option Awaited) (reply : Result SeenReply NotTaken) → is_of_report awaited ≡ true → is_taken reply ≡ true
    → reply_row_by state awaited reply ≡ silent (counted (answered state))
unfolding reply_row
row-counted state (Some awaits.Report) (Ok reply) report taken = refl
row-counted state (Some awaits.Report) (Err fault) report taken = absurd (false≢true taken)
row-counted state (Some (awaits.Allocation id)) reply report taken = absurd (false≢true report)
row-counted state None reply report taken = absurd (false≢true report)

silent-unspent : (state base : State) → is_spent state (silent base) ≡ false
silent-unspent state base = elim (cases_Bool (nat_lt LAST_NUMBER state.next)) [ inl y ↦ ap (λ test. test && false) y | inr n ↦ ap (λ test. test && false) n ]

pub report_counted : (state : State) (reply : Result SeenReply NotTaken) (now : ℤ) → is_report_taken state reply ≡ true
    → record { state = counted (answered state); actions = [] } ≡ on_reply state reply now
report_counted state reply now is =
    let report = (and_parts (is_of_report (awaited_of state)) (is_taken reply) is).0 in
    let taken = (and_parts (is_of_report (awaited_of state)) (is_taken reply) is).1 in
    let row = silent (counted (answered state)) in
    sym (ap (λ (row : Row). outcome_of state row None now) (row-counted state (awaited_of state) reply report taken)
    ∙ cond_both (is_spent state row) _ _ (λ (outcome : Outcome). outcome ≡ carried_out row None now)
    (λ y. absurd (false≢true (sym (silent-unspent state (counted (answered state))) ∙ y)))
    (λ n. refl))

pub counted_state : (state : State) → IsState state → IsAwaiting state → IsState (counted (answered state))
counted_state state within awaiting =
    record {
      first = omega (arith, within.first);
      expected = omega (arith, within.awaited awaiting);
      awaited = λ a. absurd (false≢true (sym (ap is_some (answered-idle state.link)) ∙ a));
      low = within.low;
      next = within.next;
    }
