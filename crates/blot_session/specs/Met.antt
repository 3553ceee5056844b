-- What becomes of a frame at its session, by the row of the table that it meets. Source: this project's rule.
use Rattle.std.specs.Prelude.{◌≡◌, ◌≢◌, ◌⊎◌, ◌<◌, ℕ, ℤ, Bool, true, false, ◌&&◌, not, nat_lt, Option, Some, None, Result, Ok, Err, MatchOption, if◌then◌else◌, unwrap_or}
use Rattle.std.specs.Option.{option_map_or, option_or}
use Rattle.blot_fields.specs.declared.admin.Admin.TheVariants as admin
use Rattle.blot_fields.specs.declared.{fault.FieldFault.FieldFault, message.Body.Body, message.Message.Message}
use Rattle.blot_fields.specs.declared.message.Body.TheVariants as bodies
use Rattle.blot_fields.specs.Numbers.{head_in}
use Rattle.blot_session.specs.declared.action.CloseReason.TheVariants as reasons
use Rattle.blot_session.specs.declared.{met.Met.Met, outbound.Outbound.Outbound, row.End.End, row.Row.Row, row.Sends.Sends, state.State.State}
use Rattle.blot_session.specs.declared.met.Met.TheVariants as met
use Rattle.blot_session.specs.declared.outbound.Outbound.TheVariants.{Reject, ResendRequest, Unsupported}
use Rattle.blot_session.specs.declared.row.End.TheVariants.{Stays, Delivers, Closes}
use Rattle.blot_session.specs.declared.row.Sends.TheVariants.{Nothing, One, Two}
use Rattle.blot_session.specs.Calls.{is_spent}
use Rattle.blot_session.specs.Rows.{frame_row}
use Rattle.blot_session.specs.Runs.{is_reset_said}

-- a Sequence Reset that isn't a gap fill is looked at before its number
abbrev pub goes_before : Body → Bool
goes_before (bodies.Admin (admin.SequenceReset new_number false)) = true
goes_before body = false

abbrev pub is_before_number : Result Message FieldFault → Bool
is_before_number (Ok message) = goes_before message.body
is_before_number (Err fault) = false

-- whether a message bears a number below the expected one, and is judged by that number
abbrev pub is_late : State → Result Message FieldFault → Bool
is_late state said = option_map_or (λ head. nat_lt head.number state.expected) (head_in said) false && not (is_before_number said)

-- a message about which nothing is done is ignored where it is late, and else taken
abbrev pub passed_by : State → Result Message FieldFault → Met
passed_by state said = if is_late state said then met.Late state.expected else met.Taken

-- what the answer to a message says of it: that it is rejected, not supported, or that messages before it are missing
abbrev pub met_by_answer : Outbound → Option Met
met_by_answer (Reject number tag reason) = Some (met.Rejected tag reason)
met_by_answer (Unsupported number kind) = Some met.Unsupported
met_by_answer (ResendRequest begin) = Some (met.Early begin)
met_by_answer answer = None

-- by all answers, where `silent` says what becomes of a message without one
abbrev pub met_by_sends : Met → Sends → Met
met_by_sends silent Nothing = silent
met_by_sends silent (One answer) = unwrap_or (met_by_answer answer) met.Taken
met_by_sends silent (Two first second) = unwrap_or (option_or (met_by_answer first) (met_by_answer second)) met.Taken

-- by how the row ends
abbrev pub met_by_end : Met → Sends → End → Met
met_by_end silent sends Stays = met_by_sends silent sends
met_by_end silent sends Delivers = met.Delivered
met_by_end silent sends (Closes reason) = met.Closed reason

-- by the row, unless the numbers to send are used up, which closes the connection
abbrev pub met_by_row : State → Result Message FieldFault → Row → Met
met_by_row state said row =
    if is_spent state row then met.Closed reasons.Spent
    else met_by_end (passed_by state said) row.sends row.end

-- what becomes of a frame that says this
abbrev pub met_of : State → Result Message FieldFault → ℤ → Met
met_of state said now = met_by_row state said (frame_row state said now)

-- ---- the law: what becomes of a message says the truth about its number

-- a message bears a number, of which this holds
abbrev pub BearsThat : (ℕ → Type 0) → Result Message FieldFault → Type 0
BearsThat P said = MatchOption (head_in said) ⊥ (λ head. P head.number)

-- a number is above the expected one; a Logon that resets the numbers is expected under 1, and bears another
abbrev pub IsAbove : State → Result Message FieldFault → ℕ → ℕ → Type 0
IsAbove state said expected number =
    ((expected ≡ state.expected) × (expected < number)) ⊎ ((is_reset_said said ≡ true) × (expected ≡ 1) × (number ≢ 1))

-- one that is early is above the expected number, and one that is late is below it
abbrev pub IsOfNumber : State → Result Message FieldFault → Met → Type 0
IsOfNumber state said (met.Early expected) = BearsThat (IsAbove state said expected) said
IsOfNumber state said (met.Late expected) = (expected ≡ state.expected) × BearsThat (λ number. number < expected) said
IsOfNumber state said other = Unit {0}
