-- What a capture delivers are entries: no message of a broker takes an entry out of the list.
use Rattle.std.proofs.Common.{◌≡◌, ℕ, Bool, true, false, List, [], ◌∷◌, map, Option, Some, None, Result, Ok, Err, refl, sym, ap, subst, ◌∙◌, ℤ, is_some, if◌then◌else◌, All, option_and_then}
use Rattle.std.specs.Option.{option_map_or}
use Rattle.std.proofs.lemmas.List.Elements.{All-nil, All-cons, All-append}
use Rattle.std.proofs.lemmas.Option.{same_Some}
use Rattle.blot_tag.specs.Fields.{fields_of}
use Rattle.blot_types.specs.declared.command.Command.{Command}
use Rattle.blot_types.specs.Refusals.{withdrawn_by}
use Rattle.blot_fields.specs.declared.{allocation.Allocation.Allocation, fault.FieldFault.FieldFault, message.Body.Body, message.Message.Message, report.Report.Report}
use Rattle.blot_fields.specs.declared.allocation.Allocation.TheVariants as allocations
use Rattle.blot_fields.specs.declared.message.Body.TheVariants as bodies
use Rattle.blot_fields.specs.declared.report.Report.TheVariants as reports
use Rattle.blot_fields.specs.Commands.{command_of_allocation, command_of_body, command_of_report}
use Rattle.blot_fields.specs.Sender.{sender_of}
use Rattle.blot_session.specs.declared.state.State.{State}
use Rattle.blot_session.specs.Calls.{command_said}
use Rattle.blot_session.specs.Runs.{Numbered, delivered_by, outcome, said_by}
use Rattle.blot_session.specs.States.{awaited_of}
use Rattle.blot_session.proofs.OneLemmas.{by-frame}
use Rattle.blot_capture.specs.Capture.{Sessions, behind_frame, commands_in, commands_over, frame_call, moment_at, sessions_behind, taken_by}
use Rattle.blot_capture.proofs.SessionLemmas.{calls-take}

-- the command is an entry, once it is accepted
abbrev pub IsEntry : Command → Type 0
IsEntry command = withdrawn_by command ≡ None

-- ---- a message

report-entry : (peer : List ℕ) (sending : ℤ) (report : Report) (command : Command) → command_of_report peer sending report ≡ Some command → IsEntry command
report-entry peer sending (reports.Trade execution) command is = sym (ap withdrawn_by (same_Some _ command is))
report-entry peer sending (reports.Correct reference execution) command is = sym (ap withdrawn_by (same_Some _ command is))
report-entry peer sending (reports.Bust id reference) command is = sym (ap withdrawn_by (same_Some _ command is))
report-entry peer sending reports.Other command is = absurd cc

allocation-entry : (peer : List ℕ) (allocation : Allocation) → IsEntry (command_of_allocation peer allocation)
allocation-entry peer (allocations.New id terms) = refl
allocation-entry peer (allocations.Replace id reference terms) = refl
allocation-entry peer (allocations.Cancel id reference) = refl

body-entry : (peer : List ℕ) (sending : ℤ) (body : Body) (command : Command) → command_of_body peer sending body ≡ Some command → IsEntry command
body-entry peer sending (bodies.Admin admin) command is = absurd cc
body-entry peer sending (bodies.Report report) command is = report-entry peer sending report command is
body-entry peer sending (bodies.Allocation allocation) command is = sym (ap withdrawn_by (same_Some _ command is)) ∙ allocation-entry peer allocation
body-entry peer sending bodies.Other command is = absurd cc

said-entry : (said : Result Message FieldFault) (peer : List ℕ) (command : Command) → command_said said peer ≡ Some command → IsEntry command
said-entry (Ok message) peer command is = body-entry peer message.head.sending message.body command is
said-entry (Err fault) peer command is = absurd cc

-- ---- what is taken

-- the commands are
AreEntries : List Numbered → Type 0
AreEntries taken = All IsEntry (map (λ numbered. numbered.command) taken)

taken-entries : (state : State) (text : List ℕ) → All IsEntry (taken_by state text)
unfolding AreEntries
taken-entries state text =
    subst AreEntries (sym (calls-take state text))
    (chosen (is_some (awaited_of (behind_frame state text))) (delivered_by state.expected (outcome state (frame_call text)).actions)
    (by-frame AreEntries state.expected state (said_by text) (moment_at text) (All-nil IsEntry)
    (λ given is. All-cons IsEntry given [] (said-entry (said_by text) state.peer given is) (All-nil IsEntry))))
  where
    chosen : (awaiting : Bool) (taken : List Numbered) → AreEntries taken → AreEntries (if awaiting then taken else [])
    chosen false taken are = All-nil IsEntry
    chosen true taken are = are

-- ---- a capture

in-entries : (session : Option State) (text : List ℕ) → All IsEntry (option_map_or (λ state. taken_by state text) session [])
in-entries None text = All-nil IsEntry
in-entries (Some state) text = taken-entries state text

pub over-entries : (sessions : Sessions) (texts : List (List ℕ)) → All IsEntry (commands_over sessions texts)
over-entries sessions [] = All-nil IsEntry
over-entries sessions (text ∷ texts) =
    All-append IsEntry (commands_in sessions text) (commands_over (sessions_behind sessions text) texts)
    (in-entries (option_and_then sessions (sender_of (fields_of text))) text)
    (over-entries (sessions_behind sessions text) texts)
