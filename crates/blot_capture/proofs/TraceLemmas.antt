-- The walk over a capture, and the run of the commands that it submits.
use Rattle.std.proofs.Common.{◌≡◌, ℕ, ◌+◌, List, [], ◌∷◌, ◌++◌, length, drop, map, fold, Option, Some, None, refl, sym, ap, ◌∙◌, All, flat_map, append-nil, append_assoc}
use Rattle.std.specs.Option.{option_map_or}
use Rattle.std.proofs.lemmas.List.{map_push}
use Rattle.std.proofs.lemmas.List.Elements.{All-head, All-tail}
use Rattle.blot_tag.specs.Places.{place_in, placed_in}
use Rattle.blot_tag.specs.Walking.{frames_of}
use Rattle.blot_types.specs.declared.{command.Command.Command, command.Entry.Entry, refused.Refused.Refused as Reason}
use Rattle.blot_types.specs.Legal.{refusal_of, without}
use Rattle.blot_session.specs.declared.{met.Met.Met, state.State.State}
use Rattle.blot_session.specs.Met.{met_of}
use Rattle.blot_session.specs.Runs.{said_by}
use Rattle.blot_session.proofs.OneLemmas.{AtMostOne}
use Rattle.blot_desk.specs.declared.{event.Event.TheVariants.Submit, event.Recorded.Recorded, event.Reply.Reply}
use Rattle.blot_desk.specs.Desk.{DeskBook, DeskState, recorded_of, submit_by, replies_of}
use Rattle.blot_capture.specs.Capture.{commands_in, commands_over, moment_at, sessions_behind, taken_by}
use Rattle.blot_capture.specs.Replay.{Taking, submitted}
use Rattle.blot_capture.specs.declared.became.Became.TheVariants as became
use Rattle.blot_capture.specs.Trace.{Turn, IsReplayed, accepted_by, accepted_in, became_of, became_in, first_taking, reply_to, reply_told, session_for, taking_after, trace_over}
use Rattle.blot_capture.proofs.EntryLemmas.{IsEntry, over-entries}
use Rattle.blot_capture.proofs.SessionLemmas.{one-taken}

-- ---- the commands

-- the messages' commands are those of the frames
trace-commands : (frames : List (List ℕ)) (text : List ℕ) (taking : Taking)
    → flat_map (λ turn. turn.commands) (trace_over taking (placed_in frames text)) ≡ commands_over taking.sessions frames
trace-commands [] text taking = refl
trace-commands (frame ∷ frames) text taking =
    ap (λ more. commands_in taking.sessions frame ++ more)
    (trace-commands frames (drop (place_in frame text + length frame) text) (taking_after taking frame))

-- ---- the replies

-- the replies to some commands, each submitted
replies_to : DeskState → List Command → List Reply
replies_to desk [] = []
replies_to desk (command ∷ commands) = reply_to desk command ∷ replies_to (recorded_of desk (Submit command)) commands

replies-append : (desk : DeskState) (commands more : List Command)
    → replies_to desk (commands ++ more) ≡ replies_to desk commands ++ replies_to (submitted desk commands) more
unfolding replies_to
replies-append desk [] more = refl
replies-append desk (command ∷ commands) more =
    ap (λ replies. reply_to desk command ∷ replies) (replies-append (recorded_of desk (Submit command)) commands more)

-- they are those of the run
run-replies : (desk : DeskState) (commands : List Command)
    → replies_of (fold recorded_of desk (map Submit commands)).history ≡ replies_of desk.history ++ replies_to desk commands
unfolding replies_to
run-replies desk [] = sym (append-nil (replies_of desk.history))
run-replies desk (command ∷ commands) =
    let next = recorded_of desk (Submit command) in
    let reply = reply_to desk command in
    run-replies next commands
    ∙ ap (λ replies. replies ++ replies_to next commands) (map_push (λ (r : Recorded). r.reply) desk.history (record { event = Submit command; reply = reply }))
    ∙ append_assoc (replies_of desk.history) (reply ∷ []) (replies_to next commands)

-- a message is told to have got the reply to its command
told-one : (met : Met) (desk : DeskState) (commands : List Command) → AtMostOne commands → reply_told (became_of met desk commands) ≡ replies_to desk commands
unfolding replies_to
told-one met desk [] one = refl
told-one met desk (command ∷ []) one = refl
told-one met desk (command ∷ next ∷ commands) one = absurd one

told-in : (session : Option State) (desk : DeskState) (text : List ℕ) (commands : List Command)
    → commands ≡ option_map_or (λ state. taken_by state text) session []
    → reply_told (became_in session desk text) ≡ replies_to desk commands
unfolding replies_to
told-in None desk text commands is = ap (replies_to desk) (sym is)
told-in (Some state) desk text commands is =
    told-one (met_of state (said_by text) (moment_at text)) desk (taken_by state text) (one-taken state text) ∙ ap (replies_to desk) (sym is)

trace-replies : (frames : List (List ℕ)) (text : List ℕ) (taking : Taking)
    → flat_map (λ turn. reply_told turn.became) (trace_over taking (placed_in frames text)) ≡ replies_to taking.desk (commands_over taking.sessions frames)
unfolding replies_to
trace-replies [] text taking = refl
trace-replies (frame ∷ frames) text taking =
    let commands = commands_in taking.sessions frame in
    ap (λ replies. replies ++ flat_map (λ (turn : Turn). reply_told turn.became) (trace_over (taking_after taking frame) (placed_in frames (drop (place_in frame text + length frame) text))))
    (told-in (session_for taking.sessions frame) taking.desk frame commands refl)
    ∙ ap (λ replies. replies_to taking.desk commands ++ replies) (trace-replies frames (drop (place_in frame text + length frame) text) (taking_after taking frame))
    ∙ sym (replies-append taking.desk commands (commands_over (sessions_behind taking.sessions frame) frames))

-- ---- the live list

-- what some commands put into the book, each submitted
entries_to : DeskState → List Command → List Entry
entries_to desk [] = []
entries_to desk (command ∷ commands) =
    accepted_by command (became.Replied (reply_to desk command)) ++ entries_to (recorded_of desk (Submit command)) commands

entries-append : (desk : DeskState) (commands more : List Command)
    → entries_to desk (commands ++ more) ≡ entries_to desk commands ++ entries_to (submitted desk commands) more
unfolding entries_to
entries-append desk [] more = refl
entries-append desk (command ∷ commands) more =
    let made = accepted_by command (became.Replied (reply_to desk command)) in
    let next = recorded_of desk (Submit command) in
    ap (λ entries. made ++ entries) (entries-append next commands more)
    ∙ sym (append_assoc made (entries_to next commands) (entries_to (submitted next commands) more))

-- it is what the live list of the run gains, where they are entries
submit-list : (book : DeskBook) (command : Command) (refused : Option Reason) → IsEntry command
    → (submit_by book command refused).book.list ≡ book.list ++ accepted_by command (became.Replied (submit_by book command refused).reply)
submit-list book command None is = ap (λ withdrawn. option_map_or (λ taken. without taken book.list) withdrawn (book.list ++ (record { number = book.next; command = command } ∷ []))) is
submit-list book command (Some reason) is = sym (append-nil book.list)

run-list : (desk : DeskState) (commands : List Command) → All IsEntry commands
    → (fold recorded_of desk (map Submit commands)).book.list ≡ desk.book.list ++ entries_to desk commands
unfolding entries_to
run-list desk [] are = sym (append-nil desk.book.list)
run-list desk (command ∷ commands) are =
    let next = recorded_of desk (Submit command) in
    run-list next commands (All-tail IsEntry command commands are)
    ∙ ap (λ list. list ++ entries_to next commands) (submit-list desk.book command (refusal_of desk.book.list command) (All-head IsEntry command commands are))
    ∙ append_assoc desk.book.list (accepted_by command (became.Replied (reply_to desk command))) (entries_to next commands)

-- a message is told to have put into the book what its command put there
told-made : (met : Met) (desk : DeskState) (commands : List Command) → AtMostOne commands
    → flat_map (λ command. accepted_by command (became_of met desk commands)) commands ≡ entries_to desk commands
unfolding entries_to
told-made met desk [] one = refl
told-made met desk (command ∷ []) one = refl
told-made met desk (command ∷ next ∷ commands) one = absurd one

told-made-in : (session : Option State) (desk : DeskState) (text : List ℕ) (commands : List Command)
    → commands ≡ option_map_or (λ state. taken_by state text) session []
    → flat_map (λ command. accepted_by command (became_in session desk text)) commands ≡ entries_to desk commands
unfolding entries_to
told-made-in None desk text commands is =
    ap (λ these. flat_map (λ command. accepted_by command became.Passed) these) is ∙ ap (entries_to desk) (sym is)
told-made-in (Some state) desk text commands is =
    ap (λ these. flat_map (λ command. accepted_by command (became_in (Some state) desk text)) these) is
    ∙ told-made (met_of state (said_by text) (moment_at text)) desk (taken_by state text) (one-taken state text)
    ∙ ap (entries_to desk) (sym is)

trace-list : (frames : List (List ℕ)) (text : List ℕ) (taking : Taking)
    → flat_map accepted_in (trace_over taking (placed_in frames text)) ≡ entries_to taking.desk (commands_over taking.sessions frames)
unfolding entries_to
trace-list [] text taking = refl
trace-list (frame ∷ frames) text taking =
    let commands = commands_in taking.sessions frame in
    ap (λ made. made ++ flat_map accepted_in (trace_over (taking_after taking frame) (placed_in frames (drop (place_in frame text + length frame) text))))
    (told-made-in (session_for taking.sessions frame) taking.desk frame commands refl)
    ∙ ap (λ made. entries_to taking.desk commands ++ made) (trace-list frames (drop (place_in frame text + length frame) text) (taking_after taking frame))
    ∙ sym (entries-append taking.desk commands (commands_over (sessions_behind taking.sessions frame) frames))

-- ---- the law

pub is_replayed : (own : List ℕ) (peers : List (List ℕ)) (bytes : List ℕ) → IsReplayed own peers bytes
is_replayed own peers bytes =
    let first = first_taking own peers in
    record {
      commands = trace-commands (frames_of bytes) bytes first;
      replies = trace-replies (frames_of bytes) bytes first
          ∙ sym (run-replies first.desk (commands_over first.sessions (frames_of bytes)));
      accepted = trace-list (frames_of bytes) bytes first
          ∙ sym (run-list first.desk (commands_over first.sessions (frames_of bytes))
          (over-entries first.sessions (frames_of bytes)));
    }
