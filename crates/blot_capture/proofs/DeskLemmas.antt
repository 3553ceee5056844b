-- What a desk comes to by some commands.
use Rattle.std.proofs.Common.{◌≡◌, ◌<◌, ◌+◌, ℕ, List, [], ◌∷◌, ◌++◌, length, map, refl, sym, ap, ◌∙◌, arith, append_assoc, append-nil, length-append}
use Rattle.std.proofs.lemmas.List.{map-append}
use Rattle.blot_types.specs.declared.{command.Command.Command, TheConstants.EVENTS_MAX}
use Rattle.blot_desk.specs.declared.{event.Event.TheVariants.Submit, event.Recorded.Recorded}
use Rattle.blot_desk.specs.Desk.{DeskState, empty_desk, step_of, recorded_of, events_of}
use Rattle.blot_stream.specs.declared.outcome.ReplayFault.{ReplayFault}
use Rattle.blot_stream.specs.declared.outcome.ReplayFault.TheVariants.{Full, NoMemory}
use Rattle.blot_capture.specs.Capture.{commands_over}
use Rattle.blot_capture.specs.Replay.{Taking, Came, Stopped, submitted}

pub submitted-append : (desk : DeskState) (commands more : List Command) → submitted desk (commands ++ more) ≡ submitted (submitted desk commands) more
submitted-append desk [] more = refl
submitted-append desk (command ∷ commands) more = submitted-append (recorded_of desk (Submit command)) commands more

-- ---- a fault

-- all commands were submitted
pub stopped-last : (before after : DeskState) (commands : List Command) → after ≡ submitted before commands → Stopped before after commands NoMemory
stopped-last before after commands is = record { front = commands; back = []; joined = append-nil commands; taken = is; full = λ full. absurd cc }

pub stopped-submitted : (before after : DeskState) (command : Command) → after ≡ recorded_of before (Submit command) → Stopped before after (command ∷ []) NoMemory
stopped-submitted before after command is = stopped-last before after (command ∷ []) is

-- more commands were to come
pub stopped-before : (fault : ReplayFault) (before after : DeskState) (commands more : List Command) → Stopped before after commands fault → Stopped before after (commands ++ more) fault
stopped-before fault before after commands more stopped =
    record {
      front = stopped.front;
      back = stopped.back ++ more;
      joined = sym (append_assoc stopped.front stopped.back more) ∙ ap (λ all. all ++ more) stopped.joined;
      taken = stopped.taken;
      full = λ is. ((stopped.full is).0, some stopped.back more (stopped.full is).1);
    }
  where
    some : (commands more : List Command) → 0 < length commands → 0 < length (commands ++ more)
    some (command ∷ commands) more is = omega arith
    some [] more is = absurd (omega (arith, is))

-- some commands were submitted before
pub stopped-behind : (fault : ReplayFault) (from : Taking) (texts : List (List ℕ)) (now : Taking) (left : List (List ℕ)) (after : DeskState)
    → Came from texts now left → Stopped now.desk after (commands_over now.sessions left) fault → Stopped from.desk after (commands_over from.sessions texts) fault
stopped-behind fault from texts now left after came stopped =
    record {
      front = came.front ++ stopped.front;
      back = stopped.back;
      joined = append_assoc came.front stopped.front stopped.back ∙ ap (λ back. came.front ++ back) stopped.joined ∙ came.joined;
      taken = stopped.taken ∙ ap (λ desk. submitted desk stopped.front) came.taken ∙ sym (submitted-append from.desk came.front stopped.front);
      full = stopped.full;
    }

-- ---- the history

pub length-submitted : (desk : DeskState) (commands : List Command) → length (submitted desk commands).history ≡ length desk.history + length commands
length-submitted desk [] = omega arith
length-submitted desk (command ∷ commands) =
    omega (arith, length-submitted (recorded_of desk (Submit command)) commands, length-append desk.history (record { event = Submit command; reply = (step_of desk.book (Submit command)).reply } ∷ []))

events-submitted : (desk : DeskState) (commands : List Command) → events_of (submitted desk commands).history ≡ events_of desk.history ++ map Submit commands
events-submitted desk [] = sym (append-nil (events_of desk.history))
events-submitted desk (command ∷ commands) =
    events-submitted (recorded_of desk (Submit command)) commands
    ∙ ap (λ events. events ++ map Submit commands) (map-append (λ (recorded : Recorded). recorded.event) desk.history (record { event = Submit command; reply = (step_of desk.book (Submit command)).reply } ∷ []))
    ∙ append_assoc (events_of desk.history) (Submit command ∷ []) (map Submit commands)

-- from the empty desk
pub submitted-events : (desk held : DeskState) (commands : List Command) → desk ≡ empty_desk → held ≡ submitted desk commands → events_of held.history ≡ map Submit commands
submitted-events desk held commands empty taken =
    ap (λ (held : DeskState). events_of held.history) taken ∙ events-submitted desk commands ∙ ap (λ (desk : DeskState). events_of desk.history ++ map Submit commands) empty

pub submitted-count : (desk held : DeskState) (commands : List Command) → desk ≡ empty_desk → held ≡ submitted desk commands → length held.history ≡ length commands
submitted-count desk held commands empty taken =
    omega (arith, ap (λ (held : DeskState). length held.history) taken, length-submitted desk commands, ap (λ (desk : DeskState). length desk.history) empty)

-- a full desk that was empty took as many commands as a day has events, and there was one more
pub stopped-over : (desk held : DeskState) (commands : List Command) → desk ≡ empty_desk → Stopped desk held commands Full → EVENTS_MAX < length commands
stopped-over desk held commands empty stopped =
    omega (
      arith,
      submitted-count desk held stopped.front empty stopped.taken,
      (stopped.full refl).0,
      (stopped.full refl).1,
      length-append stopped.front stopped.back,
      ap length stopped.joined,
    )
