use Rattle.std.proofs.Common.{◌≡◌, ◌<◌, ◌≤◌, ℕ, List, length, ap, arith, subst, ◌∙◌}
use Rattle.blot_types.specs.declared.TheConstants.{EVENTS_MAX}
use Rattle.blot_desk.specs.Desk.{run_of}
use Rattle.blot_report.specs.Text.{report_of}
use Rattle.blot_stream.specs.declared.outcome.ReplayFault.TheVariants.{Full}
use Rattle.blot_stream.proofs.ResultLemmas.{if-some, same-fault}
use Rattle.blot_capture.specs.Capture.{commands_of}
use Rattle.blot_capture.specs.Replay.{Stopped, submitted, list_of}
use Rattle.blot_capture.proofs.DeskLemmas.{submitted-events, submitted-count, stopped-over}
use Rattle.blot_capture.proofs.replaying.captured_report.Goals as goal

pub returns-in-Err-clause-full : goal.returns-in-Err-clause-full
returns-in-Err-clause-full g c = λ full.
    let is : c.in-Err.fault ≡ Full = same-fault c.in-Err.fault Full full in
    if-some (λ (bytes : List ℕ). Stopped c.new-desk.result c.capture_within.new.desk (commands_of c.args.own c.args.peers.now bytes) c.in-Err.fault)
    (λ (bytes : List ℕ). EVENTS_MAX < length (commands_of c.args.own c.args.peers.now bytes)) (g.R.Read.remaining c.args.input.now) c.in-Err.ensures.stopped
    (λ bytes stopped. stopped-over c.new-desk.result c.capture_within.new.desk (commands_of c.args.own c.args.peers.now bytes) c.new-desk.ensures
    (subst (Stopped c.new-desk.result c.capture_within.new.desk (commands_of c.args.own c.args.peers.now bytes)) is stopped))

pub returns-in-Ok-clause-text : goal.returns-in-Ok-clause-text
returns-in-Ok-clause-text g c =
    if-some (λ (bytes : List ℕ). c.capture_within.new.desk ≡ submitted c.new-desk.result (commands_of c.args.own c.args.peers.now bytes))
    (λ (bytes : List ℕ). c.in-Ok.text.items ≡ report_of (list_of c.args.own c.args.peers.now bytes) c.args.day) (g.R.Read.remaining c.args.input.now) c.in_default.ensures.taken
    (λ bytes taken. c.in-Ok.ensures.text
    ∙ ap (λ events. report_of (run_of events).book.list c.args.day)
    (submitted-events c.new-desk.result c.capture_within.new.desk (commands_of c.args.own c.args.peers.now bytes) c.new-desk.ensures taken))

pub returns-in-Ok-clause-few : goal.returns-in-Ok-clause-few
returns-in-Ok-clause-few g c =
    if-some (λ (bytes : List ℕ). c.capture_within.new.desk ≡ submitted c.new-desk.result (commands_of c.args.own c.args.peers.now bytes))
    (λ (bytes : List ℕ). length (commands_of c.args.own c.args.peers.now bytes) ≤ EVENTS_MAX) (g.R.Read.remaining c.args.input.now) c.in_default.ensures.taken
    (λ bytes taken. omega (
      arith,
      submitted-count c.new-desk.result c.capture_within.new.desk (commands_of c.args.own c.args.peers.now bytes) c.new-desk.ensures taken,
      c.day_report.ensures.few,
    ))
