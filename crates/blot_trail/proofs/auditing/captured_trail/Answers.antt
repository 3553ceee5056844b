use Rattle.std.proofs.Common.{◌≡◌, ◌<◌, ◌≤◌, List, ℕ, length, ap, subst, arith, ◌∙◌, IfOk, IfSome}
use Rattle.std.proofs.lemmas.Result.{IfErr-at_err}
use Rattle.blot_tag.specs.Walking.{frames_of}
use Rattle.blot_types.specs.declared.TheConstants.{EVENTS_MAX}
use Rattle.blot_types.proofs.GeneralLemmas.{both-ok}
use Rattle.blot_stream.specs.declared.outcome.ReplayFault.TheVariants.{Full}
use Rattle.blot_stream.proofs.ResultLemmas.{if-some}
use Rattle.blot_capture.specs.Capture.{Sessions, commands_of, commands_over, first_sessions}
use Rattle.blot_capture.specs.Replay.{Stopped, Taking, submitted}
use Rattle.blot_capture.specs.Sessions.{sessions_of, taking_of}
use Rattle.blot_capture.specs.Trace.{first_taking}
use Rattle.blot_capture.proofs.DeskLemmas.{stopped-over, submitted-count}
use Rattle.blot_trail.specs.Making.{none_yet, trail_from}
use Rattle.blot_trail.proofs.AuditLemmas.{told-whole}
use Rattle.blot_trail.proofs.auditing.captured_trail.Goals as goal

pub returns-in-Ok-clause-text : goal.returns-in-Ok-clause-text
returns-in-Ok-clause-text g c =
    let first : taking_of c.in-Ok.sessions c.new-desk.result ≡ first_taking c.args.own c.args.peers.now =
    ap (λ (sessions : Sessions). record { sessions = sessions; desk = c.new-desk.result }) c.in-Ok.ensures
    ∙ ap (λ desk. record { sessions = first_sessions c.args.own c.args.peers.now; desk = desk }) c.new-desk.ensures in
    told-whole (λ text. text.items) (g.R.Read.remaining c.args.input.now) (first_taking c.args.own c.args.peers.now) c.tell_all-told.result
    (subst (λ (taking : Taking). IfOk c.tell_all-told.result (λ text. IfSome (g.R.Read.remaining c.args.input.now) (λ bytes. text.items ≡ trail_from none_yet taking bytes)))
    first c.tell_all-told.ensures.text)

pub returns-in-Ok-clause-full : goal.returns-in-Ok-clause-full
returns-in-Ok-clause-full g c = λ full.
    let known = g.R.Read.remaining c.args.input.now in
    if-some (λ (bytes : List ℕ). Stopped c.new-desk.result c.tell_all-told.new.desk (commands_over (sessions_of c.in-Ok.sessions) (frames_of bytes)) Full)
    (λ (bytes : List ℕ). EVENTS_MAX < length (commands_of c.args.own c.args.peers.now bytes)) known
    (IfErr-at_err (λ fault. IfSome known (λ (bytes : List ℕ). Stopped c.new-desk.result c.tell_all-told.new.desk (commands_over (sessions_of c.in-Ok.sessions) (frames_of bytes)) fault))
    full c.tell_all-told.ensures.stopped)
    (λ bytes stopped. stopped-over c.new-desk.result c.tell_all-told.new.desk (commands_of c.args.own c.args.peers.now bytes) c.new-desk.ensures
    (subst (λ (sessions : Sessions). Stopped c.new-desk.result c.tell_all-told.new.desk (commands_over sessions (frames_of bytes)) Full) c.in-Ok.ensures stopped))

pub returns-in-Ok-clause-few : goal.returns-in-Ok-clause-few
returns-in-Ok-clause-few g c =
    let known = g.R.Read.remaining c.args.input.now in
    let own = c.args.own in
    let peers = c.args.peers.now in
    let desk = c.tell_all-told.new.desk in
    both-ok c.tell_all-told.result c.tell_all-told.ensures.taken c.tell_all-told.ensures.few (λ taken few.
    if-some (λ (bytes : List ℕ). desk ≡ submitted c.new-desk.result (commands_over (sessions_of c.in-Ok.sessions) (frames_of bytes)))
    (λ (bytes : List ℕ). length (commands_of own peers bytes) ≤ EVENTS_MAX) known taken
    (λ bytes is.
    (let all = subst (λ (sessions : Sessions). desk ≡ submitted c.new-desk.result (commands_over sessions (frames_of bytes))) c.in-Ok.ensures is in
    let count = submitted-count c.new-desk.result desk (commands_of own peers bytes) c.new-desk.ensures all in
    omega (arith, count, few))))
