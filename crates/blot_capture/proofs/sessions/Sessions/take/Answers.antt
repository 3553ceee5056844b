use Rattle.std.proofs.Common.{◌≡◌, ◌∙◌, ap, sym, subst, None, Some, IfOk}
use Rattle.blot_tag.specs.Views.{text_of}
use Rattle.blot_types.proofs.GeneralLemmas.{on-ok, if-err}
use Rattle.blot_capture.specs.Capture.{sessions_behind, commands_in, taken_by}
use Rattle.blot_capture.specs.Handling.{IsHandledBy}
use Rattle.blot_capture.specs.Replay.{submitted, Stopped}
use Rattle.blot_capture.specs.Sessions.{session_in, sessions_of, IsPlaceFor}
use Rattle.blot_capture.specs.Trace.{session_for}
use Rattle.blot_capture.proofs.LookupLemmas.{sessions-changed, commands-at, session-for, sessions-none}
use Rattle.blot_capture.proofs.sessions.Sessions.take.Goals as goal

pub returns-in-Ok-Some-clause-sessions : goal.returns-in-Ok-Some-clause-sessions
returns-in-Ok-Some-clause-sessions g c =
    let text = text_of c.args.frame.now in
    let at : IsPlaceFor text c.place_for.new.out.items c.in-Ok-Some.place = rw c.in-Ok-Some.field-0-is at c.in-Ok-Some.ensures.place in
    on-ok c.take_frame.result c.take_frame.ensures.session (λ led.
    sessions-changed at.peer c.place_for.new.out.items c.place_for.new.table c.in-Ok-Some.place c.index_mut.result.now c.take_frame.new.session text
    at.at c.index_mut.ensures.value c.take_frame.ensures.peer led at.sent
    ∙ ap (λ sessions. sessions_behind sessions text) (c.in-Ok-Some.ensures.same ∙ ap sessions_of c.self.view_is))

pub returns-in-Ok-Some-clause-desk : goal.returns-in-Ok-Some-clause-desk
returns-in-Ok-Some-clause-desk g c =
    let text = text_of c.args.frame.now in
    let at : IsPlaceFor text c.place_for.new.out.items c.in-Ok-Some.place = rw c.in-Ok-Some.field-0-is at c.in-Ok-Some.ensures.place in
    let commands = commands-at at.peer c.place_for.new.out.items c.place_for.new.table c.in-Ok-Some.place c.index_mut.result.now text
    at.at c.index_mut.ensures.value at.sent in
    on-ok c.take_frame.result c.take_frame.ensures.desk (λ taken.
    taken ∙ ap (submitted (g.D.TakesCommands.desk_of c.args.desk.now)) (sym commands ∙ ap (λ sessions. commands_in sessions text) (c.in-Ok-Some.ensures.same ∙ ap sessions_of c.self.view_is)))

pub returns-in-Ok-Some-clause-handled : goal.returns-in-Ok-Some-clause-handled
returns-in-Ok-Some-clause-handled g c =
    let text = text_of c.args.frame.now in
    let at : IsPlaceFor text c.place_for.new.out.items c.in-Ok-Some.place = rw c.in-Ok-Some.field-0-is at c.in-Ok-Some.ensures.place in
    let found : session_for (sessions_of c.args.self.now) text ≡ Some c.index_mut.result.now =
    ap (λ sessions. session_for sessions text) (sym (c.in-Ok-Some.ensures.same ∙ ap sessions_of c.self.view_is))
    ∙ session-for at.peer c.place_for.new.out.items c.place_for.new.table c.in-Ok-Some.place c.index_mut.result.now text at.at c.index_mut.ensures.value at.sent in
    subst (λ found. IfOk c.take_frame.result (IsHandledBy found (g.D.TakesCommands.desk_of c.args.desk.now) text)) (sym found) c.take_frame.ensures.handled

pub returns-in-Ok-Some-clause-err : goal.returns-in-Ok-Some-clause-err
returns-in-Ok-Some-clause-err g c =
    let text = text_of c.args.frame.now in
    let at : IsPlaceFor text c.place_for.new.out.items c.in-Ok-Some.place = rw c.in-Ok-Some.field-0-is at c.in-Ok-Some.ensures.place in
    let commands = commands-at at.peer c.place_for.new.out.items c.place_for.new.table c.in-Ok-Some.place c.index_mut.result.now text
    at.at c.index_mut.ensures.value at.sent in
    if-err (Stopped (g.D.TakesCommands.desk_of c.args.desk.now) (g.D.TakesCommands.desk_of c.take_frame.new.desk) (taken_by c.index_mut.result.now text))
    (Stopped (g.D.TakesCommands.desk_of c.args.desk.now) (g.D.TakesCommands.desk_of c.take_frame.new.desk) (commands_in (sessions_of c.args.self.now) text)) c.take_frame.result c.take_frame.ensures.err
    (λ fault stopped. subst (λ commands. Stopped (g.D.TakesCommands.desk_of c.args.desk.now) (g.D.TakesCommands.desk_of c.take_frame.new.desk) commands fault)
    (sym commands ∙ ap (λ sessions. commands_in sessions text) (c.in-Ok-Some.ensures.same ∙ ap sessions_of c.self.view_is)) stopped)

pub returns-in-Ok-None-clause-sessions : goal.returns-in-Ok-None-clause-sessions
returns-in-Ok-None-clause-sessions g c =
    let text = text_of c.args.frame.now in
    let none : session_for (session_in c.place_for.new.out.items c.place_for.new.table) text ≡ None = rw c.in-Ok-None.field-0-is at c.in-Ok-None.ensures.place in
    sym (sessions-none (session_in c.place_for.new.out.items c.place_for.new.table) text none)
    ∙ ap (λ sessions. sessions_behind sessions text) (c.in-Ok-None.ensures.same ∙ ap sessions_of c.self.view_is)
