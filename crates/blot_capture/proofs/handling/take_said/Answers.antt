use Rattle.std.proofs.Common.{◌≡◌, true, sym, subst, ◌∙◌, is_some, OnOk, IfErr}
use Rattle.blot_tag.specs.Views.{text_of}
use Rattle.blot_session.specs.States.{awaited_of}
use Rattle.blot_capture.specs.Replay.{Stopped, submitted}
use Rattle.blot_capture.proofs.SessionLemmas.{frame-takes, given-after, handled-frame, handled-report, report-takes, said-fill}
use Rattle.blot_capture.proofs.handling.take_said.Goals as goal

pub submit_report-requires-clause-fill : goal.submit_report-requires-clause-fill
submit_report-requires-clause-fill g c = said-fill c.args.session.now c.args.said.now (sym c.on_report.ensures.report ∙ c.if-on_report.true)

pub returns-then-on_report-clause-desk : goal.returns-then-on_report-clause-desk
returns-then-on_report-clause-desk g c =
    let awaited : is_some (awaited_of c.on_report.new.self) ≡ true = sym c.on_report.ensures.awaits ∙ c.if-on_report.true in
    let takes = report-takes c.args.session.now c.on_report.new.self (text_of c.args.frame.now) c.args.said.now c.sending_by-now.result
    c.sending_by-now.ensures (c.on_report.ensures.taken c.if-on_report.true) c.on_report.ensures.peer awaited c.requires.said in
    subst (λ commands. OnOk c.submit_report.result (g.D.TakesCommands.desk_of c.submit_report.new.desk ≡ submitted (g.D.TakesCommands.desk_of c.args.desk.now) commands))
    (sym takes) c.submit_report.ensures.desk

pub returns-then-on_report-clause-handled : goal.returns-then-on_report-clause-handled
returns-then-on_report-clause-handled g c =
    let awaited : is_some (awaited_of c.on_report.new.self) ≡ true = sym c.on_report.ensures.awaits ∙ c.if-on_report.true in
    handled-report c.args.session.now c.on_report.new.self (g.D.TakesCommands.desk_of c.args.desk.now) (text_of c.args.frame.now) c.args.said.now c.sending_by-now.result
    c.submit_report.result c.sending_by-now.ensures (c.on_report.ensures.taken c.if-on_report.true) c.on_report.ensures.peer awaited c.requires.said c.submit_report.ensures.handled

pub returns-then-on_report-clause-err : goal.returns-then-on_report-clause-err
returns-then-on_report-clause-err g c =
    let awaited : is_some (awaited_of c.on_report.new.self) ≡ true = sym c.on_report.ensures.awaits ∙ c.if-on_report.true in
    let takes = report-takes c.args.session.now c.on_report.new.self (text_of c.args.frame.now) c.args.said.now c.sending_by-now.result
    c.sending_by-now.ensures (c.on_report.ensures.taken c.if-on_report.true) c.on_report.ensures.peer awaited c.requires.said in
    subst (λ commands. IfErr c.submit_report.result (Stopped (g.D.TakesCommands.desk_of c.args.desk.now) (g.D.TakesCommands.desk_of c.submit_report.new.desk) commands))
    (sym takes) c.submit_report.ensures.err

pub returns-clause-desk : goal.returns-clause-desk
returns-clause-desk g c =
    let given = given-after c.args.session.now c.on_report.new.self (text_of c.args.frame.now) c.args.said.now c.sending_by-now.result _
    (c.on_report.ensures.other c.if-on_report.false) c.in-Ok.ensures.ok c.requires.said in
    let takes = frame-takes c.args.session.now c.on_said.new.self (text_of c.args.frame.now) c.in-Ok.actions.items c.sending_by-now.result
    c.sending_by-now.ensures given c.in-Ok.ensures.awaits in
    subst (λ commands. OnOk c.take_delivered.result (g.D.TakesCommands.desk_of c.take_delivered.new.desk ≡ submitted (g.D.TakesCommands.desk_of c.args.desk.now) commands))
    (sym takes) c.take_delivered.ensures.desk

pub returns-clause-handled : goal.returns-clause-handled
returns-clause-handled g c =
    handled-frame c.args.session.now c.on_said.new.self (g.D.TakesCommands.desk_of c.args.desk.now) (text_of c.args.frame.now) c.in-Ok.actions.items c.sending_by-now.result
    c.take_delivered.result c.sending_by-now.ensures
    (given-after c.args.session.now c.on_report.new.self (text_of c.args.frame.now) c.args.said.now c.sending_by-now.result _
    (c.on_report.ensures.other c.if-on_report.false) c.in-Ok.ensures.ok c.requires.said)
    c.in-Ok.ensures.awaits c.take_delivered.ensures.handled

pub returns-clause-err : goal.returns-clause-err
returns-clause-err g c =
    let given = given-after c.args.session.now c.on_report.new.self (text_of c.args.frame.now) c.args.said.now c.sending_by-now.result _
    (c.on_report.ensures.other c.if-on_report.false) c.in-Ok.ensures.ok c.requires.said in
    let takes = frame-takes c.args.session.now c.on_said.new.self (text_of c.args.frame.now) c.in-Ok.actions.items c.sending_by-now.result
    c.sending_by-now.ensures given c.in-Ok.ensures.awaits in
    subst (λ commands. IfErr c.take_delivered.result (Stopped (g.D.TakesCommands.desk_of c.args.desk.now) (g.D.TakesCommands.desk_of c.take_delivered.new.desk) commands))
    (sym takes) c.take_delivered.ensures.err
