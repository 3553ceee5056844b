use Rattle.std.proofs.Common.{ap, subst, ◌∙◌, Ok}
use Rattle.blot_tag.specs.Reading.{Leaves, TakesFirst, FindsNone}
use Rattle.blot_tag.specs.Views.{text_of}
use Rattle.blot_capture.specs.Sessions.{sessions_of, taking_of}
use Rattle.blot_capture.proofs.StreamLemmas.{taken-frame, taken-none, stopped-frame, frames-rest}
use Rattle.blot_capture.proofs.intake.take_frames.Goals as goal

pub loop-frame-preserved : goal.loop-frame-preserved
loop-frame-preserved g c =
    let left = c.next.follows.lender-at-none in
    let frame = text_of c.in-Some.frame in
    let takes : TakesFirst c.loop-frame.reader frame left =
    subst (λ given. Leaves c.loop-frame.reader given left) (c.in_ok-frame.was ∙ ap (λ found. Ok found) c.in-Some.is) c.next.follows.holds-at-none in
    let from = taking_of c.args.sessions.now (g.D.TakesCommands.desk_of c.args.desk.now) in
    let before = taking_of c.loop-frame.sessions (g.D.TakesCommands.desk_of c.loop-frame.desk) in
    λ more.
    taken-frame from before c.args.reader.now.unread c.loop-frame.reader left frame more (sessions_of c.take_frame.new.sessions) (g.D.TakesCommands.desk_of c.take_frame.new.desk) takes
    (c.loop-frame.invariant more) c.in-Ok.ensures.sessions c.in-Ok.ensures.desk

pub returns-in-Err-clause-err : goal.returns-in-Err-clause-err
returns-in-Err-clause-err g c =
    let left = c.next.follows.lender-at-none in
    let frame = text_of c.in-Some.frame in
    let takes : TakesFirst c.loop-frame.reader frame left =
    subst (λ given. Leaves c.loop-frame.reader given left) (c.in_ok-frame.was ∙ ap (λ found. Ok found) c.in-Some.is) c.next.follows.holds-at-none in
    let from = taking_of c.args.sessions.now (g.D.TakesCommands.desk_of c.args.desk.now) in
    let before = taking_of c.loop-frame.sessions (g.D.TakesCommands.desk_of c.loop-frame.desk) in
    λ more.
    stopped-frame c.in-Err.fault from before c.args.reader.now.unread c.loop-frame.reader left frame more (g.D.TakesCommands.desk_of c.take_frame.new.desk) takes
    (c.loop-frame.invariant more) c.in-Err.ensures.err

pub returns-clause-drained : goal.returns-clause-drained
returns-clause-drained g c =
    let left = c.next.follows.lender-at-none in
    let none : FindsNone c.loop-frame.reader left =
    subst (λ given. Leaves c.loop-frame.reader given left) (c.in_ok-frame.was ∙ ap (λ found. Ok found) c.in_default.is) c.next.follows.holds-at-none in
    frames-rest c.loop-frame.reader left none

pub returns-clause-came : goal.returns-clause-came
returns-clause-came g c =
    let left = c.next.follows.lender-at-none in
    let none : FindsNone c.loop-frame.reader left =
    subst (λ given. Leaves c.loop-frame.reader given left) (c.in_ok-frame.was ∙ ap (λ found. Ok found) c.in_default.is) c.next.follows.holds-at-none in
    let from = taking_of c.args.sessions.now (g.D.TakesCommands.desk_of c.args.desk.now) in
    let now = taking_of c.loop-frame.sessions (g.D.TakesCommands.desk_of c.loop-frame.desk) in
    λ more. taken-none from now c.args.reader.now.unread c.loop-frame.reader left more none (c.loop-frame.invariant more)
