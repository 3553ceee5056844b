use Rattle.std.proofs.Common.{◌∷◌}
use Rattle.blot_tag.specs.Walking.{rest_of}
use Rattle.blot_types.proofs.GeneralLemmas.{on-ok, if-err}
use Rattle.blot_session.specs.Runs.Call.{Tick}
use Rattle.blot_gateway.specs.Progress.{TakesFed, TakesFedLast}
use Rattle.blot_gateway.specs.Serving.{due_behind, parties}
use Rattle.blot_gateway.specs.Serving.Due.{Passed}
use Rattle.blot_gateway.specs.Sending.{Halted}
use Rattle.blot_gateway.proofs.ServingLemmas.{runs-fed, ends-fed}
use Rattle.blot_gateway.proofs.parties.Parties.take_fed.Goals as goal

pub returns-in-Ok-clause-ok : goal.returns-in-Ok-clause-ok
returns-in-Ok-clause-ok g c =
    let a = c.args.self.now in
    let b = c.take_frames.new.self in
    let d = parties c.pass_moment.new.wire c.pass_moment.new.clock c.take_frames.new.self.sink c.pass_moment.new.session in
    let unread = c.args.reader.now.unread in
    on-ok {Q = TakesFed g.W.Wire.does g.C.Clock.ticks g.S.FrameSink.takes a unread d c.take_frames.new.reader.unread} c.pass_moment.result c.pass_moment.ensures.ok
    (λ called more. runs-fed g.W.Wire.does g.C.Clock.ticks g.S.FrameSink.takes a b unread c.take_frames.new.reader.unread more
    c.pass_moment.new.wire c.pass_moment.new.clock c.pass_moment.new.session c.in-Ok.ensures.rest c.take_frames.ensures.idle
    (c.in-Ok.ensures.ok (Passed ∷ due_behind (rest_of unread) more)) called)

pub returns-in-Ok-clause-err : goal.returns-in-Ok-clause-err
returns-in-Ok-clause-err g c =
    let a = c.args.self.now in
    let b = c.take_frames.new.self in
    let d = parties c.pass_moment.new.wire c.pass_moment.new.clock c.take_frames.new.self.sink c.pass_moment.new.session in
    let unread = c.args.reader.now.unread in
    if-err
    (Halted g.W.Wire.does g.C.Clock.ticks Tick c.take_frames.new.self.wire c.take_frames.new.self.clock c.take_frames.new.self.session
    c.pass_moment.new.wire c.pass_moment.new.clock c.pass_moment.new.session)
    (TakesFedLast g.W.Wire.does g.C.Clock.ticks g.S.FrameSink.takes a unread d)
    c.pass_moment.result c.pass_moment.ensures.err
    (λ stop halted more. ends-fed g.W.Wire.does g.C.Clock.ticks g.S.FrameSink.takes stop a b unread more
    c.pass_moment.new.wire c.pass_moment.new.clock c.pass_moment.new.session c.take_frames.ensures.idle
    (c.in-Ok.ensures.ok (Passed ∷ due_behind (rest_of unread) more)) halted)

pub returns-in-Err-clause-err : goal.returns-in-Err-clause-err
returns-in-Err-clause-err g c = λ more. c.in-Err.ensures.err (Passed ∷ due_behind (rest_of c.args.reader.now.unread) more)
