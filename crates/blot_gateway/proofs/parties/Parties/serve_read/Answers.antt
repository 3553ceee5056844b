use Rattle.std.proofs.Common.{[], ◌∷◌, ◌++◌, take, refl}
use Rattle.blot_session.specs.Runs.Call.{Tick}
use Rattle.blot_gateway.specs.Progress.{ServesRead, ServesReadLast, TakesFedLast}
use Rattle.blot_gateway.specs.Wires.Read.{Piece, Silence, AtEnd, Failed}
use Rattle.blot_gateway.specs.Serving.{due_behind, due_fed, parties}
use Rattle.blot_gateway.specs.Serving.Due.{Passed}
use Rattle.blot_gateway.specs.Sending.{Halted}
use Rattle.blot_gateway.proofs.StepLemmas.{ok-through, err-through}
use Rattle.blot_gateway.proofs.RunLemmas.{tick-call, runs-one, ends-one}
use Rattle.blot_gateway.proofs.ServingLemmas.{runs-behind-read, ends-behind-read, ends-at-end, ends-failed}
use Rattle.blot_gateway.proofs.parties.Parties.serve_read.Goals as goal

pub returns-in-Got-clause-ok : goal.returns-in-Got-clause-ok
returns-in-Got-clause-ok g c =
    let a = c.args.self.now in
    let b = c.take_piece.new.self in
    let piece = take c.in-Got.count c.read_some.new.buffer in
    let gave = c.in-Got.ensures.gave in
    ok-through {Q = ServesRead g.W.Wire.does g.C.Clock.ticks g.S.FrameSink.takes a c.args.reader.now.unread b c.take_piece.new.reader.unread} c.end_of.result c.take_piece.result c.end_of.ensures.ok c.take_piece.ensures.ok
    (λ runs. (
      Piece piece,
      λ more. runs-behind-read g.W.Wire.does g.C.Clock.ticks g.S.FrameSink.takes (Piece piece) a b (due_fed (c.args.reader.now.unread ++ piece) more)
          (due_behind c.take_piece.new.reader.unread more) c.read_some.new.self gave (runs more),
    ))

pub returns-in-Got-clause-err : goal.returns-in-Got-clause-err
returns-in-Got-clause-err g c =
    let a = c.args.self.now in
    let m = parties c.read_some.new.self c.args.self.now.clock c.args.self.now.sink c.args.self.now.session in
    let b = c.take_piece.new.self in
    let piece = take c.in-Got.count c.read_some.new.buffer in
    let gave = c.in-Got.ensures.gave in
    err-through
    (TakesFedLast g.W.Wire.does g.C.Clock.ticks g.S.FrameSink.takes m (c.args.reader.now.unread ++ piece) b)
    (ServesReadLast g.W.Wire.does g.C.Clock.ticks g.S.FrameSink.takes a c.args.reader.now.unread b)
    c.end_of.result c.take_piece.result c.end_of.ensures.err c.take_piece.ensures.err
    (λ stop ends. (
      Piece piece,
      λ more. ends-behind-read g.W.Wire.does g.C.Clock.ticks g.S.FrameSink.takes stop (Piece piece) a b (due_fed (c.args.reader.now.unread ++ piece) more)
          c.read_some.new.self gave (ends more),
    ))

pub returns-in-Quiet-clause-ok : goal.returns-in-Quiet-clause-ok
returns-in-Quiet-clause-ok g c =
    let a = c.args.self.now in
    let m = parties c.read_some.new.self c.args.self.now.clock c.args.self.now.sink c.args.self.now.session in
    let b = parties c.pass_moment.new.wire c.pass_moment.new.clock c.args.self.now.sink c.pass_moment.new.session in
    let unread = c.args.reader.now.unread in
    ok-through {Q = ServesRead g.W.Wire.does g.C.Clock.ticks g.S.FrameSink.takes a unread b unread} c.end_of-in-Quiet.result c.pass_moment.result c.end_of-in-Quiet.ensures.ok c.pass_moment.ensures.ok
    (λ called. (
      Silence,
      λ more. runs-behind-read g.W.Wire.does g.C.Clock.ticks g.S.FrameSink.takes Silence a b (Passed ∷ due_behind unread more) (due_behind unread more)
          c.read_some.new.self c.in-Quiet.ensures.gave
          (runs-one g.W.Wire.does g.C.Clock.ticks g.S.FrameSink.takes Tick m b (Passed ∷ []) (due_behind unread more) (λ _ _. [])
          (tick-call c.args.self.now.session c.requires.idle) called refl),
    ))

pub returns-in-Quiet-clause-err : goal.returns-in-Quiet-clause-err
returns-in-Quiet-clause-err g c =
    let a = c.args.self.now in
    let m = parties c.read_some.new.self c.args.self.now.clock c.args.self.now.sink c.args.self.now.session in
    let b = parties c.pass_moment.new.wire c.pass_moment.new.clock c.args.self.now.sink c.pass_moment.new.session in
    let unread = c.args.reader.now.unread in
    err-through
    (Halted g.W.Wire.does g.C.Clock.ticks Tick c.read_some.new.self c.args.self.now.clock c.args.self.now.session c.pass_moment.new.wire c.pass_moment.new.clock c.pass_moment.new.session)
    (ServesReadLast g.W.Wire.does g.C.Clock.ticks g.S.FrameSink.takes a unread b)
    c.end_of-in-Quiet.result c.pass_moment.result c.end_of-in-Quiet.ensures.err c.pass_moment.ensures.err
    (λ stop halted. (
      Silence,
      λ more. ends-behind-read g.W.Wire.does g.C.Clock.ticks g.S.FrameSink.takes stop Silence a b (Passed ∷ due_behind unread more)
          c.read_some.new.self c.in-Quiet.ensures.gave
          (ends-one g.W.Wire.does g.C.Clock.ticks g.S.FrameSink.takes stop Tick m b (Passed ∷ []) (due_behind unread more) (λ _ _. [])
          (tick-call c.args.self.now.session c.requires.idle) halted refl),
    ))

pub returns-in-End-clause-err : goal.returns-in-End-clause-err
returns-in-End-clause-err g c =
    let a = c.args.self.now in
    (AtEnd, λ more. ends-at-end g.W.Wire.does g.C.Clock.ticks g.S.FrameSink.takes a c.read_some.new.self c.in-End.ensures.gave)

pub returns-in-Fault-clause-err : goal.returns-in-Fault-clause-err
returns-in-Fault-clause-err g c =
    let a = c.args.self.now in
    (Failed, λ more. ends-failed g.W.Wire.does g.C.Clock.ticks g.S.FrameSink.takes a c.read_some.new.self c.in-Fault.ensures.gave)
