use Rattle.std.proofs.Common.{[], ◌++◌, ap, subst}
use Rattle.blot_types.proofs.GeneralLemmas.{if-err}
use Rattle.blot_gateway.specs.Progress.{TakesFedLast}
use Rattle.blot_gateway.specs.Serving.{due_fed}
use Rattle.blot_gateway.proofs.RunLemmas.{runs-nowhere, ends-there}
use Rattle.blot_gateway.proofs.parties.Parties.take_piece.Goals as goal

pub returns-in-Ok-clause-err : goal.returns-in-Ok-clause-err
returns-in-Ok-clause-err g c =
    let a = c.args.self.now in
    let b = c.take_fed.new.self in
    let fed = ap (λ reading. reading.unread) c.in-Ok.ensures.ok in
    if-err
    (TakesFedLast g.W.Wire.does g.C.Clock.ticks g.S.FrameSink.takes a c.feed.new.self.unread b)
    (TakesFedLast g.W.Wire.does g.C.Clock.ticks g.S.FrameSink.takes a (c.args.reader.now.unread ++ c.args.piece.now) b)
    c.take_fed.result c.take_fed.ensures.err
    (λ stop ends. subst (λ unread. TakesFedLast g.W.Wire.does g.C.Clock.ticks g.S.FrameSink.takes a unread b stop) fed ends)

pub returns-in-Err-clause-err : goal.returns-in-Err-clause-err
returns-in-Err-clause-err g c =
    let a = c.args.self.now in
    λ more.
    let due = due_fed (c.args.reader.now.unread ++ c.args.piece.now) more in
    ends-there g.W.Wire.does g.C.Clock.ticks g.S.FrameSink.takes a a due due [] (runs-nowhere g.W.Wire.does g.C.Clock.ticks g.S.FrameSink.takes a due)
