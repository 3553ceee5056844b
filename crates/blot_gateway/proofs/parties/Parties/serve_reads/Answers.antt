use Rattle.std.proofs.Common.{◌≡◌, subst, arith}
use Rattle.blot_gateway.proofs.ServingLemmas.{Serves, serves-none, serves-more, serves-end, serves-long, ends-no-memory}
use Rattle.blot_gateway.proofs.parties.Parties.serve_reads.Goals as goal

pub returns-in_default-clause-ends : goal.returns-in_default-clause-ends
returns-in_default-clause-ends g c =
    let a = c.args.self.now in
    ends-no-memory g.W.Wire.does g.C.Clock.ticks g.S.FrameSink.takes c.args.reads a c.args.reader.now.unread

pub loop-init : goal.loop-init
loop-init g c =
    let a = c.args.self.now in (
      serves-none g.W.Wire.does g.C.Clock.ticks g.S.FrameSink.takes a c.args.reader.now.unread,
      c.requires,
      omega arith,
      omega (arith, c.in-Ok.ensures),
    )

pub returns-in-Err-clause-ends : goal.returns-in-Err-clause-ends
returns-in-Err-clause-ends g c =
    let a = c.args.self.now in
    let b = c.loop.self in
    let d = c.serve_read.new.self in
    let ends = c.in-Err.ensures.err in
    serves-end g.W.Wire.does g.C.Clock.ticks g.S.FrameSink.takes c.args.reads c.in-Err.ended a b d c.args.reader.now.unread c.loop.reader.unread c.loop.counter ends.0 (omega (arith, c.loop-test.true)) c.in-Err.ensures.not_long
    c.loop.invariant.0 ends.1

pub loop-preserved : goal.loop-preserved
loop-preserved g c =
    let a = c.args.self.now in
    let b = c.loop.self in
    let d = c.serve_read.new.self in
    let runs = c.in-Ok-serve_read.ensures.ok in (
      serves-more g.W.Wire.does g.C.Clock.ticks g.S.FrameSink.takes a b d c.args.reader.now.unread c.loop.reader.unread c.serve_read.new.reader.unread c.loop.counter runs.0
          c.loop.invariant.0 runs.1,
      c.serve_read.ensures.idle,
      omega (arith, c.loop.invariant.2, c.serve_read.ensures.failures),
      c.loop.invariant.3,
    )

pub returns-clause-ends : goal.returns-clause-ends
returns-clause-ends g c =
    let a = c.args.self.now in
    let b = c.loop.self in
    let all : c.loop.counter ≡ c.args.reads = omega (arith, c.loop-test.false, c.loop.auto.counter-end) in
    serves-long g.W.Wire.does g.C.Clock.ticks g.S.FrameSink.takes c.args.reads a b c.args.reader.now.unread c.loop.reader.unread
    (subst (λ count. Serves g.W.Wire.does g.C.Clock.ticks g.S.FrameSink.takes a c.args.reader.now.unread count b c.loop.reader.unread) all c.loop.invariant.0)
