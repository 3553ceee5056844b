use Rattle.std.proofs.Common.{Ok, refl, sym, ap, subst, ◌∙◌, arith}
use Rattle.blot_tag.specs.Reading.{Leaves, TakesFirst}
use Rattle.blot_tag.specs.Views.{text_of}
use Rattle.blot_gateway.specs.Endings.{ended_by}
use Rattle.blot_gateway.proofs.RunLemmas.{runs-nowhere}
use Rattle.blot_gateway.proofs.ServingLemmas.{left_in, rest-first, runs-frame, ends-frame}
use Rattle.blot_gateway.proofs.parties.Parties.take_frames.Goals as goal

pub loop-frame-init : goal.loop-frame-init
loop-frame-init g c =
    let a = c.args.self.now in (
      λ more. runs-nowhere g.W.Wire.does g.C.Clock.ticks g.S.FrameSink.takes a (left_in c.args.reader.now more),
      refl,
      c.requires,
      omega arith,
    )

pub loop-frame-preserved : goal.loop-frame-preserved
loop-frame-preserved g c =
    let left = c.next.follows.lender-at-none in
    let frame = text_of c.in-Some.frame in
    let takes : TakesFirst c.loop-frame.reader frame left =
    subst (λ given. Leaves c.loop-frame.reader given left) (c.in_ok-frame.was ∙ ap (λ found. Ok found) c.in-Some.is) c.next.follows.holds-at-none in
    let a = c.args.self.now in
    let b = c.loop-frame.self in
    let d = c.take_frame.new.self in (
      λ more. runs-frame g.W.Wire.does g.C.Clock.ticks g.S.FrameSink.takes a b d (left_in c.args.reader.now more) more c.loop-frame.reader left frame takes
          (c.loop-frame.invariant.0 more) (c.in-Ok.ensures.ok (left_in left more)),
      sym (rest-first c.loop-frame.reader left frame takes) ∙ c.loop-frame.invariant.1,
      c.take_frame.ensures.idle,
      omega (arith, c.loop-frame.invariant.3, c.take_frame.ensures.failures),
    )

pub returns-in-Err-clause-err : goal.returns-in-Err-clause-err
returns-in-Err-clause-err g c =
    let left = c.next.follows.lender-at-none in
    let frame = text_of c.in-Some.frame in
    let takes : TakesFirst c.loop-frame.reader frame left =
    subst (λ given. Leaves c.loop-frame.reader given left) (c.in_ok-frame.was ∙ ap (λ found. Ok found) c.in-Some.is) c.next.follows.holds-at-none in
    let a = c.args.self.now in
    let b = c.loop-frame.self in
    let d = c.take_frame.new.self in
    λ more. ends-frame g.W.Wire.does g.C.Clock.ticks g.S.FrameSink.takes (ended_by c.in-Err.stop) a b d (left_in c.args.reader.now more) more c.loop-frame.reader left frame takes
    (c.loop-frame.invariant.0 more) (c.in-Err.ensures.err (left_in left more))
