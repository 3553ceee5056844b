use Rattle.std.proofs.Common.{◌≡◌, ◌≤◌, ◌∙◌, refl, sym, subst, arith, length, None, take_all}
use Rattle.blot_capture.specs.Sessions.{session_among}
use Rattle.blot_capture.proofs.LookupLemmas.{among-more, is_at, text-in}
use Rattle.blot_capture.proofs.sessions.place_out.Goals as goal

pub loop-place-init : goal.loop-place-init
loop-place-init c = refl

pub loop-place-preserved : goal.loop-place-preserved
loop-place-preserved c =
    among-more c.args.sender.now c.args.out.now c.loop-place.place c.index-out-place.result (omega (arith, c.loop-place-test.true)) c.index-out-place.is c.loop-place.invariant
    (sym c.is_of.ensures.same ∙ c.if-is_of.false)

pub returns-then-is_of : goal.returns-then-is_of
returns-then-is_of c =
    record {
      text = text-in c.args.sender.now (c.is_of.ensures.text c.if-is_of.true);
      at = is_at c.args.sender.now c.args.out.now c.loop-place.place c.index-out-place.result (omega (arith, c.loop-place-test.true)) c.index-out-place.is c.loop-place.invariant
          (sym c.is_of.ensures.same ∙ c.if-is_of.true);
    }

pub returns : goal.returns
returns c =
    let past : length c.args.out.now ≤ c.loop-place.place = omega (arith, c.loop-place-test.false) in
    subst (λ sessions. session_among c.args.sender.now sessions ≡ None) (take_all c.loop-place.place c.args.out.now past) c.loop-place.invariant
