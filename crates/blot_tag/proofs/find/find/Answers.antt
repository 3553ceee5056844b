use Rattle.std.proofs.Common.{drop, arith, sym, length-drop}
use Rattle.blot_tag.proofs.FrameLemmas.{look_of-ok}
use Rattle.blot_tag.proofs.FindLemmas.{neither-inside, NeitherBefore-next}
use Rattle.blot_tag.proofs.find.find.Goals as goal

pub next_start-place-requires : goal.next_start-place-requires
next_start-place-requires c =
    let neither = sym (rw c.in-Err-Neither.field-0-is at c.in-Err-Neither.ensures.value) in
    omega (arith, neither-inside c.args.text.now c.loop-length.place neither)

pub loop-length-preserved : goal.loop-length-preserved
loop-length-preserved c =
    let neither = sym (rw c.in-Err-Neither.field-0-is at c.in-Err-Neither.ensures.value) in (
      c.next_start-place.ensures.high,
      NeitherBefore-next c.args.text.now c.loop-length.place _ c.loop-length.invariant.1 neither c.next_start-place.ensures,
      c.in-Err-Neither.ensures.known,
    )

pub returns-in-Ok : goal.returns-in-Ok
returns-in-Ok c =
    let text = c.args.text.now in
    let place = c.loop-length.place in
    let here = sym c.in-Ok.ensures.value in
    record {
      inside = omega (arith, (look_of-ok (drop place text) c.in-Ok.length here).inside, length-drop place text, c.loop-length.invariant.0);
      before = c.loop-length.invariant.1;
      here = here;
    }
