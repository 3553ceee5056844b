use Rattle.std.proofs.Common.{◌++◌, sym, ap, ◌∙◌}
use Rattle.blot_console.specs.Founds.{line_by, refusal_text}
use Rattle.blot_console.proofs.MakerLemmas.{lines_on}
use Rattle.blot_console.proofs.found.refusals_text.Goals as goal

pub loop-place-preserved : goal.loop-place-preserved
loop-place-preserved c =
    let row = c.index-rows-place.result in
    let maker = c.maker_at.result in
    c.in_ok-put_refusal_by.ensures ∙ ap (λ front. front ++ line_by (refusal_text row) maker) c.loop-place.invariant
    ∙ sym (lines_on refusal_text c.args.rows.now c.args.makers.now c.loop-place.place row maker c.loop-place-test.true c.index-rows-place.is c.maker_at.ensures)
