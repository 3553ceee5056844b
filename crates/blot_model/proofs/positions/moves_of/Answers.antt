use Rattle.std.proofs.Common.{◌≡◌, ◌+◌, ◌*◌, arith, ◌∷◌, [], take, ap, sym, ◌∙◌, flat_map, append-nil}
use Rattle.std.proofs.lemmas.Grind.{flat_map-append}
use Rattle.blot_types.specs.Position.{moves_of_line}
use Rattle.blot_model.specs.Sums.{sums_at, units_of}
use Rattle.blot_model.proofs.PositionLemmas.{sums-more, units-more, up_to-joined}
use Rattle.blot_model.proofs.positions.moves_of.Goals as goal

pub loop-line-preserved : goal.loop-line-preserved
loop-line-preserved c =
    let moves = moves_of_line c.args.terms.now in
    let lines = c.as_slice-line-items.result.now in
    let index = c.loop-line.line-index in
    let line = c.line-item.result in
    let more : units_of (take (index + 1) lines) ≡ units_of (take index lines) + line.qty = units-more lines index line c.loop-line-test.true c.line-item.is in
    let one : c.moves_of_line.result ≡ sums_at c.args.account.now c.args.symbol.now (flat_map moves (line ∷ [])) =
    c.moves_of_line.ensures.sums ∙ ap (sums_at c.args.account.now c.args.symbol.now) (sym (append-nil (moves line))) in
    record {
      sums = c.joined-sums.ensures ∙ sums-more (flat_map moves) (flat_map-append moves) c.args.account.now c.args.symbol.now lines index line c.loop-line.sums c.moves_of_line.result
          c.loop-line-test.true c.line-item.is c.loop-line.invariant.sums one;
      few = up_to-joined (2 * units_of (take index lines)) (2 * line.qty) (2 * units_of (take (index + 1) lines)) c.loop-line.sums c.moves_of_line.result c.joined-sums.result
          c.joined-sums.ensures c.loop-line.invariant.few c.moves_of_line.ensures.small (omega (arith, more));
      units = omega (arith, more, c.loop-line.invariant.units, c.moves_of_line.ensures.range);
    }
