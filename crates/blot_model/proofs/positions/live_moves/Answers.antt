use Rattle.std.proofs.Common.{◌≡◌, ◌*◌, ◌^◌, ◌≤◌, pos, arith, sym, ◌∙◌}
use Rattle.std.proofs.lemmas.Int.{ints}
use Rattle.blot_model.specs.Sums.{units_of}
use Rattle.blot_model.proofs.PositionLemmas.{up_to-weaker, booked-units}
use Rattle.blot_model.proofs.positions.live_moves.Goals as goal

pub returns-clause-few : goal.returns-clause-few
returns-clause-few c =
    let lines = c.args.terms.now.lines in
    let is : pos (units_of lines) ≡ pos c.args.terms.now.block = sym (booked-units lines) ∙ c.requires in
    let within : units_of lines ≤ 10 ^ 16 = omega (arith, ints, is, c.units-block.ensures.value, c.units-block.ensures.range) in
    up_to-weaker (2 * units_of lines) (2 * 10 ^ 16) c.moves_of.result (omega (arith, within)) c.moves_of.ensures.few
