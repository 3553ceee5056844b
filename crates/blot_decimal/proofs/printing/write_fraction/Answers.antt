use Rattle.std.proofs.Common.{◌<◌, arith}
use Rattle.std.proofs.lemmas.Grind.{common_steps}
use Rattle.blot_decimal.proofs.PrintLemmas.{behind_point-more, places_above}
use Rattle.blot_decimal.proofs.printing.write_fraction.Goals as goal

pub returns : goal.returns
returns g c =
    let more : 0 < c.args.rest = omega arith in
    let above = places_above c.args.places c.args.rest c.requires.rest more in
    rw (behind_point-more c.args.places c.args.rest above more) (grind (arith, common_steps))
