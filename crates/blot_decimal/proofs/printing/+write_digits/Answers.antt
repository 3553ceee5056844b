use Rattle.std.proofs.Common.{◌<◌, arith}
use Rattle.std.proofs.lemmas.Grind.{common_steps}
use Rattle.blot_decimal.proofs.PrintLemmas.{fraction_digits-more, places_above}
use Rattle.blot_decimal.proofs.printing.+write_digits.Goals as goal

pub returns : goal.returns
returns g t c =
    let more : 0 < c.args.rest = omega arith in
    let above = places_above c.args.places c.args.rest c.requires.rest more in
    rw (fraction_digits-more c.args.places c.args.rest above more) (grind (arith, common_steps))
