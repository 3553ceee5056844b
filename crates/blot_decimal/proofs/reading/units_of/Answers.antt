use Rattle.std.proofs.Common.{◌^◌}
use Rattle.blot_decimal.proofs.SizeLemmas.{units_by_parts}
use Rattle.blot_decimal.proofs.reading.units_of.Goals as goal

pub returns : goal.returns
returns c =
    let parts = units_by_parts (10 ^ 16) c.args.places c.args.whole.now c.args.kept.now c.requires.kept_fits in
    cc
