use Rattle.std.proofs.Common.{◌≡◌, ◌<◌, ◌^◌, ◌++◌, min, drop, true, false, sym, ap, ◌∙◌, arith}
use Rattle.blot_decimal.specs.Text.{whole_of, fraction_of, are_digits, are_zeros, is_size, number_of}
use Rattle.blot_decimal.specs.Meaning.{kept_of, limited}
use Rattle.blot_decimal.proofs.SizeLemmas.{size_of-format, size_of-too_fine, size_of-units, limited_small, limited_large, kept_of-take_min, drop-min_turned, are_digits-from_parts, are_digits-take}
use Rattle.blot_decimal.proofs.reading.read_size.Goals as goal

pub returns-then-not-are_parts : goal.returns-then-not-are_parts
returns-then-not-are_parts c =
    let form : is_size c.args.size.now ≡ false = cc in
    sym (ap limited (size_of-format c.args.places c.args.size.now form))

pub returns-then-not-are_zeros : goal.returns-then-not-are_zeros
returns-then-not-are_zeros c =
    let form : is_size c.args.size.now ≡ true = cc in
    let turned = drop-min_turned c.args.places (fraction_of c.args.size.now) in
    let past : are_zeros (drop c.args.places (fraction_of c.args.size.now)) ≡ false = cc in
    sym (ap limited (size_of-too_fine c.args.places c.args.size.now form past))

pub units_of-units-requires-clause-whole_digits : goal.units_of-units-requires-clause-whole_digits
units_of-units-requires-clause-whole_digits c = (are_digits-from_parts c.split_point.result.0.now c.split_point.result.1.now (cc)).0

pub units_of-units-requires-clause-kept_digits : goal.units_of-units-requires-clause-kept_digits
units_of-units-requires-clause-kept_digits c =
    let digits = (are_digits-from_parts c.split_point.result.0.now c.split_point.result.1.now (cc)).1 in
    let kept = are_digits-take c.min.result c.split_point.result.1.now digits in
    let known : are_digits c.split_at.result.0.now ≡ true = cc in known

pub returns-then-units-eq-SIZE_LIMIT : goal.returns-then-units-eq-SIZE_LIMIT
returns-then-units-eq-SIZE_LIMIT c =
    let form : is_size c.args.size.now ≡ true = cc in
    let turned = drop-min_turned c.args.places (fraction_of c.args.size.now) in
    let past : are_zeros (drop c.args.places (fraction_of c.args.size.now)) ≡ true = cc in
    let kept = kept_of-take_min c.args.places (fraction_of c.args.size.now) in
    let units : c.units_of-units.result ≡ min (number_of (whole_of c.args.size.now ++ kept_of c.args.places (fraction_of c.args.size.now))) (10 ^ 16) = cc in
    sym (ap limited (size_of-units c.args.places c.args.size.now form past)
    ∙ limited_large (number_of (whole_of c.args.size.now ++ kept_of c.args.places (fraction_of c.args.size.now))) (omega (arith, units, c.if-units-eq-SIZE_LIMIT.true)))

pub returns : goal.returns
returns c =
    let form : is_size c.args.size.now ≡ true = cc in
    let turned = drop-min_turned c.args.places (fraction_of c.args.size.now) in
    let past : are_zeros (drop c.args.places (fraction_of c.args.size.now)) ≡ true = cc in
    let kept = kept_of-take_min c.args.places (fraction_of c.args.size.now) in
    let units : c.units_of-units.result ≡ min (number_of (whole_of c.args.size.now ++ kept_of c.args.places (fraction_of c.args.size.now))) (10 ^ 16) = cc in
    let small : number_of (whole_of c.args.size.now ++ kept_of c.args.places (fraction_of c.args.size.now)) < 10 ^ 16 = omega (arith, units, c.if-units-eq-SIZE_LIMIT.false) in
    let same : c.units_of-units.result ≡ number_of (whole_of c.args.size.now ++ kept_of c.args.places (fraction_of c.args.size.now)) = omega (arith, units) in
    let result = ap limited (size_of-units c.args.places c.args.size.now form past) ∙ limited_small _ small in cc
