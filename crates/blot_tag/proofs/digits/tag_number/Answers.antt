use Rattle.std.proofs.Common.{arith, rules}
use Rattle.blot_tag.specs.Bytes.{tag_number}
use Rattle.blot_tag.proofs.ByteLemmas.{tag_number-lt}
use Rattle.blot_tag.proofs.digits.tag_number.Goals as goal

pub overflow_cast-result : goal.overflow_cast-result
overflow_cast-result c =
    let small = tag_number-lt c.args.bytes.now (search rules) (search rules) in
    omega arith

pub returns : goal.returns
unfolding tag_number
returns c =
    let small = tag_number-lt c.args.bytes.now (search rules) (search rules) in
    search rules
