use Rattle.std.proofs.Common.{◌≡◌, length, Err, sym, ap, ◌∙◌, arith, rules}
use Rattle.blot_tag.specs.Looking.{open_size}
use Rattle.blot_tag.proofs.SizeLemmas.{size_of_at_soh, size_of_at_digit, size_of_at_end}
use Rattle.blot_tag.proofs.look.size_of.Goals as goal

pub returns-then-byte-eq-SOH-clause-value : goal.returns-then-byte-eq-SOH-clause-value
returns-then-byte-eq-SOH-clause-value c =
    let at = c.loop-count in
    c.whole_size.ensures.value
    ∙ sym (at.invariant.0 ∙ size_of_at_soh at.count at.size c.args.rest.now at.count c.loop-count-test.true c.if-byte-eq-SOH.true)

pub returns-in_err-size-clause-value : goal.returns-in_err-size-clause-value
returns-in_err-size-clause-value c =
    let at = c.loop-count in
    let fault = at.invariant.0 ∙ size_of_at_digit at.count at.size c.args.rest.now at.count _ c.loop-count-test.true c.if-byte-eq-SOH.false c.in_err-size.ensures.value in
    search rules

pub loop-count-preserved : goal.loop-count-preserved
loop-count-preserved c =
    let at = c.loop-count in (
      at.invariant.0 ∙ size_of_at_digit at.count at.size c.args.rest.now at.count _ c.loop-count-test.true c.if-byte-eq-SOH.false c.in_ok-size.ensures.value,
      c.in_ok-size.ensures.low,
    )

pub returns-clause-value : goal.returns-clause-value
returns-clause-value c =
    let at = c.loop-count in
    let all : length c.args.rest.now ≡ at.count = omega arith in
    ap Err (c.open_size.ensures ∙ ap (λ count. open_size count at.size) all)
    ∙ sym (at.invariant.0 ∙ size_of_at_end at.count at.size c.args.rest.now at.count c.loop-count-test.false)
