use Rattle.std.proofs.Common.{◌+◌, length, Ok, sym, ap, ◌∙◌, arith}
use Rattle.std.proofs.lemmas.Result.{err_from_is_err_and}
use Rattle.blot_console.specs.Allocate.{lines_of}
use Rattle.blot_console.specs.Block.{kept_sum}
use Rattle.blot_console.proofs.AllocateLemmas.{lines_grow, lines_fail, lines_end_few, lines_short}
use Rattle.blot_console.proofs.allocate.lines_of.Goals as goal

pub returns-in_err-line-clause-made : goal.returns-in_err-line-clause-made
returns-in_err-line-clause-made c =
    let exit = err_from_is_err_and c.from_residual.result c.from_residual.ensures.1 in
    let read = sym c.line_of.ensures ∙ c.in_err-line.was in
    rw (exit.1, exit.2) (lines_fail c.loop-first.lines c.loop-first.sum c.args.price c.loop-first.place c.loop-first.words c.next_pair.new.self c.in-Some.first.now c.in-Some.second.now c.in_err-line.field-0.0 _ c.in-Some.ensures read c.loop-first.invariant.front)

pub loop-first-preserved : goal.loop-first-preserved
loop-first-preserved c =
    let read = sym c.line_of.ensures ∙ c.in_ok-line.was in
    let keeps = c.saturating_add-sum.ensures ∙ ap (λ qty. kept_sum (c.loop-first.sum + qty)) c.units.ensures.value in
    let fewer = ap length c.in-Some.ensures in
    record {
      front = lines_grow c.loop-first.lines c.push.new.self c.loop-first.sum c.saturating_add-sum.result c.args.price c.loop-first.place c.loop-first.words c.next_pair.new.self c.in-Some.first.now c.in-Some.second.now c.in_ok-line.line _ c.in-Some.ensures read c.push.ensures keeps c.loop-first.invariant.front;
      small = c.saturating_add-sum.type_inv;
      within = omega (arith, fewer, c.loop-first.invariant.within);
    }

pub returns-clause-made : goal.returns-clause-made
returns-clause-made c =
    lines_end_few c.loop-first.lines c.loop-first.sum c.args.price c.loop-first.place c.loop-first.words _ c.loop-first.invariant.small c.in_default.ensures c.loop-first.invariant.front

pub returns-clause-few : goal.returns-clause-few
returns-clause-few c =
    let made = lines_end_few c.loop-first.lines c.loop-first.sum c.args.price c.loop-first.place c.loop-first.words (lines_of c.args.price c.args.place c.args.words) c.loop-first.invariant.small c.in_default.ensures c.loop-first.invariant.front in
    lines_short (Ok (record { lines = c.loop-first.lines; sum = c.loop-first.sum })) c.args.price c.args.place c.args.words c.requires.few made
