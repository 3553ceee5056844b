use Rattle.std.proofs.Common.{length, Ok, sym, ap, ◌∙◌, arith}
use Rattle.std.proofs.lemmas.Result.{err_from_is_err_and}
use Rattle.blot_console.specs.declared.allocate.TheConstants.{EXECS_PLACE}
use Rattle.blot_console.specs.Rows.{at}
use Rattle.blot_console.proofs.AllocateLemmas.{execs_grow, execs_fail, execs_end, execs_short}
use Rattle.blot_console.proofs.allocate.execs_of.Goals as goal

pub returns-in_err-id-clause-made : goal.returns-in_err-id-clause-made
returns-in_err-id-clause-made c =
    let exit = err_from_is_err_and c.from_residual.result c.from_residual.ensures.1 in
    let read = ap (at c.loop-word.place) (sym c.from_word.ensures) ∙ sym c.at.ensures ∙ c.in_err-id.was in
    rw (exit.1, exit.2) (execs_fail c.loop-word.execs c.args.peer c.loop-word.place c.loop-word.word-iterator c.next.new.self c.in-Some.word.now c.in_err-id.field-0.0 _ c.in-Some.ensures.steps read c.loop-word.invariant.front)

pub loop-word-preserved : goal.loop-word-preserved
loop-word-preserved c =
    let read = ap (at c.loop-word.place) (sym c.from_word.ensures) ∙ sym c.at.ensures ∙ c.in_ok-id.was in
    let fewer = ap length c.in-Some.ensures.steps in
    record {
      front = execs_grow c.loop-word.execs c.push.new.self c.args.peer c.loop-word.place c.loop-word.word-iterator c.next.new.self c.in-Some.word.now c.in_ok-id.id _ c.in-Some.ensures.steps read c.push.ensures c.loop-word.invariant.front;
      within = omega (arith, fewer, c.loop-word.invariant.within);
    }

pub returns-clause-made : goal.returns-clause-made
returns-clause-made c = execs_end c.loop-word.execs c.args.peer c.loop-word.place c.loop-word.word-iterator _ c.in-None.ensures.steps.0 c.loop-word.invariant.front

pub returns-clause-few : goal.returns-clause-few
returns-clause-few c =
    let made = execs_end c.loop-word.execs c.args.peer c.loop-word.place c.loop-word.word-iterator _ c.in-None.ensures.steps.0 c.loop-word.invariant.front in
    execs_short (Ok c.loop-word.execs) c.args.peer EXECS_PLACE c.args.words c.requires made
