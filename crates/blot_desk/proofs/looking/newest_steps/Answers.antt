use Rattle.std.proofs.Common.{List, [], ◌∷◌, ◌++◌, map, take, sym, ap, ◌∙◌, arith, slice_get, option_copied}
use Rattle.std.proofs.lemmas.List.{map_push}
use Rattle.blot_desk.specs.declared.question.StepRow.{StepRow}
use Rattle.blot_desk.specs.Questions.{step_row}
use Rattle.blot_desk.proofs.QuestionLemmas.{no_more, one_more}
use Rattle.blot_desk.proofs.looking.newest_steps.Goals as goal

pub loop-back-preserved : goal.loop-back-preserved
loop-back-preserved c =
    let done = c.args.steps.now.done in
    let list = c.args.steps.now.state.list in
    let there = ap (slice_get done) (sym c.from.ensures) ∙ sym c.done_before.ensures ∙ ap option_copied c.in-Some.is in
    c.in_ok-push.ensures.items
    ∙ ap (λ (rows : List StepRow). rows ++ c.in_ok-row.row ∷ []) c.loop-back.invariant
    ∙ ap (λ (row : StepRow). map (step_row list) (take c.loop-back.back done) ++ row ∷ []) (c.in_ok-row.ensures ∙ ap (λ tables. step_row tables c.in-Some.step.now) (ap (λ (shown : _). shown.list) c.state.ensures))
    ∙ sym (ap (map (step_row list)) (one_more done c.loop-back.back c.in-Some.step.now there) ∙ map_push (step_row list) (take c.loop-back.back done) c.in-Some.step.now)

pub returns-in_default : goal.returns-in_default
returns-in_default c =
    let done = c.args.steps.now.done in
    let none = ap (slice_get done) (sym c.from.ensures) ∙ sym c.done_before.ensures ∙ ap option_copied c.in_default.is in
    c.loop-back.invariant ∙ ap (map (step_row c.args.steps.now.state.list)) (no_more done c.loop-back.back c.args.count none (omega (arith, c.loop-back-test.true)))
