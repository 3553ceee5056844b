use Rattle.std.proofs.Common.{ap, ◌∙◌, arith}
use Rattle.std.proofs.lemmas.List.{take_rest}
use Rattle.blot_tag.specs.Frames.{head}
use Rattle.blot_tag.specs.Looking.{behind}
use Rattle.blot_tag.proofs.StepLemmas.{look_of-at, start-inside}
use Rattle.blot_tag.proofs.look.look.Goals as goal

pub overflow_add-start-2 : goal.overflow_add-start-2
overflow_add-start-2 c =
    let inside = start-inside c.args.text.now c.in_ok-rest.rest.now c.args.place c.in_ok-size.digits c.requires.inside (c.in_ok-rest.ensures ∙ ap (behind head) (take_rest c.args.text.now c.args.place)) c.in_ok-size.ensures.within in
    omega (arith, inside)

pub overflow_add-start-3 : goal.overflow_add-start-3
overflow_add-start-3 c =
    let inside = start-inside c.args.text.now c.in_ok-rest.rest.now c.args.place c.in_ok-size.digits c.requires.inside (c.in_ok-rest.ensures ∙ ap (behind head) (take_rest c.args.text.now c.args.place)) c.in_ok-size.ensures.within in
    omega (arith, inside)

pub body_look-requires-clause-inside : goal.body_look-requires-clause-inside
body_look-requires-clause-inside c =
    start-inside c.args.text.now c.in_ok-rest.rest.now c.args.place c.in_ok-size.digits c.requires.inside (c.in_ok-rest.ensures ∙ ap (behind head) (take_rest c.args.text.now c.args.place)) c.in_ok-size.ensures.within

pub returns-clause-value : goal.returns-clause-value
returns-clause-value c =
    c.body_look.ensures.value
    ∙ look_of-at c.args.text.now c.in_ok-rest.rest.now c.args.place c.in_ok-size.size c.in_ok-size.digits (c.in_ok-rest.ensures ∙ ap (behind head) (take_rest c.args.text.now c.args.place)) c.in_ok-size.ensures.value
