use Rattle.std.proofs.Common.{◌≡◌, ◌-◌, ◌≤◌, length, take, drop, get_or, true, codes, sym, ap, ◌∙◌, arith, rules, length-drop}
use Rattle.std.proofs.lemmas.List.{take_rest}
use Rattle.blot_tag.specs.Bytes.{is_soh}
use Rattle.blot_tag.specs.Looking.{behind}
use Rattle.blot_tag.proofs.StepLemmas.{body_look-trailer}
use Rattle.blot_tag.proofs.look.body_look.Goals as goal

pub returns-clause-value : goal.returns-clause-value
returns-clause-value c =
    let text = c.args.text.now in
    let start = c.args.start in
    let size = c.args.size in
    let rest = take_rest text start in
    let long : size ≤ length (drop start text) = omega (arith, c.if-rest-size.false, length-drop start text) in
    let ends : is_soh (get_or (take (length text - start) (drop start text)) (size - 1) 0) ≡ true = search rules in
    c.trailer_look.ensures.value
    ∙ body_look-trailer text c.in_ok-behind.field-0.now c.args.place start size c.requires.order (c.in_ok-behind.ensures ∙ ap (behind (codes "35=")) rest)
    long (ap (λ xs. is_soh (get_or xs (size - 1) 0)) (sym rest) ∙ ends)
