use Rattle.std.proofs.Common.{List, sym, ap, subst, ◌∙◌, eqb-true}
use Rattle.std.proofs.lemmas.Bool.{and_parts}
use Rattle.blot_tag.specs.Fields.{TagValue}
use Rattle.blot_types.specs.ItemsBuilder.{Makes}
use Rattle.blot_fields.specs.Groups.{behind, each_line_of, lines_in}
use Rattle.blot_fields.proofs.CountLemmas.{lines_short}
use Rattle.blot_fields.proofs.allocation.lines_of.Goals as goal

pub returns-clause-few : goal.returns-clause-few
returns-clause-few c =
    let are = and_parts _ _ (sym c.are_lines.ensures ∙ c.if-not-are_lines.false) in
    let same = sym c.requires.lines ∙ eqb-true c.args.look.lines c.in_ok-count.count are.0 in
    let P : List TagValue → Type 0 = λ fields. Makes c.each_line_of.result (each_line_of c.args.average.now (lines_in fields)) in
    let makes = subst P (c.behind.ensures.value ∙ ap (behind 78) c.walk.ensures.value) c.each_line_of.ensures in
    lines_short c.in_ok-count.count c.args.average.now c.args.fields.now c.each_line_of.result c.in_ok-count.ensures.range same makes
