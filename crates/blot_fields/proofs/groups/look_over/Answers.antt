use Rattle.std.proofs.Common.{sym, subst}
use Rattle.blot_tag.specs.Views.{tag_value}
use Rattle.blot_fields.specs.declared.groups.Look.{Look}
use Rattle.blot_fields.proofs.LookLemmas.{SeesBefore, sees_next}
use Rattle.blot_fields.proofs.groups.look_over.Goals as goal

pub loop-field-preserved : goal.loop-field-preserved
loop-field-preserved c =
    let P : Look → Type 0 = λ look. SeesBefore look c.next.new.self c.args.fields in
    let field = tag_value c.in-Some.field in
    subst P (sym c.with-look.ensures)
    (sees_next c.loop-field.look field c.loop-field.field-iterator c.next.new.self c.args.fields c.in-Some.ensures.steps c.loop-field.invariant)
