use Rattle.std.proofs.Common.{◌++◌, sym, ap, ◌∙◌}
use Rattle.blot_tag.specs.FieldText.{field_text}
use Rattle.blot_tag.specs.Writing.{kind_field}
use Rattle.blot_tag.proofs.WritingLemmas.{begins}
use Rattle.blot_tag.proofs.frame_text.FrameText.new.Goals as goal

pub invariant_of-result : goal.invariant_of-result
invariant_of-result c =
    let text = c.in_ok-put_field.ensures.ok ∙ ap (λ items. items ++ field_text (kind_field c.args.kind.now)) c.new-body.ensures.items in
    (begins c.args.kind.now _ c.requires (sym c.in_ok-check.ensures) text).0

pub returns-clause-ok : goal.returns-clause-ok
returns-clause-ok c =
    let text = c.in_ok-put_field.ensures.ok ∙ ap (λ items. items ++ field_text (kind_field c.args.kind.now)) c.new-body.ensures.items in
    (begins c.args.kind.now _ c.requires (sym c.in_ok-check.ensures) text).1
