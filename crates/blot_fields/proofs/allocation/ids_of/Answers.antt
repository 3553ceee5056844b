use Rattle.std.proofs.Common.{sym, ap, ◌∙◌}
use Rattle.std.proofs.lemmas.Result.{err_from_is_err_and}
use Rattle.blot_tag.specs.Views.{tag_value}
use Rattle.blot_fields.specs.Rows.{at}
use Rattle.blot_fields.proofs.AllocationLemmas.{ids_grow, ids_fail, ids_end}
use Rattle.blot_fields.proofs.allocation.ids_of.Goals as goal

pub returns-in_err-at : goal.returns-in_err-at
returns-in_err-at c =
    let exit = err_from_is_err_and c.from_residual.result c.from_residual.ensures.1 in
    let read = ap (at 17) (sym c.from_value.ensures) ∙ sym c.at.ensures ∙ c.in_err-at.was in
    rw (exit.1, exit.2) (ids_fail c.loop-field.ids c.loop-field.field-iterator c.next.new.self (tag_value c.in-Some.field) c.in_err-at.field-0.0 _ c.in-Some.ensures.steps c.if-field-eq17.true read c.loop-field.invariant)

pub loop-field-preserved-then-field-eq17 : goal.loop-field-preserved-then-field-eq17
loop-field-preserved-then-field-eq17 c =
    let read = ap (at 17) (sym c.from_value.ensures) ∙ sym c.at.ensures ∙ c.in_ok-at.was in
    ids_grow c.loop-field.ids c.push.new.self c.loop-field.field-iterator c.next.new.self (tag_value c.in-Some.field) c.in_ok-at.field-0 _ c.in-Some.ensures.steps c.if-field-eq17.true read c.push.ensures c.loop-field.invariant

pub returns : goal.returns
returns c = ids_end c.loop-field.ids c.loop-field.field-iterator _ c.in-None.ensures.steps.0 c.loop-field.invariant
