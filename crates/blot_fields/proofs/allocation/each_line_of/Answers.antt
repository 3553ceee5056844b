use Rattle.std.proofs.Common.{option_map}
use Rattle.std.proofs.lemmas.Result.{err_from_is_err_and}
use Rattle.blot_tag.specs.Views.{tag_value}
use Rattle.blot_fields.specs.Drafts.{draft_of}
use Rattle.blot_fields.proofs.LineLemmas.{next_front, next_fault, end_front, end_fault}
use Rattle.blot_fields.proofs.allocation.each_line_of.Goals as goal

pub loop-field-preserved : goal.loop-field-preserved
loop-field-preserved c =
    next_front c.args.average.now (option_map draft_of c.loop-field.line) (option_map draft_of c.in_ok-line.line) (tag_value c.in-Some.field) c.loop-field.field-iterator c.next.new.self c.loop-field.lines c.next_line.new.lines _ c.in-Some.ensures.steps c.in_ok-line.ensures c.loop-field.invariant

pub returns : goal.returns
returns c =
    end_front c.args.average.now (option_map draft_of c.loop-field.line) c.loop-field.field-iterator c.loop-field.lines c.push_line.new.lines _ c.in-None.ensures.steps.0 c.in_ok-push_line.ensures c.loop-field.invariant

pub returns-in_err-line : goal.returns-in_err-line
returns-in_err-line c =
    let exit = err_from_is_err_and c.from_residual.result c.from_residual.ensures.1 in
    rw (exit.1, exit.2) (next_fault c.args.average.now (option_map draft_of c.loop-field.line) (tag_value c.in-Some.field) c.loop-field.field-iterator c.next.new.self c.loop-field.lines c.next_line.new.lines c.in_err-line.field-0.0 _ c.in-Some.ensures.steps c.in_err-line.ensures c.loop-field.invariant)

pub returns-in_err-push_line : goal.returns-in_err-push_line
returns-in_err-push_line c =
    let exit = err_from_is_err_and c.from_residual-in_err-push_line.result c.from_residual-in_err-push_line.ensures.1 in
    rw (exit.1, exit.2) (end_fault c.args.average.now (option_map draft_of c.loop-field.line) c.loop-field.field-iterator c.loop-field.lines c.push_line.new.lines c.in_err-push_line.field-0.0 _ c.in-None.ensures.steps.0 c.in_err-push_line.ensures c.loop-field.invariant)
