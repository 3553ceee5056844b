use Rattle.std.proofs.Common.{sym, subst, ◌∙◌, IfOk}
use Rattle.blot_tag.specs.Fields.{fields_of}
use Rattle.blot_tag.specs.Views.{text_of}
use Rattle.blot_fields.specs.First.{IsSentAt}
use Rattle.blot_capture.proofs.handling.take_frame.Goals as goal

pub take_said-taken-requires-clause-said : goal.take_said-taken-requires-clause-said
take_said-taken-requires-clause-said g c = c.decode-said.ensures.meaning (sym c.is_out_of_memory.ensures ∙ c.if-is_out_of_memory.false)

pub take_said-taken-requires-clause-sent : goal.take_said-taken-requires-clause-sent
take_said-taken-requires-clause-sent g c =
    let is = c.decode-said.ensures.meaning (sym c.is_out_of_memory.ensures ∙ c.if-is_out_of_memory.false) in
    subst (λ said. IfOk said (IsSentAt (fields_of (text_of c.args.frame.now)))) (sym is) c.decode-said.ensures.sent
