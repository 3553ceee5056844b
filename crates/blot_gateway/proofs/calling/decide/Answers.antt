use Rattle.std.proofs.Common.{sym, ◌∙◌}
use Rattle.blot_tag.specs.Views.{text_of}
use Rattle.blot_gateway.proofs.calling.decide.Goals as goal

pub returns-clause-own : goal.returns-clause-own
returns-clause-own g c =
    c.in_ok-actions.ensures.own (text_of c.args.frame.now) (c.decode-said.ensures.meaning (sym c.is_out_of_memory.ensures ∙ c.if-is_out_of_memory.false))
