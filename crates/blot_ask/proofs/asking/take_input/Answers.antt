use Rattle.std.proofs.Common.{◌∙◌, ap, length, ◌==◌, not}
use Rattle.blot_ask.proofs.AheadLemmas.{takes_ended, takes_last}
use Rattle.blot_ask.proofs.asking.take_input.Goals as goal

pub returns-then-ended-clause-taken : goal.returns-then-ended-clause-taken
returns-then-ended-clause-taken g c = takes_ended c.in-Ok.ended _ _ c.next_line.new.line.items c.if-ended.true c.in-Ok.ensures.taken

pub returns-else-ended-clause-taken : goal.returns-else-ended-clause-taken
returns-else-ended-clause-taken g c =
    takes_last c.in-Ok.ended c.has_bytes.result _ _ c.next_line.new.line.items c.if-ended.false
    (c.has_bytes.ensures ∙ ap (λ line. not (length line == 0)) c.deref.ensures.value) c.in-Ok.ensures.taken
