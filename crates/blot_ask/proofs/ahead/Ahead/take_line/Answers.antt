use Rattle.std.proofs.Common.{◌∙◌, ap, sym, drop, take}
use Rattle.std.proofs.lemmas.List.{take_rest}
use Rattle.blot_ask.proofs.AheadLemmas.{none_here, some_here}
use Rattle.blot_ask.proofs.ahead.Ahead.take_line.Goals as goal

pub returns-then-count-held-clause-ended : goal.returns-then-count-held-clause-ended
returns-then-count-held-clause-ended c =
    none_here c.args.self.now _ c.end_at-count.result
    (sym c.self.view_is ∙ ap (λ piece. drop c.self.inside.start (take c.self.inside.end piece)) (sym c.deref.ensures.value)
    ∙ sym (take_rest (take c.self.inside.end c.deref.result.now) c.self.inside.start))
    c.end_at-count.ensures.place c.if-count-held.true

pub returns-clause-ended : goal.returns-clause-ended
returns-clause-ended c =
    some_here c.args.self.now _ c.end_at-count.result
    (sym c.self.view_is ∙ ap (λ piece. drop c.self.inside.start (take c.self.inside.end piece)) (sym c.deref.ensures.value)
    ∙ sym (take_rest (take c.self.inside.end c.deref.result.now) c.self.inside.start))
    c.end_at-count.ensures.place c.if-count-held.false c.end_at-count.ensures.within
