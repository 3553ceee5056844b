use Rattle.std.proofs.Common.{◌∙◌, ap, sym, arith, drop, ◌+◌}
use Rattle.std.proofs.lemmas.List.{drop_all, drop_more}
use Rattle.blot_ask.specs.Typing.{comes_on_to}
use Rattle.blot_ask.proofs.TypingLemmas.{at_last}
use Rattle.blot_ask.proofs.typing.tabbed.Goals as goal

pub loop-byte-init : goal.loop-byte-init
loop-byte-init c = c.new-typing.ensures c.args.line.now

pub loop-byte-preserved : goal.loop-byte-preserved
loop-byte-preserved c =
    c.in_ok-take.ensures (drop (c.loop-byte.byte-index + 1) c.args.line.now)
    ∙ ap (λ rest. comes_on_to c.loop-byte.typing rest) (sym (drop_more c.args.line.now c.loop-byte.byte-index 0 c.loop-byte-test.true))
    ∙ c.loop-byte.invariant

pub returns : goal.returns
returns c =
    sym (at_last c.loop-byte.typing.text.items c.loop-byte.typing.place c.loop-byte.typing.quoted)
    ∙ ap (λ rest. comes_on_to c.loop-byte.typing rest) (sym (drop_all c.loop-byte.byte-index c.args.line.now (omega (arith, c.loop-byte-test.false))))
    ∙ c.loop-byte.invariant
