use Rattle.std.proofs.Common.{◌≡◌, ◌∙◌, sym}
use Rattle.blot_ask.specs.Typed.{typed, with_tabs, words_of}
use Rattle.blot_ask.proofs.TypingLemmas.{if_ok, is_divided, stays}
use Rattle.blot_ask.proofs.typing.typed.Goals as goal

pub returns-then-contains : goal.returns-then-contains
returns-then-contains c =
    if_ok (λ text. text.items ≡ c.args.line.now) (λ text. text.items ≡ typed c.args.line.now) c.copied.result c.copied.ensures
    (λ text is. is ∙ sym (stays c.args.line.now (sym c.contains.ensures.value ∙ c.if-contains.true)))

pub returns-else-contains : goal.returns-else-contains
returns-else-contains c =
    if_ok (λ text. text.items ≡ with_tabs (words_of c.args.line.now)) (λ text. text.items ≡ typed c.args.line.now) c.tabbed.result c.tabbed.ensures
    (λ text is. is ∙ sym (is_divided c.args.line.now (sym c.contains.ensures.value ∙ c.if-contains.false)))
