use Rattle.std.proofs.Common.{◌∙◌, ap, sym}
use Rattle.blot_ask.specs.Typing.{comes_to}
use Rattle.blot_ask.proofs.TypingLemmas.{takes_letter, takes_quote, took_gap}
use Rattle.blot_ask.proofs.typing.Typing.take.Goals as goal

pub returns-in_ok-begin-in-Quote : goal.returns-in_ok-begin-in-Quote
returns-in_ok-begin-in-Quote c = λ rest.
    takes_quote c.args.self.now.text.items _ c.args.self.now.place _ c.args.self.now.quoted _ c.args.byte rest
    c.in_ok-begin-in-Quote.ensures.text c.in_ok-begin-in-Quote.ensures.place c.in_ok-begin-in-Quote.ensures.quoted (sym c.mark_of.ensures ∙ c.in-Quote.is)

pub returns-in-Gap : goal.returns-in-Gap
returns-in-Gap c = λ rest.
    ap (λ place. comes_to c.args.self.now.text.items place c.args.self.now.quoted rest) c.behind-self.ensures
    ∙ took_gap c.args.self.now.text.items c.args.self.now.place c.args.self.now.quoted c.args.byte rest (sym c.mark_of.ensures ∙ c.in-Gap.is)

pub returns-in_ok-push-in-Letter : goal.returns-in_ok-push-in-Letter
returns-in_ok-push-in-Letter c = λ rest.
    ap (λ text. comes_to text c.begin-in-Letter.new.self.place c.begin-in-Letter.new.self.quoted rest) c.in_ok-push-in-Letter.ensures.items
    ∙ takes_letter c.args.self.now.text.items _ c.args.self.now.place _ c.args.self.now.quoted _ c.args.byte c.in-Letter.letter rest
    c.in_ok-begin-in-Letter.ensures.text c.in_ok-begin-in-Letter.ensures.place c.in_ok-begin-in-Letter.ensures.quoted
    (sym c.mark_of.ensures ∙ c.in-Letter.is)
