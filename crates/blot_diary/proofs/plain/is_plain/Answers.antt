use Rattle.std.proofs.Common.{Some, ap, sym, subst, ◌∙◌, ◌++◌, IfSome, option_map}
use Rattle.std.proofs.lemmas.Bool.{false≢true}
use Rattle.std.proofs.lemmas.Result.{IfOk-weaker}
use Rattle.blot_tag.specs.Frames.{IsFrame}
use Rattle.blot_tag.specs.Reading.{Reading}
use Rattle.blot_tag.specs.Views.{text_of}
use Rattle.blot_diary.specs.Events.{keeps_message}
use Rattle.blot_diary.proofs.OneLemmas.{differs, first-alone, plain_when}
use Rattle.blot_diary.proofs.plain.is_plain.Goals as goal

pub returns-in_default : goal.returns-in_default
returns-in_default c =
    let unread = ap (λ (reader : Reading). reader.unread) c.in_ok-feed.ensures.ok ∙ ap (λ front. front ++ c.args.text.now) c.new-reader.ensures.unread in (
      λ is. absurd (false≢true is),
      λ quiet. let first = first-alone c.args.text.now c.feed.new.self.unread (option_map text_of c.in_ok-frame.field-0) unread c.in_ok-frame.ensures.first
          quiet.0 in
          absurd (let h = ap (option_map text_of) c.in_default.is in cc),
    )

pub returns-then-ne : goal.returns-then-ne
returns-then-ne c =
    let unread = ap (λ (reader : Reading). reader.unread) c.in_ok-feed.ensures.ok ∙ ap (λ front. front ++ c.args.text.now) c.new-reader.ensures.unread in
    let first = ap Some c.text.ensures.text ∙ sym (ap (option_map text_of) c.in-Some.is) ∙ c.in_ok-frame.ensures.first in
    (λ is. absurd (false≢true is), λ quiet. absurd (differs c.args.text.now c.feed.new.self.unread c.text.result.now unread first c.if-ne.ensures quiet.0))

pub returns : goal.returns
returns c =
    let valid : IsFrame (text_of c.in-Some.frame) = subst (λ found. IfSome found (λ frame. IsFrame (text_of frame))) c.in-Some.is
    c.in_ok-frame.ensures.valid in
    let same = c.text.ensures.text in
    IfOk-weaker c.keeps_message.result _ _
    (λ plain is. plain_when c.args.text.now c.text.result.now plain c.if-ne.ensures (subst IsFrame (sym same) valid) (is ∙ ap keeps_message (sym same)))
    c.keeps_message.ensures
