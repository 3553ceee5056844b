use Rattle.std.proofs.Common.{◌≡◌, ◌++◌, true, ap, subst, ◌∙◌}
use Rattle.blot_tag.specs.Writing.{Written, begun}
use Rattle.blot_types.specs.Text.{is_text}
use Rattle.blot_session.specs.Outbound.{AreShort, body_fields, header_fields, kind_of, with_fields}
use Rattle.blot_session.specs.Sending.{number_used}
use Rattle.blot_session.proofs.HeaderLemmas.{bears, bears-made}
use Rattle.blot_session.proofs.writing.text_of.Goals as goal

pub returns-clause-bears : goal.returns-clause-bears
returns-clause-bears c =
    let state = c.args.state.now in
    let message = c.args.message.now in
    let header = header_fields state message c.args.now in
    let body = body_fields message state.next c.args.now in
    let whole : Written = record { kind = kind_of message; fields = header ++ body } in
    let is =
    c.in_ok-put_body.ensures.fields ∙ ap (λ w. with_fields w body)
    (c.in_ok-put_header.ensures.fields ∙ ap (λ w. with_fields w header) (c.in_ok-text.ensures.text ∙ ap begun c.kind.ensures.kind)) in
    bears-made (λ text. text.items) c.finish.result c.put_body.new.text whole (number_used message state.next) is c.finish.ensures.text c.finish.ensures.valid c.finish.ensures.fields
    (λ text valid made fields. bears state message c.args.now text (subst (λ kind. is_text kind ≡ true) c.kind.ensures.kind c.kind.ensures.text)
    c.in_ok-put_header.ensures.own c.in_ok-put_header.ensures.peer c.in_ok-put_header.ensures.sent c.requires.low c.requires.high
    (subst (λ (w : Written). AreShort w.fields) is c.in_ok-put_body.ensures.short) valid made fields)
