-- Fields of short values aren't refused.
use Rattle.std.proofs.Common.{◌≡◌, ◌+◌, ◌*◌, ◌<◌, ◌≤◌, true, List, [], ◌∷◌, length, refl, ap, ◌∙◌, arith, length-append, is_none}
use Rattle.std.proofs.lemmas.Bool.{and_from}
use Rattle.blot_tag.specs.FieldText.{field_text}
use Rattle.blot_tag.specs.Fields.{TagValue}
use Rattle.blot_tag.specs.Writing.{Written, begun, body_of, kind_field, with_field}
use Rattle.blot_tag.proofs.WritingLemmas.{body_of-push}
use Rattle.blot_session.specs.Outbound.{IsShort}
use Rattle.blot_session.proofs.ShortLemmas.{length-field, refusal-short}
use Rattle.blot_diary.specs.Writing.{fits, takes_all}

-- each field of some has a short tag and a short value
abbrev pub EachShort : List TagValue → Type 0
EachShort [] = Unit {0}
EachShort (field ∷ fields) = ((field.tag < 1000) × IsShort field.value) × EachShort fields

takes_all-short : (message : Written) (fields : List TagValue) → length (body_of message) + 80 * length fields ≤ 65_536 → EachShort fields
    → takes_all message fields ≡ true
takes_all-short message [] room short = refl
takes_all-short message (field ∷ fields) room short =
    let small = length-field field short.0.0 short.0.1 in
    let size = ap length (body_of-push message field) ∙ length-append (body_of message) (field_text field) in
    and_from _ _ (ap is_none (refusal-short (length (body_of message)) field (omega (arith, room)) short.0.0 short.0.1))
    (takes_all-short (with_field message field) fields (omega (arith, room, size, small)) short.1)

pub fits-short : (message : Written) → IsShort message.kind → length message.fields ≤ 10 → EachShort message.fields → fits message ≡ true
unfolding fits
fits-short message some few short =
    let size = length-append (field_text (kind_field message.kind)) [] in
    let small = length-field (kind_field message.kind) (omega arith) some in
    and_from _ _ (ap is_none (refusal-short 0 (kind_field message.kind) (omega arith) (omega arith) some))
    (takes_all-short (begun message.kind) message.fields (omega (arith, size, small, few)) short)
