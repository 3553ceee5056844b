-- What a session writes is short: no field is refused.
use Rattle.std.proofs.Common.{◌≡◌, ℕ, ◌+◌, ◌<◌, ◌≤◌, true, not, ◌&&◌, List, [], ◌∷◌, length, ap, subst, sym, ◌∙◌, arith, length-append, nat_lt, ltb-true, append-nil}
use Rattle.std.proofs.lemmas.Bool.{and_parts}
use Rattle.std.proofs.lemmas.List.Elements.{All-append, All-cons, All-nil}
use Rattle.blot_tag.specs.FieldText.{field_text}
use Rattle.blot_tag.specs.Writing.{Written, IsWriteFault, begun, body_of, kind_field, with_field, refusal_of, is_data_tag, is_own_tag}
use Rattle.blot_tag.specs.declared.{write_fault.WriteFault.WriteFault, write_fault.WriteFault.TheVariants.NoMemory}
use Rattle.blot_tag.specs.Fields.{field_of}
use Rattle.blot_tag.proofs.WritingLemmas.{body_of-push}
use Rattle.blot_types.specs.Text.{is_text}
use Rattle.blot_session.specs.Outbound.{AreShort, IsShort, is_plain_tag}
use Rattle.blot_session.proofs.ShortLemmas.{length-field, refusal-short, short_text}

plain_tag-small : (tag : ℕ) → is_plain_tag tag ≡ true → tag < 1000
plain_tag-small tag is =
    let low = nat_lt 0 tag in
    let high = nat_lt tag 1000 in
    let own = not (is_own_tag tag) in
    let first : (low && high && own) ≡ true = (and_parts (low && high && own) (not (is_data_tag tag)) is).0 in
    let second : (low && high) ≡ true = (and_parts (low && high) own first).0 in
    ltb-true tag 1000 (and_parts low high second).1

pub put-fault : (size tag : ℕ) (value : List ℕ) (fault : WriteFault) → size ≤ 4000 → is_plain_tag tag ≡ true → IsShort value
    → IsWriteFault (refusal_of size (field_of tag value)) fault → fault ≡ NoMemory
put-fault size tag value fault room plain short found =
    subst (λ refusal. IsWriteFault refusal fault) (refusal-short size (field_of tag value) (omega (arith, room)) (plain_tag-small tag plain) short) found

pub put-size : (written next : Written) (tag : ℕ) (value : List ℕ) → is_plain_tag tag ≡ true → IsShort value → next ≡ with_field written (field_of tag value)
    → length (body_of next) ≤ length (body_of written) + 80
put-size written next tag value plain short grown =
    let small = length-field (field_of tag value) (plain_tag-small tag plain) short in
    let size : length (body_of next) ≡ length (body_of written) + length (field_text (field_of tag value)) =
    ap (λ w. length (body_of w)) grown ∙ ap length (body_of-push written (field_of tag value)) ∙ length-append (body_of written) (field_text (field_of tag value)) in
    omega (arith, size, small)

pub put-short : (written next : Written) (tag : ℕ) (value : List ℕ) → IsShort value → next ≡ with_field written (field_of tag value) → AreShort written.fields → AreShort next.fields
put-short written next tag value short grown all =
    subst (λ (w : Written). AreShort w.fields) (sym grown)
    (All-append (λ f. IsShort f.value) written.fields (field_of tag value ∷ []) all (All-cons (λ f. IsShort f.value) (field_of tag value) [] short (All-nil _)))

-- ---- the kind

pub begin_fault : (kind : List ℕ) (fault : WriteFault) → is_text kind ≡ true → IsWriteFault (refusal_of 0 (kind_field kind)) fault → fault ≡ NoMemory
begin_fault kind fault is found =
    subst (λ refusal. IsWriteFault refusal fault) (refusal-short 0 (kind_field kind) (omega arith) (omega arith) (short_text kind is)) found

pub begin_size : (kind : List ℕ) (written : Written) → is_text kind ≡ true → written ≡ begun kind → length (body_of written) ≤ 80
begin_size kind written is grown =
    let small = length-field (kind_field kind) (omega arith) (short_text kind is) in
    let size : length (body_of written) ≡ length (field_text (kind_field kind)) =
    ap (λ w. length (body_of w)) grown ∙ ap length (append-nil (field_text (kind_field kind))) in
    omega (arith, size, small)

pub begin_short : (kind : List ℕ) (written : Written) → written ≡ begun kind → AreShort written.fields
begin_short kind written grown = subst (λ (w : Written). AreShort w.fields) (sym grown) (All-nil _)

pub kind_some : (kind : List ℕ) → is_text kind ≡ true → 0 < length kind
kind_some kind is = (short_text kind is).some
