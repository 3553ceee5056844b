-- What is read of the frames that a journal writes of its own.
use Rattle.std.proofs.Common.{◌≡◌, ℕ, ◌^◌, ◌<◌, ◌≤◌, true, leb, List, [], ◌∷◌, length, map, None, Some, Ok, Err, refl, ap, sym, subst, ◌∙◌, arith, codes, IfOk, IfSome, IsSome, Result, Option, is_some, ℤ, decimal, le-leb}
use Rattle.std.proofs.lemmas.Fmt.{decimal_digit}
use Rattle.std.proofs.lemmas.Bool.{and_from, cond-true, false≢true}
use Rattle.blot_time.specs.Day.{day_of, day_text}
use Rattle.blot_tag.specs.Bytes.{is_number, number_of}
use Rattle.blot_tag.specs.Fields.{Item, TagValue, field_of, fields_of}
use Rattle.blot_tag.specs.Frames.{IsFrame}
use Rattle.blot_tag.specs.Writing.{MayFollow, Written, frame_fields, frame_of}
use Rattle.blot_tag.proofs.FrameLemmas.{length-frame-le, length-frame}
use Rattle.blot_types.specs.Text.{is_text}
use Rattle.blot_fields.specs.Kinds as fields
use Rattle.blot_session.specs.Outbound.{IsShort}
use Rattle.blot_session.proofs.HeaderLemmas.{IsReadable}
use Rattle.blot_session.proofs.ShortLemmas.{is_number-decimal, number_of-decimal, short_day, short_decimal, short_moment, short_text}
use Rattle.blot_desk.specs.declared.event.Event.{Event}
use Rattle.blot_console.specs.Parsing as console
use Rattle.blot_diary.specs.declared.kept.Content.TheVariants as contents
use Rattle.blot_diary.specs.declared.numbers.SequenceNumbers.{SequenceNumbers}
use Rattle.blot_diary.specs.Keeping.{IsInRange, content_under, kept_of, kept_said}
use Rattle.blot_diary.specs.Kinds.{kind_of}
use Rattle.blot_diary.specs.Own.{asked_by, beginning_by, event_of_line, next_form, numbers_by}
use Rattle.blot_diary.specs.Records.{asked_message, beginning_message, keeps, numbers_message, wrapped_message}
use Rattle.blot_diary.specs.Writing.{fits, written}
use Rattle.blot_diary.proofs.HeaderLemmas.{IsHeaded, decoded-plain}
use Rattle.blot_diary.proofs.ShortLemmas.{fits-short}

-- what is read of a message
abbrev items_of : Written → List Item
items_of message = map Ok (frame_fields message)

-- a frame behind its length
pub frame_follows : (digits frame : List ℕ) → digits ≡ decimal (length frame) → IsFrame frame → MayFollow (field_of 95 digits) (field_of 96 frame)
frame_follows digits frame is valid =
    let small : length frame < 2 ^ 64 = omega (arith, length-frame-le frame valid) in
    let number = ap is_number is ∙ is_number-decimal (length frame) small in
    record {
      low = omega arith;
      high = omega arith;
      other = refl;
      paired = λ _. record { pair = refl; number = number; size = ap number_of is ∙ number_of-decimal (length frame) small };
    }

-- ---- what is kept

kept-plain : (message : Written) (own to : List ℕ) (number : ℕ) (now : ℤ) → IsFrame (frame_of message) → IsHeaded message own to number now
    → IsReadable own to number now → kept_of (items_of message) ≡ Some (keeps own to number (content_under (kind_of message.kind) (items_of message)))
unfolding kept_of
kept-plain message own to number now valid has reads =
    ap (λ said. kept_said said (items_of message)) (decoded-plain message own to number now valid has reads)

pub beginning_kept : (own : List ℕ) (day now : ℤ) → day_of (day_text day) ≡ Ok day → IsReadable own own 1 now
    → IsFrame (frame_of (beginning_message own day now))
    → kept_of (items_of (beginning_message own day now)) ≡ Some (keeps own own 1 (contents.Beginning day))
unfolding kind_of fields.kind_of
beginning_kept own day now said reads valid =
    let name = (short_text own reads.from).some in
    kept-plain (beginning_message own day now) own own 1 now valid
    (record {
      kind = refl;
      kinds = refl;
      from = refl;
      target = refl;
      numbered = ap (λ digits. digits ∷ []) (sym (decimal_digit 1 (omega arith)));
      sent = refl;
      once = refl;
      body = refl;
      some = (name, (name, (omega arith, ((short_moment now).some, ((short_day day).some, tt)))));
      few = omega arith;
    })
    reads
    ∙ ap (λ read. Some (keeps own own 1 (beginning_by (Some read)))) said

next_form-decimal : (n : ℕ) → 1 ≤ n → n ≤ 1_000_000_000 → next_form (decimal n) ≡ Some n
unfolding next_form
next_form-decimal n low high =
    let number = number_of-decimal n (omega arith) in
    let least = ap (leb 1) number ∙ le-leb 1 n low in
    let most = ap (λ k. leb k 1_000_000_000) number ∙ le-leb n 1_000_000_000 high in
    cond-true _ _ _ (and_from _ _ (and_from _ _ (is_number-decimal n (omega arith)) least) most) ∙ ap Some number

pub numbers_kept : (own peer : List ℕ) (number : ℕ) (now : ℤ) (numbers : SequenceNumbers) → IsInRange numbers → IsReadable own peer number now
    → IsFrame (frame_of (numbers_message own peer number now numbers))
    → kept_of (items_of (numbers_message own peer number now numbers)) ≡ Some (keeps own peer number (contents.Numbers numbers))
unfolding kind_of fields.kind_of
numbers_kept own peer number now numbers range reads valid =
    let digits : (n : ℕ) → n ≤ 1_000_000_000 → 0 < length (decimal n) = λ n small. (short_decimal n (omega (arith, small))).some in
    kept-plain (numbers_message own peer number now numbers) own peer number now valid
    (record {
      kind = refl;
      kinds = refl;
      from = refl;
      target = refl;
      numbered = refl;
      sent = refl;
      once = refl;
      body = refl;
      some = (
        (short_text own reads.from).some,
        (
          (short_text peer reads.target).some,
          (digits number (omega (arith, reads.high)), ((short_moment now).some, (digits numbers.expected range.0.1, (digits numbers.next range.1.1, tt)))),
        ),
      );
      few = omega arith;
    })
    reads
    ∙ ap (λ expected. Some (keeps own peer number (numbers_by expected (next_form (decimal numbers.next)))))
    (next_form-decimal numbers.expected range.0.0 range.0.1)
    ∙ ap (λ next. Some (keeps own peer number (numbers_by (Some numbers.expected) next))) (next_form-decimal numbers.next range.1.0 range.1.1)

-- an empty line asks for nothing
no_event : event_of_line [] ≡ None
unfolding console.parsed console.ask_of console.words_line console.kind_of console.question_kind_of
no_event = refl

line_some : (line : List ℕ) (event : Event) → event_of_line line ≡ Some event → 0 < length line
line_some [] event asks = let clash = sym no_event ∙ asks in cc
line_some (byte ∷ line) event asks = omega arith

pub asked_kept : (own operator : List ℕ) (number : ℕ) (now : ℤ) (line : List ℕ) (event : Event) → is_text operator ≡ true → IsReadable own own number now
    → IsFrame (frame_of (asked_message own operator number now line)) → event_of_line line ≡ Some event
    → kept_of (items_of (asked_message own operator number now line)) ≡ Some (keeps own own number (contents.Asked operator event))
unfolding kind_of fields.kind_of
asked_kept own operator number now line event text reads valid asks =
    let name = (short_text own reads.from).some in
    let digits = (short_decimal number (omega (arith, reads.high))).some in
    kept-plain (asked_message own operator number now line) own own number now valid
    (record {
      kind = refl;
      kinds = refl;
      from = refl;
      target = refl;
      numbered = refl;
      sent = refl;
      once = refl;
      body = refl;
      some = (name, (name, ((short_text operator text).some, (digits, ((short_moment now).some, (line_some line event asks, tt))))));
      few = omega arith;
    })
    reads
    ∙ ap (λ name. Some (keeps own own number (asked_by name (event_of_line line)))) (cond-true _ _ _ text)
    ∙ ap (λ asked. Some (keeps own own number (asked_by (Some operator) asked))) asks

pub wrapped_kept : (own peer : List ℕ) (number : ℕ) (now : ℤ) (frame : List ℕ) → IsFrame frame → IsReadable own peer number now
    → IsFrame (frame_of (wrapped_message own peer number now frame))
    → kept_of (items_of (wrapped_message own peer number now frame)) ≡ Some (keeps own peer number contents.Wrapped)
unfolding kind_of fields.kind_of
wrapped_kept own peer number now frame valid reads made =
    let size = (short_decimal (length frame) (omega (arith, length-frame-le frame valid))).some in
    let digits = (short_decimal number (omega (arith, reads.high))).some in
    kept-plain (wrapped_message own peer number now frame) own peer number now made
    (record {
      kind = refl;
      kinds = refl;
      from = refl;
      target = refl;
      numbered = refl;
      sent = refl;
      once = refl;
      body = refl;
      some = (
        (short_text own reads.from).some,
        ((short_text peer reads.target).some, (digits, ((short_moment now).some, (size, (length-frame frame valid, tt))))),
      );
      few = omega arith;
    })
    reads

-- ---- what is made

short_kind : IsShort (codes "UD") × IsShort (codes "UN")
short_kind =
    (record { some = omega arith; few = omega arith; plain = refl }, record { some = omega arith; few = omega arith; plain = refl })

pub beginning_fits : (own : List ℕ) (day now : ℤ) → is_text own ≡ true → fits (beginning_message own day now) ≡ true
beginning_fits own day now text =
    let name = short_text own text in
    let one : IsShort (codes "1") = record { some = omega arith; few = omega arith; plain = refl } in
    fits-short (beginning_message own day now) short_kind.0 (omega arith)
    ((omega arith, name), ((omega arith, name), ((omega arith, one), ((omega arith, short_moment now), ((omega arith, short_day day), tt)))))

pub numbers_fit : (own peer : List ℕ) (number : ℕ) (now : ℤ) (numbers : SequenceNumbers) → is_text own ≡ true → is_text peer ≡ true → number ≤ 999_999_999
    → IsInRange numbers → fits (numbers_message own peer number now numbers) ≡ true
numbers_fit own peer number now numbers own_text peer_text high range =
    let expected = short_decimal numbers.expected (omega (arith, range.0.1)) in
    let next = short_decimal numbers.next (omega (arith, range.1.1)) in
    fits-short (numbers_message own peer number now numbers) short_kind.1 (omega arith) (
      (omega arith, short_text own own_text),
      (
        (omega arith, short_text peer peer_text),
        ((omega arith, short_decimal number (omega arith)), ((omega arith, short_moment now), ((omega arith, expected), ((omega arith, next), tt)))),
      ),
    )

pub some_made : (message : Written) (raw : List TagValue) {V : Type 0} (made : Option V) → is_some made ≡ fits (written message.kind raw)
    → raw ≡ message.fields
    → fits message ≡ true → IsSome made
some_made message raw (Some text) made same holds = refl
some_made message raw None made same holds = absurd (false≢true (made ∙ ap (λ fields. fits (written message.kind fields)) same ∙ holds))

-- what holds of its fields holds of those that are read of what was written
pub if_made : (message : Written) (raw : List TagValue) (Q : List Item → Type 0) {V E : Type 0} (items : V → List ℕ) (result : Result (Option V) E)
    → (IsFrame (frame_of message) → Q (items_of message)) → IfOk result (λ made. IfSome made (λ text. items text ≡ frame_of (written message.kind raw)))
    → IfOk result (λ made. IfSome made (λ text. IsFrame (items text)))
    → IfOk result (λ made. IfSome made (λ text. fields_of (items text) ≡ items_of (written message.kind raw))) → raw ≡ message.fields
    → IfOk result (λ made. IfSome made (λ text. Q (fields_of (items text))))
if_made message raw Q items (Ok (Some text)) holds is valid read same =
    let frame = is ∙ ap (λ fields. frame_of (written message.kind fields)) same in
    subst Q (sym (read ∙ ap (λ fields. items_of (written message.kind fields)) same)) (holds (subst IsFrame frame valid))
if_made message raw Q items (Ok None) holds is valid read same = tt
if_made message raw Q items (Err fault) holds is valid read same = tt
