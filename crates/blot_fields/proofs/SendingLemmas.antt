-- The header's SendingTime is the frame's first.
use Rattle.std.proofs.Common.{◌≡◌, ℕ, ℤ, ◌+◌, ◌==◌, Bool, true, false, List, [], ◌∷◌, Option, Some, None, Result, Ok, Err, refl, sym, ap, ◌∙◌, if◌then◌else◌, is_none, IfOk, option_map}
use Rattle.std.specs.Option.{option_or}
use Rattle.blot_time.specs.Moment.{moment_of}
use Rattle.blot_time.specs.declared.fault.TimeFault.{TimeFault}
use Rattle.blot_tag.specs.Fields.{TagValue, Item}
use Rattle.blot_fields.specs.declared.{fault.Flaw.Flaw, fault.Wrong.Wrong, head.Head.Head, message.Body.Body}
use Rattle.blot_fields.specs.Decoding.{message_under, message_of, decoded_before, decoded}
use Rattle.blot_fields.specs.First.{first_value, IsSentAt}
use Rattle.blot_fields.specs.Forms.{text_form, sequence_form, time_read, moment_form, flag_form}
use Rattle.blot_fields.specs.Kinds.{kind_of}
use Rattle.blot_fields.specs.Messages.{head_of, body_of}
use Rattle.blot_fields.specs.Rows.{at, values, one_of, only, there_in, there, needed, optional}
use Rattle.blot_fields.specs.Walk.{field_wrong, with_others, sound_behind, sound_fields, refused_behind, refused_field}
use Rattle.blot_fields.proofs.GroupLemmas.{bound}
use Rattle.blot_fields.proofs.IndexLemmas.{values-has, values-not}

-- ---- the value that stands alone is the first

only_value : (first value : List ℕ) (others : List (List ℕ)) → one_of (first ∷ others) ≡ Ok (Some value) → first ≡ value
only_value first value [] lone = cc
only_value first value (second ∷ others) lone = absurd cc

lone-step : (tag : ℕ) (field : TagValue) (items : List Item) (others : List TagValue) (value : List ℕ) (same : Bool) → (field.tag == tag) ≡ same
    → one_of (values tag (field ∷ others)) ≡ Ok (Some value) → (one_of (values tag others) ≡ Ok (Some value) → first_value tag items ≡ Some value)
    → first_value tag (Ok field ∷ items) ≡ Some value
lone-step tag field items others value true is lone again =
    rw is (ap Some (only_value field.value value (values tag others) (sym (ap one_of (values-has tag field others is)) ∙ lone)))
lone-step tag field items others value false is lone again =
    rw is (again (sym (ap one_of (values-not tag field others is)) ∙ lone))

lone-sound : (tag : ℕ) (field : TagValue) (items : List Item) (others : List TagValue) (value : List ℕ) (found refused : Option Wrong) → option_or found refused ≡ None
    → one_of (values tag (with_others (if is_none found then Some field else None) others)) ≡ Ok (Some value)
    → (refused ≡ None → one_of (values tag others) ≡ Ok (Some value) → first_value tag items ≡ Some value) → first_value tag (Ok field ∷ items) ≡ Some value
lone-sound tag field items others value None refused sound lone again = lone-step tag field items others value (field.tag == tag) refl lone (again sound)
lone-sound tag field items others value (Some wrong) refused sound lone again = absurd cc

lone-first : (tag before : ℕ) (items : List Item) (value : List ℕ) → refused_behind before items ≡ None
    → one_of (values tag (sound_behind before items)) ≡ Ok (Some value) → first_value tag items ≡ Some value
lone-first tag before [] value sound lone = absurd cc
lone-first tag before (Err fault ∷ items) value sound lone = absurd cc
lone-first tag before (Ok field ∷ items) value sound lone =
    lone-sound tag field items (sound_behind (before + 1) items) value (field_wrong before field) (refused_behind (before + 1) items) sound lone
    (lone-first tag (before + 1) items value)

-- ---- the row of SendingTime

there-lone : (tag : ℕ) (found : Result (Option (List ℕ)) Flaw) (value : List ℕ) → there_in tag found ≡ Ok value → found ≡ Ok (Some value)
there-lone tag (Ok (Some first)) value is = cc
there-lone tag (Ok None) value is = absurd cc
there-lone tag (Err flaw) value is = absurd cc

time-said : (read : Result ℤ TimeFault) (time : ℤ) → at 52 (time_read read) ≡ Ok time → read ≡ Ok time
time-said (Ok found) time is = cc
time-said (Err fault) time is = absurd cc

sent-row : (items : List Item) (time : ℤ) → refused_field items ≡ None → needed 52 moment_form (sound_fields items) ≡ Ok time
    → option_map moment_of (first_value 52 items) ≡ Some (Ok time)
unfolding needed there only moment_form
sent-row items time sound is =
    let read = bound (there 52 (sound_fields items)) (λ value. at 52 (moment_form value)) time is in
    let first = lone-first 52 0 items read.0 sound (there-lone 52 (one_of (values 52 (sound_fields items))) read.0 read.1) in
    ap (option_map moment_of) first ∙ ap Some (time-said (moment_of read.0) time read.2)

abbrev read_head : Head → Result Head Wrong
read_head head = Ok head

same_sending : (one other : Head) → read_head one ≡ read_head other → one.sending ≡ other.sending
same_sending one other is = let same : one ≡ other = cc in ap (λ (head : Head). head.sending) same

head-sent : (items : List Item) (head : Head) → refused_field items ≡ None → head_of (sound_fields items) ≡ Ok head
    → option_map moment_of (first_value 52 items) ≡ Some (Ok head.sending)
unfolding head_of
head-sent items head sound is =
    let fields = sound_fields items in
    let kind = bound (needed 35 text_form fields) _ head is in
    let sender = bound (needed 49 text_form fields) _ head kind.2 in
    let target = bound (needed 56 text_form fields) _ head sender.2 in
    let number = bound (needed 34 sequence_form fields) _ head target.2 in
    let sending = bound (needed 52 moment_form fields) _ head number.2 in
    let dup = bound (optional 43 flag_form fields) _ head sending.2 in
    sent-row items sending.0 sound sending.1 ∙ ap (λ time. Some (Ok time)) (same_sending _ head dup.2)

-- ---- a message

sent_by_body : (items : List Item) (head : Head) (body : Result Body Wrong) → option_map moment_of (first_value 52 items) ≡ Some (Ok head.sending)
    → IfOk (message_under head body) (IsSentAt items)
sent_by_body items head (Ok body) sent = sent
sent_by_body items head (Err wrong) sent = tt

sent_by_head : (items : List Item) (read : Result Head Wrong) → refused_field items ≡ None → head_of (sound_fields items) ≡ read
    → IfOk (message_of read (sound_fields items)) (IsSentAt items)
sent_by_head items (Ok head) sound is = sent_by_body items head (body_of (kind_of head.kind) (sound_fields items)) (head-sent items head sound is)
sent_by_head items (Err wrong) sound is = tt

sent_by_walk : (items : List Item) (refused : Option Wrong) → refused_field items ≡ refused → IfOk (decoded_before refused (sound_fields items)) (IsSentAt items)
sent_by_walk items None is = sent_by_head items (head_of (sound_fields items)) is refl
sent_by_walk items (Some wrong) is = tt

pub decoded_sent : (items : List Item) → IfOk (decoded items) (IsSentAt items)
unfolding decoded
decoded_sent items = sent_by_walk items (refused_field items) refl
