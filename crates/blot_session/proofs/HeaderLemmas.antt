-- The header of a frame of fields without a fault is read again.
use Rattle.std.proofs.Common.{◌≡◌, ℕ, ◌+◌, ◌^◌, ◌<◌, ◌≤◌, Bool, true, false, List, [], ◌∷◌, ◌++◌, length, map, None, Some, Result, Ok, Err, refl, sym, ap, ◌∙◌, inl, inr, cond, subst, arith, length-append, lit<, ◌==◌, codes, filter, IfOk, is_none, nat_lt, not, ℤ, if◌then◌else◌, decimal, eqb-true, le-leb, lt-ltb, ne_eqb}
use Rattle.std.specs.List.{list_any}
use Rattle.std.specs.Option.{option_or}
use Rattle.std.specs.Result.{result_ok}
use Rattle.std.proofs.lemmas.Bool.{and_from, cases_Bool, cond-true, cond-false, false≢true, or_parts}
use Rattle.std.proofs.lemmas.List.Elements.{All-head, All-tail}
use Rattle.blot_time.specs.Moment.{moment_of, moment_text}
use Rattle.blot_tag.specs.Fields.{TagValue, fields_of, field_of}
use Rattle.blot_tag.specs.Results.{◌>>=◌}
use Rattle.blot_tag.specs.Frames.{IsFrame, first_fields, trailer_of}
use Rattle.blot_tag.specs.Writing.{Written, body_of, check_sum_field, frame_fields, frame_of, front_text}
use Rattle.blot_tag.proofs.FrameLemmas.{length-frame-le}
use Rattle.blot_types.specs.Text.{is_text}
use Rattle.blot_fields.specs.declared.{head.Head.Head, message.Body.Body}
use Rattle.blot_fields.specs.Decoding.{decoded, decoded_before, message_of, message_under}
use Rattle.blot_fields.specs.Forms.{flag_form, moment_form, number_form, sequence_form, text_form, time_read, within}
use Rattle.blot_fields.specs.Kinds.{kind_of}
use Rattle.blot_fields.specs.Messages.{head_of, body_of as body_of_table}
use Rattle.blot_fields.specs.Numbers.{head_in}
use Rattle.blot_fields.specs.Rows.{at, needed, needed_in, only, optional, optional_in, there, values, one_of}
use Rattle.blot_fields.specs.Walk.{field_wrong, refused_behind, sound_behind, sound_fields, with_others}
use Rattle.blot_session.specs.declared.{outbound.Outbound.Outbound, state.State.State}
use Rattle.blot_session.specs.declared.outbound.Outbound.TheVariants.{Logon, Heartbeat, TestRequest, ResendRequest, Reject, GapFill, Logout, Unsupported, AllocationAck}
use Rattle.blot_session.specs.declared.replies.SeenReply.TheVariants.{Accepted, Refused}
use Rattle.blot_session.specs.Outbound.{AreShort, IsShort, body_fields, field_if, header_fields, is_gap_fill, kind_of as kind_of_message, number_of}
use Rattle.blot_session.specs.Runs.{said_by}
use Rattle.blot_session.specs.Sending.{number_by, number_used}
use Rattle.blot_session.proofs.ShortLemmas.{is_number-decimal, number_of-decimal, short_decimal, short_text}

-- ---- the walk

abbrev pub EachSome : List TagValue → Type 0
EachSome [] = Unit {0}
EachSome (field ∷ fields) = (0 < length field.value) × EachSome fields

pub EachSome-push : (fields : List TagValue) (field : TagValue) → EachSome fields → 0 < length field.value → EachSome (fields ++ field ∷ [])
EachSome-push [] field each some = (some, tt)
EachSome-push (first ∷ fields) field each some = (each.0, EachSome-push fields field each.1 some)

pub short-some : (fields : List TagValue) → AreShort fields → EachSome fields
short-some [] short = tt
short-some (field ∷ fields) short =
    ((All-head (λ f. IsShort f.value) field fields short).some, short-some fields (All-tail (λ f. IsShort f.value) field fields short))

field_wrong-none : (before : ℕ) (field : TagValue) → before < 2000 → 0 < length field.value → field_wrong before field ≡ None
unfolding field_wrong
field_wrong-none before field few some =
    cond-true (nat_lt before 2000) _ _ (lt-ltb before 2000 few) ∙ cond-false _ _ _ (ne_eqb (length field.value) 0 (λ none. omega (arith, none)))

pub walked : (before : ℕ) (fields : List TagValue) → before + length fields ≤ 2000 → EachSome fields
    → (refused_behind before (map Ok fields) ≡ None) × (sound_behind before (map Ok fields) ≡ fields)
walked before [] few some = (refl, refl)
walked before (field ∷ fields) few some =
    let well = field_wrong-none before field (omega arith) some.0 in
    let later = walked (before + 1) fields (omega arith) some.1 in (
      ap (λ found. option_or found (refused_behind (before + 1) (map Ok fields))) well ∙ later.0,
      ap (λ found. with_others (if is_none found then Some field else None) (sound_behind (before + 1) (map Ok fields))) well
          ∙ ap (λ others. field ∷ others) later.1,
    )

-- ---- the header

text_row : (tag : ℕ) (fields : List TagValue) (value : List ℕ) → values tag fields ≡ value ∷ [] → is_text value ≡ true
    → needed tag text_form fields ≡ Ok value
unfolding needed there only text_form
text_row tag fields value is reads = ap (λ found. needed_in tag text_form (one_of found)) is ∙ ap (at tag) (cond-true _ _ _ reads)

number_row : (tag : ℕ) (fields : List TagValue) (n : ℕ) → values tag fields ≡ decimal n ∷ [] → 1 ≤ n → n ≤ 999_999_999
    → needed tag sequence_form fields ≡ Ok n
unfolding needed there only number_form
number_row tag fields n is low high =
    ap (λ found. needed_in tag sequence_form (one_of found)) is
    ∙ ap (at tag) (cond-true _ _ _ (is_number-decimal n (omega arith)) ∙ ap (within 1 999_999_999) (number_of-decimal n (omega arith))
    ∙ cond-true _ _ _ (and_from _ _ (le-leb 1 n low) (le-leb n 999_999_999 high)))

moment_row : (tag : ℕ) (fields : List TagValue) (moment : ℤ) → values tag fields ≡ moment_text moment ∷ [] → moment_of (moment_text moment) ≡ Ok moment
    → needed tag moment_form fields ≡ Ok moment
unfolding needed there only moment_form
moment_row tag fields moment is reads = ap (λ found. needed_in tag moment_form (one_of found)) is ∙ ap (at tag) (ap time_read reads)

-- what is read of a header
abbrev pub head_with : List ℕ → List ℕ → List ℕ → ℕ → ℤ → Head
head_with kind own to number now = record { kind = kind; sender = own; target = to; number = number; dup = false; sending = now }

-- its values can be read
pub record IsReadable (own to : List ℕ) (number : ℕ) (now : ℤ) : Type 0 where
  pub from : is_text own ≡ true
  pub target : is_text to ≡ true
  pub low : 1 ≤ number
  pub high : number ≤ 999_999_999
  pub sent : moment_of (moment_text now) ≡ Ok now

-- fields are of a message with this header, which is sent for the first time
pub record HasHeader (fields : List TagValue) (kind own to : List ℕ) (number : ℕ) (now : ℤ) : Type 0 where
  pub kinds : values 35 fields ≡ kind ∷ []
  pub from : values 49 fields ≡ own ∷ []
  pub target : values 56 fields ≡ to ∷ []
  pub numbered : values 34 fields ≡ decimal number ∷ []
  pub sent : values 52 fields ≡ moment_text now ∷ []
  pub once : values 43 fields ≡ []

pub head_of-plain : (fields : List TagValue) (kind own to : List ℕ) (number : ℕ) (now : ℤ) → is_text kind ≡ true → HasHeader fields kind own to number now
    → IsReadable own to number now → head_of fields ≡ Ok (head_with kind own to number now)
unfolding head_of optional only
head_of-plain fields kind own to number now text has reads =
    rw (
      text_row 35 fields kind has.kinds text,
      text_row 49 fields own has.from reads.from,
      text_row 56 fields to has.target reads.target,
      number_row 34 fields number has.numbered reads.low reads.high,
      moment_row 52 fields now has.sent reads.sent,
      has.once,
    ) refl

-- a mark of one that was sent before is read, whatever becomes of the rows before it
flag_row : (fields : List TagValue) → values 43 fields ≡ codes "Y" ∷ [] → optional 43 flag_form fields ≡ Ok (Some true)
unfolding optional only flag_form
flag_row fields is = ap (λ found. optional_in 43 flag_form (one_of found)) is

abbrev read_by : {E : Type 0} → Result (List ℕ) E → Result (List ℕ) E → Result (List ℕ) E → Result ℕ E → Result ℤ E → Result Head E
read_by kind sender target number sending = do
  kind ← kind
  sender ← sender
  target ← target
  number ← number
  sending ← sending
  Ok (record { kind = kind; sender = sender; target = target; number = number; dup = true; sending = sending })

read-marked : {E : Type 0} (kind sender target : Result (List ℕ) E) (number : Result ℕ E) (sending : Result ℤ E)
    → number_by (result_ok (read_by kind sender target number sending)) ≡ []
read-marked (Err wrong) sender target number sending = refl
read-marked (Ok kind) (Err wrong) target number sending = refl
read-marked (Ok kind) (Ok sender) (Err wrong) number sending = refl
read-marked (Ok kind) (Ok sender) (Ok target) (Err wrong) sending = refl
read-marked (Ok kind) (Ok sender) (Ok target) (Ok number) (Err wrong) = refl
read-marked (Ok kind) (Ok sender) (Ok target) (Ok number) (Ok sending) = refl

pub marked : (fields : List TagValue) → values 43 fields ≡ codes "Y" ∷ [] → number_by (result_ok (head_of fields)) ≡ []
unfolding head_of
marked fields is =
    rw (flag_row fields is)
    (read-marked (needed 35 text_form fields) (needed 49 text_form fields) (needed 56 text_form fields) (needed 34 sequence_form fields) (needed 52 moment_form fields))

-- ---- a message

pub short_body : (message : Written) → IsFrame (frame_of message) → length (body_of message) < 2 ^ 64
short_body message valid =
    let body = body_of message in
    omega (
      arith,
      length-frame-le (frame_of message) valid,
      length-append (front_text message) (trailer_of (front_text message)),
      length-append (first_fields (decimal (length body))) body,
    )

-- no field of it is refused, so it is what its header and the rows of its own table say
pub decoded-whole : (message : Written) → IsFrame (frame_of message) → is_text message.kind ≡ true → EachSome message.fields → length message.fields ≤ 100
    → decoded (map Ok (frame_fields message)) ≡ message_of (head_of (frame_fields message)) (frame_fields message)
unfolding decoded
decoded-whole message valid text some few =
    let fields = frame_fields message in
    let size = (short_decimal (length (body_of message)) (short_body message valid)).some in
    let each : EachSome fields = (lit< tt, (size, ((short_text message.kind text).some, EachSome-push message.fields _ some (lit< tt)))) in
    let both = walked 0 fields (omega (arith, length-append message.fields (check_sum_field (front_text message) ∷ []), few)) each in
    ap (λ refused. decoded_before refused (sound_fields (map Ok fields))) both.0 ∙ ap (decoded_before None) both.1

head-read : (read : Result Head _) (fields : List TagValue) → head_in (message_of read fields) ≡ result_ok read
head-read (Err wrong) fields = refl
head-read (Ok head) fields = under (body_of_table (kind_of head.kind) fields)
  where
    under : (body : Result Body _) → head_in (message_under head body) ≡ Some head
    under (Ok body) = refl
    under (Err wrong) = refl

-- ---- the number that a message bears

-- a tag of the header
abbrev is_header_tag : ℕ → Bool
is_header_tag tag = list_any (λ other. tag == other) (34 ∷ 35 ∷ 43 ∷ 49 ∷ 52 ∷ 56 ∷ [])

values-behind : (tag : ℕ) (fields rest : List TagValue) → is_header_tag tag ≡ true → list_any (λ f. is_header_tag f.tag) fields ≡ false
    → values tag (fields ++ rest) ≡ values tag rest
values-behind tag [] rest head none = refl
values-behind tag (field ∷ fields) rest head none =
    let parts = or_parts (is_header_tag field.tag) (list_any (λ f. is_header_tag f.tag) fields) none in
    let other : (field.tag == tag) ≡ false =
    elim (cases_Bool (field.tag == tag)) [
      | inl same ↦ absurd (false≢true (sym parts.0 ∙ ap is_header_tag (eqb-true field.tag tag same) ∙ head))
      | inr not ↦ not
    ] in
    ap (λ b. map (λ f. f.value) (cond b (field ∷ filter (λ f. f.tag == tag) (fields ++ rest)) (filter (λ f. f.tag == tag) (fields ++ rest)))) other
    ∙ values-behind tag fields rest head parts.1

-- some few fields, none of them of the header
record IsBare (fields : List TagValue) : Type 0 where
  pub none : list_any (λ f. is_header_tag f.tag) fields ≡ false
  pub few : length fields ≤ 4

bare : (message : Outbound) (next : ℕ) (now : ℤ) → IsBare (body_fields message next now)
bare (Logon heartbeat true) next now = record { none = refl; few = omega arith }
bare (Logon heartbeat false) next now = record { none = refl; few = omega arith }
bare (Heartbeat (Some id)) next now = record { none = refl; few = omega arith }
bare (Heartbeat None) next now = record { none = refl; few = omega arith }
bare TestRequest next now = record { none = refl; few = omega arith }
bare (ResendRequest begin) next now = record { none = refl; few = omega arith }
bare (Reject number tag reason) next now = by_tag (not (tag == 0))
  where
    by_tag : (names : Bool) → IsBare (field_of 45 (decimal number) ∷ (field_if names 371 (decimal tag) ++ field_of 373 (decimal reason) ∷ []))
    by_tag true = record { none = refl; few = omega arith }
    by_tag false = record { none = refl; few = omega arith }
bare (GapFill begin) next now = record { none = refl; few = omega arith }
bare Logout next now = record { none = refl; few = omega arith }
bare (Unsupported number kind) next now = record { none = refl; few = omega arith }
bare (AllocationAck id Accepted) next now = record { none = refl; few = omega arith }
bare (AllocationAck id (Refused refusal)) next now = record { none = refl; few = omega arith }

abbrev header : List ℕ → List ℕ → ℕ → Bool → ℤ → List TagValue
header own peer number gap now =
    field_of 49 own ∷ field_of 56 peer ∷ field_of 34 (decimal number) ∷ (field_if gap 43 (codes "Y") ++ field_of 52 (moment_text now) ∷ field_if gap 122 (moment_text now))

abbrev headed : List ℕ → List ℕ → List ℕ → ℕ → Bool → ℤ → List TagValue → Written
headed kind own peer number gap now body = record { kind = kind; fields = header own peer number gap now ++ body }

number-read : (kind own peer : List ℕ) (number : ℕ) (gap : Bool) (now : ℤ) (body : List TagValue) → is_text kind ≡ true → IsBare body
    → (gap ≡ false → IsReadable own peer number now)
    → number_by (result_ok (head_of (frame_fields (headed kind own peer number gap now body)))) ≡ (if gap then [] else number ∷ [])
number-read kind own peer number true now body text other reads =
    let message = headed kind own peer number true now body in
    marked (frame_fields message) (ap (λ behind. codes "Y" ∷ behind) (values-behind 43 body (check_sum_field (front_text message) ∷ []) refl other.none))
number-read kind own peer number false now body text other reads =
    let message = headed kind own peer number false now body in
    let behind : (tag : ℕ) → is_header_tag tag ≡ true → values tag (body ++ check_sum_field (front_text message) ∷ []) ≡ values tag (check_sum_field (front_text message) ∷ []) =
    λ tag head. values-behind tag body (check_sum_field (front_text message) ∷ []) head other.none in
    ap (λ read. number_by (result_ok read)) (head_of-plain (frame_fields message) kind own peer number now text
    (record {
      kinds = ap (λ more. kind ∷ more) (behind 35 refl);
      from = ap (λ more. own ∷ more) (behind 49 refl);
      target = ap (λ more. peer ∷ more) (behind 56 refl);
      numbered = ap (λ more. decimal number ∷ more) (behind 34 refl);
      sent = ap (λ more. moment_text now ∷ more) (behind 52 refl);
      once = behind 43 refl;
    })
    (reads refl))

few-header : (own peer : List ℕ) (number : ℕ) (gap : Bool) (now : ℤ) → length (header own peer number gap now) ≤ 6
few-header own peer number true now = omega arith
few-header own peer number false now = omega arith

unmarked : (message : Outbound) (next : ℕ) → is_gap_fill message ≡ false → number_of message next ≡ next
unmarked (Logon heartbeat reset) next is = refl
unmarked (Heartbeat id) next is = refl
unmarked TestRequest next is = refl
unmarked (ResendRequest begin) next is = refl
unmarked (Reject number tag reason) next is = refl
unmarked (GapFill begin) next is = absurd cc
unmarked Logout next is = refl
unmarked (Unsupported number kind) next is = refl
unmarked (AllocationAck id reply) next is = refl

-- what is sent bears its number
pub bears : (state : State) (message : Outbound) (now : ℤ) (text : List ℕ) → is_text (kind_of_message message) ≡ true → is_text state.own ≡ true → is_text state.peer ≡ true
    → moment_of (moment_text now) ≡ Ok now → 1 ≤ state.next → state.next ≤ 999_999_999
    → AreShort (header_fields state message now ++ body_fields message state.next now) → IsFrame text
    → text ≡ frame_of (record { kind = kind_of_message message; fields = header_fields state message now ++ body_fields message state.next now })
    → fields_of text ≡ map Ok (frame_fields (record { kind = kind_of_message message; fields = header_fields state message now ++ body_fields message state.next now }))
    → number_by (head_in (said_by text)) ≡ number_used message state.next
bears state message now text kind own peer sent low high short valid is read =
    let number = number_of message state.next in
    let body = body_fields message state.next now in
    let other = bare message state.next now in
    let fields = header_fields state message now ++ body in
    let whole : Written = record { kind = kind_of_message message; fields = fields } in
    let few : length fields ≤ 100 =
    (let front = few-header state.own state.peer number (is_gap_fill message) now in let back = other.few in omega (arith, length-append (header_fields state message now) body, front, back)) in
    ap (λ items. number_by (head_in (decoded items))) read
    ∙ ap (λ said. number_by (head_in said)) (decoded-whole whole (subst IsFrame is valid) kind (short-some fields short) few)
    ∙ ap number_by (head-read (head_of (frame_fields whole)) (frame_fields whole))
    ∙ number-read (kind_of_message message) state.own state.peer number (is_gap_fill message) now body kind other
    (λ first. record {
      from = own;
      target = peer;
      low = subst (λ n. 1 ≤ n) (sym (unmarked message state.next first)) low;
      high = subst (λ n. n ≤ 999_999_999) (sym (unmarked message state.next first)) high;
      sent = sent;
    })

-- so does a frame that was made of it
pub bears-made : {A E : Type 0} (items : A → List ℕ) (result : Result A E) (made whole : Written) (numbers : List ℕ) → made ≡ whole
    → IfOk result (λ frame. items frame ≡ frame_of made) → IfOk result (λ frame. IsFrame (items frame))
    → IfOk result (λ frame. fields_of (items frame) ≡ map Ok (frame_fields made))
    → ((text : List ℕ) → IsFrame text → text ≡ frame_of whole → fields_of text ≡ map Ok (frame_fields whole) → number_by (head_in (said_by text)) ≡ numbers)
    → IfOk result (λ frame. number_by (head_in (said_by (items frame))) ≡ numbers)
bears-made items (Ok frame) made whole numbers is text valid fields bears =
    bears (items frame) valid (text ∙ ap frame_of is) (fields ∙ ap (λ message. map Ok (frame_fields message)) is)
bears-made items (Err fail) made whole numbers is text valid fields bears = tt
