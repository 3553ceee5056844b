-- A message is well, or its first fault is answered.
use Rattle.std.proofs.Common.{◌≡◌, ◌↔◌, ℕ, Bool, true, false, List, [], ◌∷◌, Option, Some, None, Result, Ok, Err, refl, sym, ap, ◌∙◌, if◌then◌else◌, IsOk, IfErr}
use Rattle.std.specs.Option.{option_or}
use Rattle.std.specs.Result.{result_err}
use Rattle.blot_tag.specs.Fields.{TagValue, Item}
use Rattle.blot_types.specs.Text.{is_text}
use Rattle.blot_fields.specs.declared.{fault.FieldFault.FieldFault, fault.Flaw.TheVariants.ValueIncorrect, fault.Wrong.Wrong, head.Head.Head, kinds.AllocType.AllocType, message.Body.Body, message.Message.Message, kinds.Kind.Kind}
use Rattle.blot_fields.specs.declared.kinds.AllocType.TheVariants as allocs
use Rattle.blot_fields.specs.declared.kinds.Kind.TheVariants as kinds
use Rattle.blot_fields.specs.Allocations.{terms_of, allocation_by, allocation_of}
use Rattle.blot_fields.specs.Decoding.{message_under, message_of, decoded_before, decoded}
use Rattle.blot_fields.specs.Forms.{text_form, sequence_form, moment_form, flag_form}
use Rattle.blot_fields.specs.Kinds.{kind_of, alloc_type_form}
use Rattle.blot_fields.specs.Messages.{head_of, body_of}
use Rattle.blot_fields.specs.Rows.{needed, optional}
use Rattle.blot_fields.specs.Tables.IsFault.{in_walk, in_header, in_table}
use Rattle.blot_fields.specs.Tables.{Row, AreWell, IsFirstFault, IsWell, IsFault, value_or_empty, header_rows, terms_rows, alloc_rows, allocation_rows, body_rows, message_rows}
use Rattle.blot_fields.specs.Walk.{sound_fields, refused_field}
use Rattle.blot_fields.proofs.GroupLemmas.{bound, form-said, average-row, groups-rows}
use Rattle.blot_fields.proofs.TableLemmas.{first_fault, step, last, needs-row, head-rows, logon-rows, test_request-rows, resend_request-rows, sequence_reset-rows, report-rows}

-- ---- the tables

terms-rows : (fields : List TagValue) → result_err (terms_of fields) ≡ first_fault fields (terms_rows fields)
unfolding terms_of
terms-rows fields = search (step, needs-row, average-row, groups-rows) depth 40

alloc-rows : (id : List ℕ) (fields : List TagValue) (alloc_type : AllocType) → result_err (allocation_by alloc_type id fields) ≡ first_fault fields (alloc_rows (Ok alloc_type) fields)
alloc-rows id fields allocs.New = search (last, terms-rows) depth 20
alloc-rows id fields allocs.Replace = search (step, last, needs-row, terms-rows) depth 20
alloc-rows id fields allocs.Cancel = search (step, needs-row) depth 20

allocation-rows : (fields : List TagValue) → result_err (allocation_of fields) ≡ first_fault fields (allocation_rows fields)
unfolding allocation_of
allocation-rows fields =
    step (needed 70 text_form fields) _ _ _ (needs-row 70 text_form fields)
    (λ id is. step (needed 71 alloc_type_form fields) (λ alloc_type. allocation_by alloc_type id fields) _ _ (needs-row 71 alloc_type_form fields)
    (λ alloc_type is. rw (form-said 71 alloc_type_form fields alloc_type is) (alloc-rows id fields alloc_type)))

body-rows : (kind : Kind) (fields : List TagValue) → result_err (body_of kind fields) ≡ first_fault fields (body_rows kind fields)
body-rows kinds.Logon fields = search (last, logon-rows) depth 20
body-rows kinds.Heartbeat fields = refl
body-rows kinds.TestRequest fields = search (last, test_request-rows) depth 20
body-rows kinds.ResendRequest fields = search (last, resend_request-rows) depth 20
body-rows kinds.Reject fields = refl
body-rows kinds.SequenceReset fields = search (last, sequence_reset-rows) depth 20
body-rows kinds.Logout fields = refl
body-rows kinds.Report fields = search (last, report-rows) depth 20
body-rows kinds.Allocation fields = search (last, allocation-rows) depth 20
body-rows kinds.Other fields = refl

-- ---- what the rows find, in a reader's words

-- no row finds a fault exactly if each row is well
well_of : (fields : List TagValue) (rows : List Row) → first_fault fields rows ≡ None → AreWell fields rows
well_of fields [] none = tt
well_of fields (row ∷ rows) none = by_row (row fields) refl none (well_of fields rows)
  where
    by_row : (found : Option Wrong) → row fields ≡ found → option_or found (first_fault fields rows) ≡ None
        → (first_fault fields rows ≡ None → AreWell fields rows) → AreWell fields (row ∷ rows)
    by_row None is none others = (is, others none)
    by_row (Some wrong) is none others = absurd cc

none_of : (fields : List TagValue) (rows : List Row) → AreWell fields rows → first_fault fields rows ≡ None
none_of fields [] well = refl
none_of fields (row ∷ rows) well = rw well.0 (none_of fields rows well.1)

-- the fault that is found is the first
first_of_rows : (fields : List TagValue) (rows : List Row) (wrong : Wrong) → first_fault fields rows ≡ Some wrong → IsFirstFault fields rows wrong
first_of_rows fields [] wrong some = absurd cc
first_of_rows fields (row ∷ rows) wrong some = by_row (row fields) refl some (first_of_rows fields rows wrong)
  where
    by_row : (found : Option Wrong) → row fields ≡ found → option_or found (first_fault fields rows) ≡ Some wrong
        → (first_fault fields rows ≡ Some wrong → IsFirstFault fields rows wrong) → IsFirstFault fields (row ∷ rows) wrong
    by_row None is some others =
        let later = others some in
        record { before = row ∷ later.before; row = later.row; behind = later.behind; table = ap (λ rest. row ∷ rest) later.table; well = (is, later.well); found = later.found }
    by_row (Some other) is some others = record { before = []; row = row; behind = rows; table = refl; well = tt; found = is ∙ some }

-- the header's type is the first value of 35
text-said : (value kind : List ℕ) → text_form value ≡ Ok kind → value ≡ kind
unfolding text_form
text-said value kind is = by_text (is_text value) is
  where
    by_text : (fits : Bool) → (if fits then Ok value else Err ValueIncorrect) ≡ Ok kind → value ≡ kind
    by_text true is = cc
    by_text false is = absurd cc

abbrev read_head : Head → Result Head Wrong
read_head head = Ok head

same_kind : (one other : Head) → read_head one ≡ read_head other → one.kind ≡ other.kind
same_kind one other is = let same : one ≡ other = cc in ap (λ (head : Head). head.kind) same

head-kind : (fields : List TagValue) (head : Head) → head_of fields ≡ Ok head → value_or_empty 35 fields ≡ head.kind
unfolding head_of
head-kind fields head is =
    let kind = bound (needed 35 text_form fields) _ head is in
    let sender = bound (needed 49 text_form fields) _ head kind.2 in
    let target = bound (needed 56 text_form fields) _ head sender.2 in
    let number = bound (needed 34 sequence_form fields) _ head target.2 in
    let sending = bound (needed 52 moment_form fields) _ head number.2 in
    let dup = bound (optional 43 flag_form fields) _ head sending.2 in
    text-said (value_or_empty 35 fields) kind.0 (form-said 35 text_form fields kind.0 kind.1) ∙ same_kind _ head dup.2

-- ---- what is decoded

header-rows : (fields : List TagValue) (read : Result Head Wrong) → head_of fields ≡ read → first_fault fields header_rows ≡ result_err read
header-rows fields read is = sym (head-rows fields) ∙ ap result_err is

table-rows : (fields : List TagValue) (head : Head) (body : Result Body Wrong) → head_of fields ≡ Ok head → body_of (kind_of head.kind) fields ≡ body
    → first_fault fields (message_rows fields) ≡ result_err body
table-rows fields head body is_head is =
    ap (λ kind. first_fault fields (body_rows (kind_of kind) fields)) (head-kind fields head is_head) ∙ sym (body-rows (kind_of head.kind) fields) ∙ ap result_err is

-- a message is well, or the fault is its first
abbrev Outcome : List Item → Result Message FieldFault → Type 0
Outcome items (Ok message) = IsWell items
Outcome items (Err fault) = IsFault items fault

outcome_of_body : (items : List Item) (head : Head) (body : Result Body Wrong) → refused_field items ≡ None → head_of (sound_fields items) ≡ Ok head
    → body_of (kind_of head.kind) (sound_fields items) ≡ body → Outcome items (message_under head body)
outcome_of_body items head (Ok body) sound is_head is =
    let fields = sound_fields items in
    record {
      walk = sound;
      header = well_of fields header_rows (header-rows fields (Ok head) is_head);
      table = well_of fields (message_rows fields) (table-rows fields head (Ok body) is_head is);
    }
outcome_of_body items head (Err wrong) sound is_head is =
    let fields = sound_fields items in
    in_table items head wrong sound (well_of fields header_rows (header-rows fields (Ok head) is_head)) is_head
    (first_of_rows fields (message_rows fields) wrong (table-rows fields head (Err wrong) is_head is))

outcome_of_head : (items : List Item) (read : Result Head Wrong) → refused_field items ≡ None → head_of (sound_fields items) ≡ read
    → Outcome items (message_of read (sound_fields items))
outcome_of_head items (Ok head) sound is = outcome_of_body items head (body_of (kind_of head.kind) (sound_fields items)) sound is refl
outcome_of_head items (Err wrong) sound is =
    in_header items wrong sound (first_of_rows (sound_fields items) header_rows wrong (header-rows (sound_fields items) (Err wrong) is))

outcome_of_walk : (items : List Item) (refused : Option Wrong) → refused_field items ≡ refused → Outcome items (decoded_before refused (sound_fields items))
outcome_of_walk items None is = outcome_of_head items (head_of (sound_fields items)) is refl
outcome_of_walk items (Some wrong) is = in_walk items wrong is

outcome : (items : List Item) → Outcome items (decoded items)
unfolding decoded
outcome items = outcome_of_walk items (refused_field items) refl

-- a result without a fault
ok_of : {A : Type 0} (read : Result A Wrong) → result_err read ≡ None → (value : A) × (read ≡ Ok value)
ok_of (Ok value) none = (value, refl)
ok_of (Err wrong) none = absurd cc

well_is_ok : (items : List Item) → IsWell items → IsOk (decoded items)
unfolding decoded
well_is_ok items well =
    let fields = sound_fields items in
    let head = ok_of (head_of fields) (head-rows fields ∙ none_of fields header_rows well.header) in
    let body = ok_of (body_of (kind_of head.0.kind) fields) (body-rows (kind_of head.0.kind) fields ∙ ap (λ kind. first_fault fields (body_rows (kind_of kind) fields)) (sym (head-kind fields head.0 head.1)) ∙ none_of fields (message_rows fields) well.table) in
    rw (well.walk, head.1, body.1) refl

outcome_ok : (items : List Item) (result : Result Message FieldFault) → Outcome items result → IsOk result → IsWell items
outcome_ok items (Ok message) outcome ok = outcome
outcome_ok items (Err fault) outcome ok = absurd cc

pub decoded_well : (items : List Item) → IsOk (decoded items) ↔ IsWell items
decoded_well items = (λ ok. outcome_ok items (decoded items) (outcome items) ok, well_is_ok items)

outcome_err : (items : List Item) (result : Result Message FieldFault) → Outcome items result → IfErr result (λ fault. IsFault items fault)
outcome_err items (Ok message) outcome = tt
outcome_err items (Err fault) outcome = outcome

pub decoded_fault : (items : List Item) → IfErr (decoded items) (λ fault. IsFault items fault)
decoded_fault items = outcome_err items (decoded items) (outcome items)
