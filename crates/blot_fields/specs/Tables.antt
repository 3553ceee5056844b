-- The tables of the standard as lists of rows, and what it means that a message is well or at fault by them.
use Rattle.std.specs.Prelude.{◌≡◌, ℕ, Bool, List, [], ◌∷◌, ◌++◌, Option, Some, None, Result, Ok, Err, if◌then◌else◌, option_map}
use Rattle.std.specs.Result.{result_ok, result_err}
use Rattle.std.specs.List.{AllByRecursion}
use Rattle.blot_tag.specs.Bytes.{number_of}
use Rattle.blot_tag.specs.Fields.{TagValue, Item}
use Rattle.blot_fields.specs.declared.{fault.FieldFault.FieldFault, fault.Flaw.Flaw, fault.Wrong.Wrong, head.Head.Head, kinds.AllocType.AllocType, kinds.ExecType.ExecType, kinds.Kind.Kind}
use Rattle.blot_fields.specs.declared.fault.Flaw.TheVariants.{RequiredTagMissing, TagRepeated, IncorrectGroupCount}
use Rattle.blot_fields.specs.declared.kinds.AllocType.TheVariants as allocs
use Rattle.blot_fields.specs.declared.kinds.ExecType.TheVariants as execs
use Rattle.blot_fields.specs.declared.kinds.Kind.TheVariants as kinds
use Rattle.blot_fields.specs.Faults.{fault_under}
use Rattle.blot_fields.specs.Forms.{text_form, sequence_form, end_form, seconds_form, count_form, flag_form, zero_form, any_form, qty_form, positive_form, price_form, moment_form, day_form, side_form}
use Rattle.blot_fields.specs.Groups.{behind, are_executions, are_lines, lines_in, some_line_lacks_price}
use Rattle.blot_fields.specs.Kinds.{kind_of, exec_type_of, alloc_type_form}
use Rattle.blot_fields.specs.Messages.{head_of}
use Rattle.blot_fields.specs.Rows.{wrong, values, has}
use Rattle.blot_fields.specs.Walk.{sound_fields, refused_field}

-- a row finds a fault in a message's fields, or finds them well
abbrev pub Row : Type 0
Row = List TagValue → Option Wrong

-- what is wrong with a value
abbrev pub value_wrong : {A : Type 0} → ℕ → (List ℕ → Result A Flaw) → List ℕ → Option Wrong
value_wrong tag form value = option_map (wrong tag) (result_err (form value))

-- what is wrong with the values of a tag, of which there must be one
abbrev pub needed_wrong : {A : Type 0} → ℕ → (List ℕ → Result A Flaw) → List (List ℕ) → Option Wrong
needed_wrong tag form [] = Some (wrong tag RequiredTagMissing)
needed_wrong tag form (value ∷ []) = value_wrong tag form value
needed_wrong tag form (value ∷ second ∷ more) = Some (wrong tag TagRepeated)

-- what is wrong with the values of a tag, of which there may be one
abbrev pub optional_wrong : {A : Type 0} → ℕ → (List ℕ → Result A Flaw) → List (List ℕ) → Option Wrong
optional_wrong tag form [] = None
optional_wrong tag form (value ∷ []) = value_wrong tag form value
optional_wrong tag form (value ∷ second ∷ more) = Some (wrong tag TagRepeated)

-- a row that a message needs
unfoldable pub needs : {A : Type 0} → ℕ → (List ℕ → Result A Flaw) → Row
needs tag form fields = needed_wrong tag form (values tag fields)

-- a row that a message may have
unfoldable pub may_have : {A : Type 0} → ℕ → (List ℕ → Result A Flaw) → Row
may_have tag form fields = optional_wrong tag form (values tag fields)

-- the fields are well by each row
abbrev pub AreWell : List TagValue → List Row → Type 0
AreWell fields rows = AllByRecursion (λ row. row fields ≡ None) rows

-- the fault of the first row that finds one
pub record IsFirstFault (fields : List TagValue) (rows : List Row) (fault : Wrong) : Type 0 where
  pub before : List Row
  pub row : Row
  pub behind : List Row
  pub table : rows ≡ before ++ row ∷ behind
  pub well : AreWell fields before
  pub found : row fields ≡ Some fault

-- the header
abbrev pub header_rows : List Row
header_rows =
    needs 35 text_form ∷ needs 49 text_form ∷ needs 56 text_form ∷ needs 34 sequence_form ∷ needs 52 moment_form
    ∷ may_have 43 flag_form ∷ []

-- a Logon
abbrev pub logon_rows : List Row
logon_rows = needs 98 zero_form ∷ needs 108 seconds_form ∷ may_have 141 flag_form ∷ []

-- a Test Request
abbrev pub test_request_rows : List Row
test_request_rows = needs 112 text_form ∷ []

-- a Resend Request
abbrev pub resend_request_rows : List Row
resend_request_rows = needs 7 sequence_form ∷ needs 16 end_form ∷ []

-- a Sequence Reset
abbrev pub sequence_reset_rows : List Row
sequence_reset_rows = needs 36 sequence_form ∷ may_have 123 flag_form ∷ []

-- CumQty or LeavesQty, whose value counts only where there is no OrderQty
unfoldable pub needs_size : ℕ → Row
needs_size tag fields = if has 38 fields then needs tag any_form fields else needs tag qty_form fields

-- a fill, after its identifiers
abbrev pub execution_rows : List Row
execution_rows =
    needs 39 any_form ∷ needs 6 any_form ∷ needs 54 side_form ∷ needs_size 14 ∷ needs_size 151
    ∷ needs 55 text_form ∷ needs 32 positive_form ∷ needs 31 price_form ∷ may_have 1 text_form
    ∷ may_have 38 qty_form ∷ may_have 60 moment_form ∷ may_have 75 day_form ∷ []

-- a fill with its identifiers
abbrev pub trade_rows : List Row
trade_rows = needs 37 text_form ∷ needs 17 text_form ∷ execution_rows

-- another version of an earlier fill
abbrev pub correct_rows : List Row
correct_rows = needs 37 text_form ∷ needs 17 text_form ∷ needs 19 text_form ∷ execution_rows

-- the end of an earlier fill
abbrev pub bust_rows : List Row
bust_rows = needs 17 text_form ∷ needs 19 text_form ∷ []

-- the first of some values
abbrev pub first_of : List (List ℕ) → List ℕ
first_of [] = []
first_of (value ∷ more) = value

-- the first value of a tag
abbrev pub value_or_empty : ℕ → List TagValue → List ℕ
value_or_empty tag fields = first_of (values tag fields)

-- the rows of a type of Execution Report
abbrev pub exec_rows : ExecType → List Row
exec_rows execs.Trade = trade_rows
exec_rows execs.Correct = correct_rows
exec_rows execs.Bust = bust_rows
exec_rows execs.Other = []

-- an Execution Report: its rows go by ExecType
abbrev pub report_rows : List TagValue → List Row
report_rows fields = needs 150 any_form ∷ exec_rows (exec_type_of (value_or_empty 150 fields))

-- AvgPx, whose value counts only where some line has no AllocPrice
unfoldable pub needs_average : Row
needs_average fields = if some_line_lacks_price fields then needs 6 price_form fields else needs 6 any_form fields

-- a group has as many entries as its count says, in the right place
abbrev pub group_row : ℕ → (ℕ → List TagValue → Bool) → Row
group_row tag are_entries fields =
    if are_entries (number_of (value_or_empty tag fields)) fields then None else Some (wrong tag IncorrectGroupCount)

-- each ExecID
abbrev pub id_rows : List (List ℕ) → List Row
id_rows [] = []
id_rows (value ∷ values) = (λ fields. value_wrong 17 text_form value) ∷ id_rows values

-- each line: its AllocAccount, AllocQty and AllocPrice
abbrev pub line_rows : List (List TagValue) → List Row
line_rows [] = []
line_rows (line ∷ lines) =
    (λ fields. needs 79 text_form line) ∷ (λ fields. needs 80 qty_form line)
    ∷ (λ fields. may_have 366 price_form line) ∷ line_rows lines

-- the executions of an allocation
abbrev pub execution_group : List TagValue → List Row
execution_group fields = needs 124 count_form ∷ group_row 124 are_executions ∷ id_rows (values 17 fields)

-- the lines of an allocation
abbrev pub line_group : List TagValue → List Row
line_group fields = needs 78 count_form ∷ group_row 78 are_lines ∷ line_rows (lines_in (behind 78 fields))

-- what is allocated, and to whom
abbrev pub terms_rows : List TagValue → List Row
terms_rows fields =
    needs 54 side_form ∷ needs 55 text_form ∷ needs 53 qty_form ∷ needs_average ∷ needs 75 day_form
    ∷ (execution_group fields ++ line_group fields)

-- the rows of a type of Allocation Instruction, after the type
abbrev pub alloc_rows : Result AllocType Flaw → List TagValue → List Row
alloc_rows (Ok allocs.New) fields = terms_rows fields
alloc_rows (Ok allocs.Replace) fields = needs 72 text_form ∷ terms_rows fields
alloc_rows (Ok allocs.Cancel) fields = needs 72 text_form ∷ []
alloc_rows (Err flaw) fields = []

-- an Allocation Instruction: its rows go by AllocTransType
abbrev pub allocation_rows : List TagValue → List Row
allocation_rows fields =
    needs 70 text_form ∷ needs 71 alloc_type_form ∷ alloc_rows (alloc_type_form (value_or_empty 71 fields)) fields

-- the table of a message type
abbrev pub body_rows : Kind → List TagValue → List Row
body_rows kinds.Logon fields = logon_rows
body_rows kinds.Heartbeat fields = []
body_rows kinds.TestRequest fields = test_request_rows
body_rows kinds.ResendRequest fields = resend_request_rows
body_rows kinds.Reject fields = []
body_rows kinds.SequenceReset fields = sequence_reset_rows
body_rows kinds.Logout fields = []
body_rows kinds.Report fields = report_rows fields
body_rows kinds.Allocation fields = allocation_rows fields
body_rows kinds.Other fields = []

-- the table of a message, after the header
abbrev pub message_rows : List TagValue → List Row
message_rows fields = body_rows (kind_of (value_or_empty 35 fields)) fields

-- a message is well: no field is refused from the left, and each row is well
pub record IsWell (items : List Item) : Type 0 where
  pub walk : refused_field items ≡ None
  pub header : AreWell (sound_fields items) header_rows
  pub table : AreWell (sound_fields items) (message_rows (sound_fields items))

-- the first fault of a message, and the header where that can be read
pub data IsFault : List Item → FieldFault → Type 0 where
  -- of a field that is refused from the left; the header counts as far as the fields before it give one
  in_walk : (items : List Item) (wrong : Wrong) → refused_field items ≡ Some wrong
      → IsFault items (fault_under (result_ok (head_of (sound_fields items))) wrong)
  -- else of the header
  in_header : (items : List Item) (wrong : Wrong) → refused_field items ≡ None
      → IsFirstFault (sound_fields items) header_rows wrong → IsFault items (fault_under None wrong)
  -- else of the message's own table
  in_table : (items : List Item) (head : Head) (wrong : Wrong) → refused_field items ≡ None
      → AreWell (sound_fields items) header_rows → head_of (sound_fields items) ≡ Ok head
      → IsFirstFault (sound_fields items) (message_rows (sound_fields items)) wrong → IsFault items (fault_under (Some head) wrong)
