-- What each message says, one line a row, in the order of its table; the first row at fault answers.
use Rattle.std.specs.Prelude.{ℕ, Bool, false, List, Option, Some, None, Result, Ok, unwrap_or, if◌then◌else◌}
use Rattle.blot_tag.specs.Fields.{TagValue}
use Rattle.blot_tag.specs.Results.{◌>>=◌}
use Rattle.blot_fields.specs.declared.{admin.Admin.Admin, fault.Wrong.Wrong, head.Head.Head, kinds.Kind.Kind, report.Execution.Execution, report.OrderSize.OrderSize, report.Report.Report, kinds.ExecType.ExecType, message.Body.Body}
use Rattle.blot_fields.specs.declared.admin.Admin.TheVariants.{Logon, Heartbeat, TestRequest, ResendRequest, Reject, SequenceReset, Logout}
use Rattle.blot_fields.specs.declared.kinds.Kind.TheVariants as kinds
use Rattle.blot_fields.specs.declared.kinds.ExecType.TheVariants as types
use Rattle.blot_fields.specs.declared.message.Body.TheVariants as bodies
use Rattle.blot_fields.specs.declared.report.OrderSize.TheVariants.{Given, Filled}
use Rattle.blot_fields.specs.declared.report.Report.TheVariants as reports
use Rattle.blot_fields.specs.Allocations.{allocation_of}
use Rattle.blot_fields.specs.Forms.{text_form, sequence_form, end_form, seconds_form, flag_form, zero_form, qty_form, positive_form, price_form, moment_form, day_form, side_form}
use Rattle.blot_fields.specs.Kinds.{exec_type_of}
use Rattle.blot_fields.specs.Rows.{has, there, needed, optional}

-- whether a flag says `Y`; one that is missing doesn't
abbrev pub is_set : Option Bool → Bool
is_set flag = unwrap_or flag false

-- the header (FIX 4.4 volume 2, "Standard message header")
unfoldable pub head_of : List TagValue → Result Head Wrong
head_of fields = do
  kind ← needed 35 text_form fields
  sender ← needed 49 text_form fields
  target ← needed 56 text_form fields
  number ← needed 34 sequence_form fields
  sending ← needed 52 moment_form fields
  dup ← optional 43 flag_form fields
  Ok (record { kind = kind; sender = sender; target = target; number = number; dup = is_set dup; sending = sending })

-- a Logon (FIX 4.4 volume 2, "Administrative messages", as the next three)
unfoldable pub logon_of : List TagValue → Result Admin Wrong
logon_of fields = do
  encryption ← needed 98 zero_form fields
  heartbeat ← needed 108 seconds_form fields
  reset ← optional 141 flag_form fields
  Ok (Logon heartbeat (is_set reset))

-- a Test Request
unfoldable pub test_request_of : List TagValue → Result Admin Wrong
test_request_of fields = do
  id ← needed 112 text_form fields
  Ok (TestRequest id)

-- a Resend Request
unfoldable pub resend_request_of : List TagValue → Result Admin Wrong
resend_request_of fields = do
  begin ← needed 7 sequence_form fields
  end ← needed 16 end_form fields
  Ok (ResendRequest begin end)

-- a Sequence Reset
unfoldable pub sequence_reset_of : List TagValue → Result Admin Wrong
sequence_reset_of fields = do
  new_number ← needed 36 sequence_form fields
  gap_fill ← optional 123 flag_form fields
  Ok (SequenceReset new_number (is_set gap_fill))

-- CumQty or LeavesQty; where there is an OrderQty, its value isn't read
unfoldable pub size_part : ℕ → List TagValue → Result (Option ℕ) Wrong
size_part tag fields =
    if has 38 fields then (do
      value ← there tag fields
      Ok None)
    else (do
      qty ← needed tag qty_form fields
      Ok (Some qty))

-- CumQty and LeavesQty, where they were read, and else OrderQty
unfoldable pub order_size_of : Option ℕ → Option ℕ → List TagValue → Result OrderSize Wrong
order_size_of (Some cum) (Some leaves) fields = Ok (Filled cum leaves)
order_size_of cum leaves fields = do
  qty ← needed 38 qty_form fields
  Ok (Given qty)

-- a fill of an order, after its identifiers (FIX 4.4 volume 4, "Execution Report")
unfoldable pub execution_of : List ℕ → List ℕ → List TagValue → Result Execution Wrong
execution_of order id fields = do
  status ← there 39 fields
  average ← there 6 fields
  sign ← needed 54 side_form fields
  cum ← size_part 14 fields
  leaves ← size_part 151 fields
  symbol ← needed 55 text_form fields
  qty ← needed 32 positive_form fields
  price ← needed 31 price_form fields
  account ← optional 1 text_form fields
  size ← order_size_of cum leaves fields
  transacted ← optional 60 moment_form fields
  trade_date ← optional 75 day_form fields
  Ok (record {
    order = order;
    id = id;
    sign = sign;
    size = size;
    symbol = symbol;
    qty = qty;
    price = price;
    account = account;
    transacted = transacted;
    trade_date = trade_date;
  })

-- a fill with its identifiers
unfoldable pub trade_of : List TagValue → Result Report Wrong
trade_of fields = do
  order ← needed 37 text_form fields
  id ← needed 17 text_form fields
  execution ← execution_of order id fields
  Ok (reports.Trade execution)

-- another version of an earlier fill, which ExecRefID names
unfoldable pub correct_of : List TagValue → Result Report Wrong
correct_of fields = do
  order ← needed 37 text_form fields
  id ← needed 17 text_form fields
  reference ← needed 19 text_form fields
  execution ← execution_of order id fields
  Ok (reports.Correct reference execution)

-- the end of an earlier fill, which ExecRefID names
unfoldable pub bust_of : List TagValue → Result Report Wrong
bust_of fields = do
  id ← needed 17 text_form fields
  reference ← needed 19 text_form fields
  Ok (reports.Bust id reference)

-- the table of an Execution Report's type
abbrev pub report_by : ExecType → List TagValue → Result Report Wrong
report_by types.Trade fields = trade_of fields
report_by types.Correct fields = correct_of fields
report_by types.Bust fields = bust_of fields
report_by types.Other fields = Ok reports.Other

-- an Execution Report: its rows go by ExecType
unfoldable pub report_of : List TagValue → Result Report Wrong
report_of fields = do
  exec_type ← there 150 fields
  report_by (exec_type_of exec_type) fields

-- a message of the session layer
abbrev pub admin_body : Result Admin Wrong → Result Body Wrong
admin_body admin = do
  said ← admin
  Ok (bodies.Admin said)

-- the table of a message type
abbrev pub body_of : Kind → List TagValue → Result Body Wrong
body_of kinds.Logon fields = admin_body (logon_of fields)
body_of kinds.Heartbeat fields = Ok (bodies.Admin Heartbeat)
body_of kinds.TestRequest fields = admin_body (test_request_of fields)
body_of kinds.ResendRequest fields = admin_body (resend_request_of fields)
body_of kinds.Reject fields = Ok (bodies.Admin Reject)
body_of kinds.SequenceReset fields = admin_body (sequence_reset_of fields)
body_of kinds.Logout fields = Ok (bodies.Admin Logout)
body_of kinds.Report fields = (do
  report ← report_of fields
  Ok (bodies.Report report))
body_of kinds.Allocation fields = (do
  allocation ← allocation_of fields
  Ok (bodies.Allocation allocation))
body_of kinds.Other fields = Ok bodies.Other
