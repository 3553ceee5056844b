-- The rows of a message find its first fault.
use Rattle.std.proofs.Common.{◌≡◌, ℕ, Bool, true, false, List, [], ◌∷◌, ◌++◌, Option, Some, None, Result, Ok, Err, refl, sym, ap, ◌∙◌, if◌then◌else◌, option_map}
use Rattle.std.specs.Option.{option_or}
use Rattle.std.specs.Result.{result_err}
use Rattle.blot_tag.specs.Fields.{TagValue}
use Rattle.blot_tag.specs.Results.{◌>>=◌}
use Rattle.blot_fields.specs.declared.{fault.Flaw.Flaw, fault.Wrong.Wrong, kinds.ExecType.ExecType}
use Rattle.blot_fields.specs.Messages.{head_of, logon_of, test_request_of, resend_request_of, sequence_reset_of, size_part, order_size_of, execution_of, trade_of, correct_of, bust_of, report_of, report_by}
use Rattle.blot_fields.specs.Kinds.{exec_type_of}
use Rattle.blot_fields.specs.declared.kinds.ExecType.TheVariants as execs
use Rattle.blot_fields.specs.Rows.{values, has, is_there, one_of, at, wrong, only, there, there_in, needed, optional, optional_in}
use Rattle.blot_fields.specs.Forms.{any_form, qty_form}
use Rattle.blot_fields.specs.declared.report.OrderSize.TheVariants.{Given}
use Rattle.blot_fields.specs.Tables.{Row, needs, needs_size, may_have, needed_wrong, optional_wrong, header_rows, logon_rows, test_request_rows, resend_request_rows, sequence_reset_rows, execution_rows, trade_rows, correct_rows, bust_rows, exec_rows, report_rows, first_of, value_or_empty}

-- the fault of the first row that finds one
abbrev pub first_fault : List TagValue → List Row → Option Wrong
first_fault fields [] = None
first_fault fields (row ∷ rows) = option_or (row fields) (first_fault fields rows)

-- the fault of a row, and else of what follows it
pub step : {A B : Type 0} (read : Result A Wrong) (next : A → Result B Wrong) (found rest : Option Wrong)
    → result_err read ≡ found → ((value : A) → read ≡ Ok value → result_err (next value) ≡ rest) → result_err (read >>= next) ≡ option_or found rest
step (Ok value) next found rest is others = rw (← is) (others value refl)
step (Err wrong) next found rest is others = rw (← is) refl

-- a row that is needed
needed_by : {A : Type 0} (tag : ℕ) (form : List ℕ → Result A Flaw) (all : List (List ℕ))
    → result_err (there_in tag (one_of all) >>= λ value. at tag (form value)) ≡ needed_wrong tag form all
needed_by tag form [] = refl
needed_by tag form (value ∷ []) = by_form (form value)
  where
    by_form : {A : Type 0} (read : Result A Flaw) → result_err (at tag read) ≡ option_map (wrong tag) (result_err read)
    by_form (Ok said) = refl
    by_form (Err flaw) = refl
needed_by tag form (value ∷ second ∷ more) = refl

pub needs-row : {A : Type 0} (tag : ℕ) (form : List ℕ → Result A Flaw) (fields : List TagValue) → result_err (needed tag form fields) ≡ needs tag form fields
unfolding needed there only needs
needs-row tag form fields = needed_by tag form (values tag fields)

-- a row that may be there
optional_by : {A : Type 0} (tag : ℕ) (form : List ℕ → Result A Flaw) (all : List (List ℕ))
    → result_err (optional_in tag form (one_of all)) ≡ optional_wrong tag form all
optional_by tag form [] = refl
optional_by tag form (value ∷ []) = by_form (form value)
  where
    by_form : {A : Type 0} (read : Result A Flaw) → result_err (at tag read >>= λ said. Ok (Some said)) ≡ option_map (wrong tag) (result_err read)
    by_form (Ok said) = refl
    by_form (Err flaw) = refl
optional_by tag form (value ∷ second ∷ more) = refl

pub may_have-row : {A : Type 0} (tag : ℕ) (form : List ℕ → Result A Flaw) (fields : List TagValue) → result_err (optional tag form fields) ≡ may_have tag form fields
unfolding optional only may_have
may_have-row tag form fields = optional_by tag form (values tag fields)

pub head-rows : (fields : List TagValue) → result_err (head_of fields) ≡ first_fault fields header_rows
unfolding head_of
head-rows fields = search (step, needs-row, may_have-row) depth 30

pub logon-rows : (fields : List TagValue) → result_err (logon_of fields) ≡ first_fault fields logon_rows
unfolding logon_of
logon-rows fields = search (step, needs-row, may_have-row) depth 30

pub test_request-rows : (fields : List TagValue) → result_err (test_request_of fields) ≡ first_fault fields test_request_rows
unfolding test_request_of
test_request-rows fields = search (step, needs-row) depth 30

pub resend_request-rows : (fields : List TagValue) → result_err (resend_request_of fields) ≡ first_fault fields resend_request_rows
unfolding resend_request_of
resend_request-rows fields = search (step, needs-row) depth 30

pub sequence_reset-rows : (fields : List TagValue) → result_err (sequence_reset_of fields) ≡ first_fault fields sequence_reset_rows
unfolding sequence_reset_of
sequence_reset-rows fields = search (step, needs-row, may_have-row) depth 30

-- a field that must be there, with any value
there_by : (tag : ℕ) (all : List (List ℕ)) → result_err (there_in tag (one_of all)) ≡ needed_wrong tag any_form all
unfolding any_form
there_by tag [] = refl
there_by tag (value ∷ []) = refl
there_by tag (value ∷ second ∷ more) = refl

pub there-row : (tag : ℕ) (fields : List TagValue) → result_err (there tag fields) ≡ needs tag any_form fields
unfolding there only needs
there-row tag fields = there_by tag (values tag fields)

-- CumQty or LeavesQty
pub then_done : {A B : Type 0} (read : Result A Wrong) (done : A → B) → result_err (read >>= λ value. Ok (done value)) ≡ result_err read
then_done (Ok value) done = refl
then_done (Err wrong) done = refl

pub size-row : (tag : ℕ) (fields : List TagValue) → result_err (size_part tag fields) ≡ needs_size tag fields
unfolding size_part needs_size
size-row tag fields = by_has (has 38 fields)
  where
    by_has : (sized : Bool)
        → result_err (if sized then (there tag fields >>= λ value. Ok None) else (needed tag qty_form fields >>= λ qty. Ok (Some qty)))
        ≡ (if sized then needs tag any_form fields else needs tag qty_form fields)
    by_has true = then_done (there tag fields) (λ value. None) ∙ there-row tag fields
    by_has false = then_done (needed tag qty_form fields) (λ qty. Some qty) ∙ needs-row tag qty_form fields

-- OrderQty, after these
has_by : {A : Type 0} (tag : ℕ) (form : List ℕ → Result A Flaw) (all : List (List ℕ)) → is_there (one_of all) ≡ true → needed_wrong tag form all ≡ optional_wrong tag form all
has_by tag form [] there = absurd cc
has_by tag form (value ∷ []) there = refl
has_by tag form (value ∷ second ∷ more) there = refl

has_not_by : {A : Type 0} (tag : ℕ) (form : List ℕ → Result A Flaw) (all : List (List ℕ)) → is_there (one_of all) ≡ false → None ≡ optional_wrong tag form all
has_not_by tag form [] there = refl
has_not_by tag form (value ∷ []) there = absurd cc
has_not_by tag form (value ∷ second ∷ more) there = absurd cc

-- a value that was read, or wasn't
none_read : {A : Type 0} (read : Result A Wrong) (found : Option ℕ) → (read >>= λ value. Ok None) ≡ Ok found → found ≡ None
none_read (Ok value) found is = cc
none_read (Err wrong) found is = absurd cc

some_read : (read : Result ℕ Wrong) (found : Option ℕ) → (read >>= λ qty. Ok (Some qty)) ≡ Ok found → (qty : ℕ) × (found ≡ Some qty)
some_read (Ok qty) found is = (qty, cc)
some_read (Err wrong) found is = absurd cc

sized-row : (fields : List TagValue) → has 38 fields ≡ true → result_err (needed 38 qty_form fields >>= λ qty. Ok (Given qty)) ≡ optional_wrong 38 qty_form (values 38 fields)
unfolding has only needs
sized-row fields sized =
    then_done (needed 38 qty_form fields) (λ qty. Given qty) ∙ needs-row 38 qty_form fields ∙ has_by 38 qty_form (values 38 fields) sized

unsized-row : (fields : List TagValue) → has 38 fields ≡ false → None ≡ optional_wrong 38 qty_form (values 38 fields)
unfolding has only
unsized-row fields unsized = has_not_by 38 qty_form (values 38 fields) unsized

pub order_size-row : (fields : List TagValue) (cum leaves : Option ℕ) → size_part 14 fields ≡ Ok cum → size_part 151 fields ≡ Ok leaves
    → result_err (order_size_of cum leaves fields) ≡ may_have 38 qty_form fields
unfolding size_part order_size_of may_have
order_size-row fields cum leaves first second = by_has (has 38 fields) refl first second
  where
    by_has : (sized : Bool) → has 38 fields ≡ sized
        → (if sized then (there 14 fields >>= λ value. Ok None) else (needed 14 qty_form fields >>= λ qty. Ok (Some qty))) ≡ Ok cum
        → (if sized then (there 151 fields >>= λ value. Ok None) else (needed 151 qty_form fields >>= λ qty. Ok (Some qty))) ≡ Ok leaves
        → result_err (order_size_of cum leaves fields) ≡ optional_wrong 38 qty_form (values 38 fields)
    by_has true is first second = rw (none_read (there 14 fields) cum first) (sized-row fields is)
    by_has false is first second =
        let cum_read = some_read (needed 14 qty_form fields) cum first in
        let leaves_read = some_read (needed 151 qty_form fields) leaves second in
        rw (cum_read.1, leaves_read.1) (unsized-row fields is)

pub execution-rows : (order id : List ℕ) (fields : List TagValue) → result_err (execution_of order id fields) ≡ first_fault fields execution_rows
unfolding execution_of
execution-rows order id fields = search (step, there-row, needs-row, may_have-row, size-row, order_size-row) depth 60

-- the last rows, whose message holds what they say
pub last : {A B : Type 0} (read : Result A Wrong) (done : A → B) (found : Option Wrong) → result_err read ≡ found → result_err (read >>= λ value. Ok (done value)) ≡ found
last read done found is = then_done read done ∙ is

pub trade-rows : (fields : List TagValue) → result_err (trade_of fields) ≡ first_fault fields trade_rows
unfolding trade_of
trade-rows fields = search (step, last, needs-row, execution-rows) depth 30

pub correct-rows : (fields : List TagValue) → result_err (correct_of fields) ≡ first_fault fields correct_rows
unfolding correct_of
correct-rows fields = search (step, last, needs-row, execution-rows) depth 30

pub bust-rows : (fields : List TagValue) → result_err (bust_of fields) ≡ first_fault fields bust_rows
unfolding bust_of
bust-rows fields = search (step, needs-row) depth 30

exec-rows : (exec_type : ExecType) (fields : List TagValue) → result_err (report_by exec_type fields) ≡ first_fault fields (exec_rows exec_type)
exec-rows execs.Trade fields = trade-rows fields
exec-rows execs.Correct fields = correct-rows fields
exec-rows execs.Bust fields = bust-rows fields
exec-rows execs.Other fields = refl

-- the value that was read is the first
first_by : (tag : ℕ) (all : List (List ℕ)) (value : List ℕ) → there_in tag (one_of all) ≡ Ok value → first_of all ≡ value
first_by tag [] value is = absurd cc
first_by tag (first ∷ []) value is = cc
first_by tag (first ∷ second ∷ more) value is = absurd cc

pub first-there : (tag : ℕ) (fields : List TagValue) (value : List ℕ) → there tag fields ≡ Ok value → value_or_empty tag fields ≡ value
unfolding there only
first-there tag fields value is = first_by tag (values tag fields) value is

pub report-rows : (fields : List TagValue) → result_err (report_of fields) ≡ first_fault fields (report_rows fields)
unfolding report_of
report-rows fields =
    step (there 150 fields) (λ value. report_by (exec_type_of value) fields) (needs 150 any_form fields) (first_fault fields (exec_rows (exec_type_of (value_or_empty 150 fields)))) (there-row 150 fields)
    (λ value is. rw (first-there 150 fields value is) (exec-rows (exec_type_of value) fields))

pub option_or-or : {A : Type 0} (a b c : Option A) → option_or (option_or a b) c ≡ option_or a (option_or b c)
option_or-or None b c = refl
option_or-or (Some x) b c = refl

-- the rows of a table and then those of another
pub first_fault-append : (fields : List TagValue) (rows others : List Row) → first_fault fields (rows ++ others) ≡ option_or (first_fault fields rows) (first_fault fields others)
first_fault-append fields [] others = refl
first_fault-append fields (row ∷ rows) others =
    ap (option_or (row fields)) (first_fault-append fields rows others) ∙ sym (option_or-or (row fields) (first_fault fields rows) (first_fault fields others))
