-- The groups of an Allocation Instruction: its executions and its lines (FIX 4.4 volume 5; the layout is this project's rule).
use Rattle.std.specs.Prelude.{ℕ, ℤ, ◌==◌, ◌&&◌, ◌||◌, Bool, not, List, [], ◌∷◌, count_by, Option, Some, None, Result, Ok, Err, if◌then◌else◌, ok_or}
use Rattle.std.specs.Option.{option_or}
use Rattle.std.specs.List.{before_first, after_first, list_any}
use Rattle.blot_tag.specs.Fields.{TagValue}
use Rattle.blot_tag.specs.Results.{◌>>=◌}
use Rattle.blot_fields.specs.declared.{allocation.AllocationLine.AllocationLine, fault.Wrong.Wrong}
use Rattle.blot_fields.specs.declared.fault.Flaw.TheVariants.{RequiredTagMissing, IncorrectGroupCount}
use Rattle.blot_fields.specs.Forms.{text_form, count_form, qty_form, price_form}
use Rattle.blot_fields.specs.Rows.{wrong, at, values, there, needed, optional}

-- whether a field has a tag
abbrev pub bears : ℕ → TagValue → Bool
bears tag field = field.tag == tag

-- the fields before the first with a tag
abbrev pub before : ℕ → List TagValue → List TagValue
before tag fields = before_first (bears tag) fields

-- the fields after the first with a tag
abbrev pub behind : ℕ → List TagValue → List TagValue
behind tag fields = after_first (bears tag) fields

-- how many fields have a tag
abbrev pub count_of : ℕ → List TagValue → ℕ
count_of tag fields = count_by (bears tag) fields

-- the ExecIDs are as many as NoExecs says, and all of them stand after it
abbrev pub are_executions : ℕ → List TagValue → Bool
are_executions count fields = (count_of 17 fields == count) && (count_of 17 (behind 124 fields) == count)

-- each value as an ExecID
unfoldable pub ids_of : List (List ℕ) → Result (List (List ℕ)) Wrong
ids_of [] = Ok []
ids_of (value ∷ values) = do
  id ← at 17 (text_form value)
  ids ← ids_of values
  Ok (id ∷ ids)

-- NoExecs and the executions
unfoldable pub executions_of : List TagValue → Result (List (List ℕ)) Wrong
executions_of fields = do
  count ← needed 124 count_form fields
  if are_executions count fields then ids_of (values 17 fields) else Err (wrong 124 IncorrectGroupCount)

-- the fields of each line: one begins at each AllocAccount, and reaches to the next or the end
abbrev pub lines_in : List TagValue → List (List TagValue)
lines_in [] = []
lines_in (field ∷ fields) =
    if bears 79 field then (field ∷ before 79 fields) ∷ lines_in fields else lines_in fields

-- a field that only a line has
abbrev pub is_of_line : TagValue → Bool
is_of_line field = bears 79 field || bears 80 field || bears 366 field

-- the lines are as many as NoAllocs says; no field of a line stands before NoAllocs, or between it and the first line after it
abbrev pub are_lines : ℕ → List TagValue → Bool
are_lines count fields =
    (count_of 79 fields == count)
    && not (list_any is_of_line (before 78 fields))
    && not (list_any is_of_line (before 79 (behind 78 fields)))

-- a line without AllocPrice takes AvgPx
unfoldable pub line_of : Option ℤ → List TagValue → Result AllocationLine Wrong
line_of average line = do
  account ← needed 79 text_form line
  qty ← needed 80 qty_form line
  own ← optional 366 price_form line
  price ← ok_or (option_or own average) (wrong 366 RequiredTagMissing)
  Ok (record { account = account; qty = qty; price = price })

-- each line
unfoldable pub each_line_of : Option ℤ → List (List TagValue) → Result (List AllocationLine) Wrong
each_line_of average [] = Ok []
each_line_of average (line ∷ lines) = do
  first ← line_of average line
  others ← each_line_of average lines
  Ok (first ∷ others)

-- NoAllocs and the lines
unfoldable pub lines_of : Option ℤ → List TagValue → Result (List AllocationLine) Wrong
lines_of average fields = do
  count ← needed 78 count_form fields
  if are_lines count fields then each_line_of average (lines_in (behind 78 fields))
      else Err (wrong 78 IncorrectGroupCount)

-- whether a line has no AllocPrice
abbrev pub lacks_price : List TagValue → Bool
lacks_price line = not (list_any (bears 366) line)

-- whether some line of a message has none
abbrev pub some_line_lacks_price : List TagValue → Bool
some_line_lacks_price fields = list_any lacks_price (lines_in (behind 78 fields))

-- AvgPx, whose value is read only where some line has no AllocPrice
unfoldable pub average_of : List TagValue → Result (Option ℤ) Wrong
average_of fields =
    if some_line_lacks_price fields then (do
      price ← needed 6 price_form fields
      Ok (Some price))
    else (do
      price ← there 6 fields
      Ok None)
