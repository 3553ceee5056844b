-- What an Allocation Instruction says, one line a row, in the order of its table (FIX 4.4 volume 5, "Allocation Instruction").
use Rattle.std.specs.Prelude.{ℕ, List, Result, Ok}
use Rattle.blot_tag.specs.Fields.{TagValue}
use Rattle.blot_tag.specs.Results.{◌>>=◌}
use Rattle.blot_fields.specs.declared.{allocation.Allocation.Allocation, allocation.AllocationTerms.AllocationTerms, fault.Wrong.Wrong, kinds.AllocType.AllocType}
use Rattle.blot_fields.specs.declared.allocation.Allocation.TheVariants.{New, Replace, Cancel}
use Rattle.blot_fields.specs.declared.kinds.AllocType.TheVariants as types
use Rattle.blot_fields.specs.Forms.{text_form, side_form, qty_form, day_form}
use Rattle.blot_fields.specs.Groups.{average_of, executions_of, lines_of}
use Rattle.blot_fields.specs.Kinds.{alloc_type_form}
use Rattle.blot_fields.specs.Rows.{needed}

-- what is allocated, and to whom
unfoldable pub terms_of : List TagValue → Result AllocationTerms Wrong
terms_of fields = do
  sign ← needed 54 side_form fields
  symbol ← needed 55 text_form fields
  block ← needed 53 qty_form fields
  average ← average_of fields
  day ← needed 75 day_form fields
  executions ← executions_of fields
  lines ← lines_of average fields
  Ok (record { sign = sign; symbol = symbol; block = block; day = day; executions = executions; lines = lines })

-- the table of an Allocation Instruction's type
abbrev pub allocation_by : AllocType → List ℕ → List TagValue → Result Allocation Wrong
allocation_by types.New id fields = (do
  terms ← terms_of fields
  Ok (New id terms))
allocation_by types.Replace id fields = (do
  reference ← needed 72 text_form fields
  terms ← terms_of fields
  Ok (Replace id reference terms))
allocation_by types.Cancel id fields = (do
  reference ← needed 72 text_form fields
  Ok (Cancel id reference))

-- an Allocation Instruction
unfoldable pub allocation_of : List TagValue → Result Allocation Wrong
allocation_of fields = do
  id ← needed 70 text_form fields
  alloc_type ← needed 71 alloc_type_form fields
  allocation_by alloc_type id fields
