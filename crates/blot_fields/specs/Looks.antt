-- What a walk over the fields of an allocation sees of its groups.
use Rattle.std.specs.Prelude.{◌≡◌, ◌+◌, Bool, not, ◌&&◌, ◌||◌, List, if◌then◌else◌}
use Rattle.std.specs.List.{list_any}
use Rattle.blot_tag.specs.Fields.{TagValue}
use Rattle.blot_fields.specs.declared.groups.Look.{Look}
use Rattle.blot_fields.specs.Groups.{bears, before, behind, count_of, is_of_line, some_line_lacks_price}

-- a field begins a line: an AllocAccount behind NoAllocs
abbrev pub begins_line : Look → TagValue → Bool
begins_line look field = look.is_behind_lines && bears 79 field

-- what is seen with one field more: the step of that walk, and no more than that. What its end means is IsLook
abbrev pub look_with : Look → TagValue → Look
look_with look field = record {
  executions = look.executions + (if bears 17 field then 1 else 0);
  executions_behind = look.executions_behind + (if look.is_behind_executions && bears 17 field then 1 else 0);
  lines = look.lines + (if bears 79 field then 1 else 0);
  has_stray = look.has_stray || (is_of_line field && not (look.is_line_begun || begins_line look field));
  some_lacks_price = look.some_lacks_price || (bears 79 field && look.last_lacks_price);
  is_behind_executions = look.is_behind_executions || bears 124 field;
  is_behind_lines = look.is_behind_lines || bears 78 field;
  is_line_begun = look.is_line_begun || begins_line look field;
  last_lacks_price = if bears 79 field then look.is_behind_lines else (look.last_lacks_price && not (bears 366 field));
}

-- what a walk over all fields has seen is what their definitions say
pub record IsLook (look : Look) (fields : List TagValue) : Type 0 where
  pub executions : look.executions ≡ count_of 17 fields
  pub executions_behind : look.executions_behind ≡ count_of 17 (behind 124 fields)
  pub lines : look.lines ≡ count_of 79 fields
  pub has_stray : look.has_stray ≡ (list_any is_of_line (before 78 fields) || list_any is_of_line (before 79 (behind 78 fields)))
  pub lacks_price : (look.some_lacks_price || look.last_lacks_price) ≡ some_line_lacks_price fields
