-- What a rule of refusal asks of one execution.
use Rattle.std.specs.Prelude.{Bool, false, List, reverse}
use Rattle.std.specs.Option.{option_map_or}
use Rattle.blot_types.specs.declared.{allocation.Terms.Terms, command.Entry.Entry, keys.ExecKey.ExecKey}
use Rattle.blot_types.specs.Refusals.{current_fill, differs}

-- whether the last version of an execution is of another instrument or side than the terms
abbrev pub is_other : List Entry → Terms → ExecKey → Bool
is_other list terms key = option_map_or (differs terms) (current_fill (reverse list) key) false
