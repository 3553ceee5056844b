use Rattle.std.proofs.Common.{◌≡◌}
use Rattle.blot_tag.specs.Fields.{fields_of}
use Rattle.blot_tag.specs.Views.{text_of}
use Rattle.blot_fields.specs.First.{first_value}
use Rattle.blot_fields.proofs.first.first_value.Given as goal

abbrev pub invariant-loop-item : goal.invariant-loop-item
invariant-loop-item l = first_value l.tag l.item-iterator ≡ first_value l.tag (fields_of (text_of l.frame))
