use Rattle.blot_fields.specs.Rows.{values}
use Rattle.blot_fields.specs.Groups.{ids_of}
use Rattle.blot_fields.proofs.AllocationLemmas.{IdsFront}
use Rattle.blot_fields.proofs.allocation.ids_of.Given as goal

abbrev pub invariant-loop-field : goal.invariant-loop-field
invariant-loop-field l = IdsFront l.ids l.field-iterator (ids_of (values 17 l.fields))
