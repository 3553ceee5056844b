use Rattle.blot_fields.proofs.LookLemmas.{SeesBefore}
use Rattle.blot_fields.proofs.groups.look_over.Given as goal

abbrev pub invariant-loop-field : goal.invariant-loop-field
invariant-loop-field l = SeesBefore l.look l.field-iterator l.fn.fields
