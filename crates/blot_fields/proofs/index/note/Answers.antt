use Rattle.std.proofs.Common.{refl, inl, inr}
use Rattle.blot_tag.specs.Views.{tag_value}
use Rattle.blot_fields.specs.declared.occurrence.Occurrence.TheVariants.{Once, Repeated}
use Rattle.blot_fields.proofs.IndexLemmas.{noted, unnoted}
use Rattle.blot_fields.proofs.index.note.Goals as goal

pub returns-in-Missing : goal.returns-in-Missing
returns-in-Missing c =
    noted (tag_value c.args.field) c.row_of-row.result c.args.occurrences.now (Once c.args.field.value) c.row_of-row.ensures c.if-row-lt-ROWS.true c.told-occurrences (rw c.in-Missing.is refl)

pub returns-in-Once : goal.returns-in-Once
returns-in-Once c =
    noted (tag_value c.args.field) c.row_of-row.result c.args.occurrences.now Repeated c.row_of-row.ensures c.if-row-lt-ROWS.true c.told-occurrences
    (elim c.in-Once.is [
      | inl once ↦ rw once.1 refl
      | inr more ↦ rw more refl
    ])

pub returns-else-row-lt-ROWS : goal.returns-else-row-lt-ROWS
returns-else-row-lt-ROWS c = unnoted (tag_value c.args.field) c.row_of-row.result c.args.occurrences.now c.row_of-row.ensures c.if-row-lt-ROWS.false
