use Rattle.blot_fields.proofs.IndexLemmas.{missing_everywhere}
use Rattle.blot_fields.proofs.index.no_occurrences.Goals as goal
use Rattle.blot_fields.specs.declared.index.TheConstants.{ROWS}
use Rattle.blot_fields.specs.Index.{row_of}

pub returns : goal.returns
returns c = λ tag low. missing_everywhere ROWS (row_of tag) low
