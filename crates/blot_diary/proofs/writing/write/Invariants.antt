use Rattle.std.proofs.Common.{drop}
use Rattle.blot_diary.specs.Writing.{fields_in, written}
use Rattle.blot_diary.proofs.WritingLemmas.{Goes}
use Rattle.blot_diary.proofs.writing.write.Given as goal

-- the message with the fields to come is the whole
abbrev pub invariant-loop-tag : goal.invariant-loop-tag
invariant-loop-tag l = Goes (written l.kind (fields_in l.fields)) l.text (fields_in (drop l.tag-index l.fields))
