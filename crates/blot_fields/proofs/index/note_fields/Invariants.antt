use Rattle.std.proofs.Common.{◌≡◌, ◌≤◌}
use Rattle.blot_tag.specs.Fields.{fields_of}
use Rattle.blot_tag.specs.Views.{text_of}
use Rattle.blot_fields.specs.Walk.{sound_behind, refused_behind, sound_fields, refused_field}
use Rattle.blot_fields.specs.Index.{IsIndexBefore}
use Rattle.blot_fields.proofs.index.note_fields.Given as goal
use Rattle.blot_fields.specs.declared.sound.TheConstants.{FIELDS_MAX}

abbrev pub invariant-loop-item : goal.invariant-loop-item
invariant-loop-item l =
    record {
      known : IsIndexBefore (sound_fields (fields_of (text_of l.frame))) (sound_behind l.before l.item-iterator) l.occurrences;
      refused : refused_behind l.before l.item-iterator ≡ refused_field (fields_of (text_of l.frame));
      few : l.before ≤ FIELDS_MAX;
    }
