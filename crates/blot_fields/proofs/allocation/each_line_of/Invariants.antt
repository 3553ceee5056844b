use Rattle.std.proofs.Common.{option_map}
use Rattle.blot_fields.specs.Drafts.{draft_of}
use Rattle.blot_fields.specs.Groups.{each_line_of, lines_in}
use Rattle.blot_fields.proofs.LineLemmas.{LinesFront}
use Rattle.blot_fields.proofs.allocation.each_line_of.Given as goal

abbrev pub invariant-loop-field : goal.invariant-loop-field
invariant-loop-field l =
    LinesFront l.average l.lines (option_map draft_of l.line) l.field-iterator (each_line_of l.average (lines_in l.fn.fields))
