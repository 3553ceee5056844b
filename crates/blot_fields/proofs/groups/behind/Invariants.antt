use Rattle.std.proofs.Common.{◌≡◌, ◌≤◌, length}
use Rattle.blot_fields.specs.Groups.{behind}
use Rattle.blot_fields.proofs.groups.behind.Given as goal

abbrev pub invariant-loop-field : goal.invariant-loop-field
invariant-loop-field l =
    record {
      behind : behind l.tag l.rest ≡ behind l.tag l.fn.fields;
      few : length l.rest ≤ length l.fn.fields;
    }

abbrev pub decreases-loop-field : goal.decreases-loop-field
decreases-loop-field l = length l.rest
