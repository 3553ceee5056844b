use Rattle.std.proofs.Common.{◌+◌, ◌*◌, ◌^◌, ◌<◌, ◌≤◌, length}
use Rattle.blot_types.specs.declared.TheConstants.{ITEMS_MAX}
use Rattle.blot_console.specs.declared.allocate.TheConstants.{EXECS_PLACE}
use Rattle.blot_console.specs.Allocate.{lines_of}
use Rattle.blot_console.proofs.AllocateLemmas.{LinesFront}
use Rattle.blot_console.proofs.allocate.lines_of.Given as goal

abbrev pub invariant-loop-first : goal.invariant-loop-first
invariant-loop-first l =
    record {
      front : LinesFront l.lines l.sum (lines_of l.price l.place l.words) (lines_of l.price l.fn.place l.fn.words);
      small : l.sum < 2 ^ 64;
      within : l.place + length l.words ≤ EXECS_PLACE + 3 * ITEMS_MAX;
    }

abbrev pub decreases-loop-first : goal.decreases-loop-first
decreases-loop-first l = length l.words
