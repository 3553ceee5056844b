use Rattle.std.proofs.Common.{◌+◌, ◌≤◌, length}
use Rattle.blot_types.specs.declared.TheConstants.{ITEMS_MAX}
use Rattle.blot_console.specs.declared.allocate.TheConstants.{EXECS_PLACE}
use Rattle.blot_console.specs.Allocate.{execs_of}
use Rattle.blot_console.proofs.AllocateLemmas.{ExecsFront}
use Rattle.blot_console.proofs.allocate.execs_of.Given as goal

abbrev pub invariant-loop-word : goal.invariant-loop-word
invariant-loop-word l =
    record {
      front : ExecsFront l.execs l.peer l.place l.word-iterator (execs_of l.peer EXECS_PLACE l.fn.words);
      within : l.place + length l.word-iterator ≤ EXECS_PLACE + ITEMS_MAX;
    }
