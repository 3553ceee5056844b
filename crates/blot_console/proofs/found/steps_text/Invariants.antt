use Rattle.std.proofs.Common.{◌≡◌, take}
use Rattle.blot_console.specs.Founds.{lines_by, step_text}
use Rattle.blot_console.proofs.found.steps_text.Given as goal

abbrev pub invariant-loop-place : goal.invariant-loop-place
invariant-loop-place l = l.text.items ≡ lines_by step_text (take l.place l.rows) l.makers
