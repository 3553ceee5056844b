use Rattle.std.proofs.Common.{◌≡◌, take}
use Rattle.blot_console.specs.Founds.{lines_by, refusal_text}
use Rattle.blot_console.proofs.found.refusals_text.Given as goal

abbrev pub invariant-loop-place : goal.invariant-loop-place
invariant-loop-place l = l.text.items ≡ lines_by refusal_text (take l.place l.rows) l.makers
