use Rattle.std.proofs.Common.{◌≡◌, take, flat_map}
use Rattle.blot_console.specs.OpenDay.{session_text}
use Rattle.blot_console.proofs.open_day.sessions_text.Given as goal

abbrev pub invariant-loop-line : goal.invariant-loop-line
invariant-loop-line l = l.text.items ≡ flat_map session_text (take l.line-index l.lines)
