use Rattle.std.proofs.Common.{◌≡◌, ◌++◌, map, take}
use Rattle.blot_trail.specs.TrailText.{shown_byte}
use Rattle.blot_trail.proofs.wording.put_shown.Given as goal

abbrev pub invariant-loop-byte : goal.invariant-loop-byte
invariant-loop-byte l = l.text.items ≡ l.initial.text.items ++ map shown_byte (take l.byte-index l.bytes)
