use Rattle.std.proofs.Common.{◌≡◌, drop}
use Rattle.blot_ask.specs.Typed.{with_tabs, words_of}
use Rattle.blot_ask.specs.Typing.{comes_on_to}
use Rattle.blot_ask.proofs.typing.tabbed.Given as goal

abbrev pub invariant-loop-byte : goal.invariant-loop-byte
invariant-loop-byte l = comes_on_to l.typing (drop l.byte-index l.line) ≡ with_tabs (words_of l.line)
