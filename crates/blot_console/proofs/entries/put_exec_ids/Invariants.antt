use Rattle.std.proofs.Common.{◌≡◌, ◌++◌, take, flat_map}
use Rattle.blot_console.specs.Replies.{word_text}
use Rattle.blot_console.proofs.entries.put_exec_ids.Given as goal

abbrev pub invariant-loop-key : goal.invariant-loop-key
invariant-loop-key l = l.text.items ≡ l.initial.text.items ++ flat_map (λ key. word_text key.id) (take l.key-index l.execs)
