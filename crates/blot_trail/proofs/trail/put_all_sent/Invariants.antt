use Rattle.std.proofs.Common.{◌≡◌, ◌++◌, take, flat_map}
use Rattle.blot_trail.specs.TrailText.{action_text}
use Rattle.blot_trail.proofs.trail.put_all_sent.Given as goal

abbrev pub invariant-loop-action : goal.invariant-loop-action
invariant-loop-action l = l.text.items ≡ l.initial.text.items ++ flat_map action_text (take l.action-index l.actions)
