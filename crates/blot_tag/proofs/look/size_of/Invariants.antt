use Rattle.std.proofs.Common.{◌≡◌, ◌≤◌, drop}
use Rattle.blot_tag.specs.Looking.{size_of}
use Rattle.blot_tag.proofs.look.size_of.Given as goal

abbrev pub invariant-loop-count : goal.invariant-loop-count
invariant-loop-count l =
    (size_of 0 0 l.rest ≡ size_of l.count l.size (drop l.count l.rest)) × (l.size ≤ 65536)
