use Rattle.std.proofs.Common.{◌-◌, ◌≤◌, length}
use Rattle.blot_tag.specs.Finding.{NeitherBefore}
use Rattle.blot_tag.specs.Sums.{IsSummed}
use Rattle.blot_tag.proofs.find.find.Given as goal

abbrev pub invariant-loop-length : goal.invariant-loop-length
invariant-loop-length l = (l.place ≤ length l.text) × NeitherBefore l.place l.text × IsSummed l.text l.known

abbrev pub decreases-loop-length : goal.decreases-loop-length
decreases-loop-length l = length l.text - l.place
