use Rattle.std.proofs.Common.{◌≡◌, map}
use Rattle.blotter.specs.Keeping.{listed_as}
use Rattle.blotter.proofs.kept_day.kept_peers.Given as goal

abbrev pub invariant-loop-it : goal.invariant-loop-it
invariant-loop-it g l = l.listed.items ≡ map listed_as l.yielded
