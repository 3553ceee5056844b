use Rattle.std.proofs.Common.{◌≡◌, take, filter}
use Rattle.blot_types.specs.Survivors.{links_of, stands_in, versions_of}
use Rattle.blot_model.proofs.surviving.survivors.Given as goal

abbrev pub invariant-loop-entry : goal.invariant-loop-entry
invariant-loop-entry l = l.versions.items ≡ filter (stands_in (links_of l.list)) (versions_of (take l.entry-index l.list))
