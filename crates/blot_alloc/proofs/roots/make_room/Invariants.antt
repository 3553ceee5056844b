use Rattle.std.proofs.Common.{◌≡◌, take, All}
use Rattle.blot_types.specs.declared.keys.ExecKey.{ExecKey}
use Rattle.blot_types.specs.Keys.{same_exec}
use Rattle.blot_places.specs.Places.{HasRoom, places_in}
use Rattle.blot_alloc.proofs.roots.make_room.Given as goal

abbrev pub invariant-loop-root : goal.invariant-loop-root
invariant-loop-root l =
    ((other : ExecKey) → places_in same_exec l.places other ≡ places_in same_exec l.initial.places other)
    × All (HasRoom same_exec l.places) (take l.root-index l.roots)
