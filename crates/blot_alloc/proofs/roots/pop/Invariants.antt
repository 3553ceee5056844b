use Rattle.std.proofs.Common.{◌≡◌, true, drop}
use Rattle.blot_types.specs.Instructions.{are_apart}
use Rattle.blot_types.specs.Keys.{same_exec}
use Rattle.blot_places.specs.Places.{places_in}
use Rattle.blot_alloc.proofs.RootLemmas.{ChangeEach}
use Rattle.blot_alloc.proofs.roots.pop.Given as goal

abbrev pub invariant-loop-root : goal.invariant-loop-root
invariant-loop-root l =
    ChangeEach (λ places. drop 1 places) (drop l.root-index l.roots) l.roots (places_in same_exec l.places) (places_in same_exec l.initial.places)
    × (are_apart (drop l.root-index l.roots) ≡ true)
