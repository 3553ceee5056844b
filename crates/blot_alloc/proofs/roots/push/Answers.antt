use Rattle.std.proofs.Common.{◌∷◌, ◌+◌, drop}
use Rattle.blot_types.specs.Keys.{same_exec}
use Rattle.blot_places.specs.Places.{places_in}
use Rattle.blot_alloc.proofs.RootLemmas.{drop_step, step-change, step-room}
use Rattle.blot_alloc.proofs.roots.push.Goals as goal

pub loop-root-preserved : goal.loop-root-preserved
loop-root-preserved c =
    let roots = c.args.roots.now in
    let index = c.loop-root.root-index in
    let root = c.root-item.result in
    let is = drop_step roots index root c.loop-root-test.true c.root-item.is in
    let holds = c.loop-root.invariant in
    let now = places_in same_exec c.loop-root.places in
    let step = step-change (λ places. c.args.place ∷ places) root (drop index roots) (drop (index + 1) roots) roots now (places_in same_exec c.push.new.self) (places_in same_exec c.args.places.now) is holds.2 holds.0 c.push.ensures.places in
    (step.0, step-room root (drop index roots) (drop (index + 1) roots) c.loop-root.places c.push.new.self is holds.2 holds.1 c.push.ensures.kept, step.1)
