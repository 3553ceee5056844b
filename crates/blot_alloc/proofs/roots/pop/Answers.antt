use Rattle.std.proofs.Common.{◌+◌, drop}
use Rattle.blot_types.specs.Keys.{same_exec}
use Rattle.blot_places.specs.Places.{places_in}
use Rattle.blot_alloc.proofs.RootLemmas.{drop_step, step-change}
use Rattle.blot_alloc.proofs.roots.pop.Goals as goal

pub loop-root-preserved : goal.loop-root-preserved
loop-root-preserved c =
    let roots = c.args.roots.now in
    let index = c.loop-root.root-index in
    let root = c.root-item.result in
    let is = drop_step roots index root c.loop-root-test.true c.root-item.is in
    let holds = c.loop-root.invariant in
    step-change (drop 1) root (drop index roots) (drop (index + 1) roots) roots (places_in same_exec c.loop-root.places) (places_in same_exec c.pop.new.self) (places_in same_exec c.args.places.now) is holds.1 holds.0 c.pop.ensures
