use Rattle.std.proofs.Common.{ap, ◌∙◌, find}
use Rattle.blot_alloc.specs.Allocs.{is_ending}
use Rattle.blot_alloc.proofs.HoldsLemmas.{ending-held}
use Rattle.blot_alloc.proofs.allocs.Allocs.ending.Goals as goal

pub returns : goal.returns
returns c =
    let found = rw c.deref.ensures.value at c.newest_live.ensures in
    let held = ending-held c.self.inside.index c.self.inside.slots.items c.self.invariant c.under.result.now c.args.key.now c.under.ensures in
    found ∙ held ∙ ap (λ shown. find (is_ending c.args.key.now) shown.list) c.self.view_is
