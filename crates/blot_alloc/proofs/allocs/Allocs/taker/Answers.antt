use Rattle.std.proofs.Common.{ap, ◌∙◌, reverse, find}
use Rattle.blot_types.specs.Instructions.{is_keyed}
use Rattle.blot_alloc.proofs.HolderLemmas.{keyed_once}
use Rattle.blot_alloc.proofs.HoldsLemmas.{shown-instructed, taker-held}
use Rattle.blot_alloc.proofs.allocs.Allocs.taker.Goals as goal

pub returns-clause-found : goal.returns-clause-found
returns-clause-found c =
    let found = rw c.deref.ensures.value at c.newest_live.ensures in
    let held = taker-held c.self.inside.index c.self.inside.slots.items c.self.invariant c.under.result.now c.args.key.now c.under.ensures in
    found ∙ held ∙ ap (λ shown. find (is_keyed c.args.key.now) shown.list) c.self.view_is

pub returns-clause-once : goal.returns-clause-once
returns-clause-once c =
    keyed_once c.args.self.now.list c.args.key.now (shown-instructed c.self.inside.index (reverse c.self.inside.slots.items) c.args.self.now c.self.invariant c.self.view_is)
