use Rattle.std.proofs.Common.{reverse, sym, ap, subst, ◌∙◌}
use Rattle.blot_types.specs.Instructions.{first_naming}
use Rattle.blot_places.specs.Slots.{UpToFirst}
use Rattle.blot_alloc.specs.Allocs.{number_of}
use Rattle.blot_alloc.specs.Index.{stack_under}
use Rattle.blot_alloc.proofs.NeedLemmas.{naming-held, parted-names, shown-falls}
use Rattle.blot_alloc.proofs.allocs.Allocs.first_naming.Goals as goal

pub naming_above-requires : goal.naming_above-requires
naming_above-requires c =
    subst (λ slots. UpToFirst number_of c.args.number slots (stack_under c.self.inside.index.holders c.args.root.now)) (sym c.deref.ensures.value)
    (parted-names c.self.inside.index c.self.inside.slots.items c.self.invariant c.args.root.now c.args.number)

pub returns-clause-first : goal.returns-clause-first
returns-clause-first c =
    let found = rw c.deref.ensures.value at c.naming_above.ensures in
    found ∙ naming-held c.self.inside.index c.self.inside.slots.items c.self.invariant c.args.root.now c.args.number
    ∙ ap (λ shown. first_naming shown.list c.args.number c.args.root.now) c.self.view_is

pub returns-clause-fall : goal.returns-clause-fall
returns-clause-fall c = shown-falls c.self.inside.index (reverse c.self.inside.slots.items) c.args.self.now c.self.invariant c.self.view_is
