use Rattle.std.proofs.Common.{reverse, sym, ap, subst, ◌∙◌}
use Rattle.std.proofs.lemmas.List.{reverse-reverse}
use Rattle.blot_places.specs.Slots.{UpToFirst}
use Rattle.blot_alloc.specs.Allocs.{number_of}
use Rattle.blot_alloc.proofs.index.naming_above.Goals as goal

pub places_above-stack-requires : goal.places_above-stack-requires
places_above-stack-requires c =
    subst (UpToFirst number_of c.args.number c.args.slots.now) (ap reverse (sym c.under.ensures) ∙ reverse-reverse c.under.result.now) c.requires
