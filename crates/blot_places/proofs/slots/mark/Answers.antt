use Rattle.std.proofs.Common.{arith, sym, ap, ◌∙◌, set, rules}
use Rattle.blot_places.specs.Slots.{mark}
use Rattle.blot_places.proofs.SearchLemmas.{marked-at, marked-none}
use Rattle.blot_places.proofs.slots.mark.Goals as goal

pub returns-then-place-slots : goal.returns-then-place-slots
returns-then-place-slots g c =
    let e = c.place_of-place.ensures in
    marked-none g.T.Numbered.number_of c.args.slots.now c.args.number c.args.is_live c.place_of-place.result c.requires e.below e.above (search rules)

pub returns : goal.returns
returns g c =
    let e = c.place_of-place.ensures in
    let slot = c.index-slots-place.result in
    let is = c.index-slots-place.is in
    ap (set c.args.slots.now c.place_of-place.result) (c.mark_one.ensures ∙ ap (mark g.T.Numbered.number_of c.args.number c.args.is_live) (sym is))
    ∙ marked-at g.T.Numbered.number_of c.args.slots.now c.args.number c.args.is_live c.place_of-place.result c.requires e.below e.above slot is (omega arith)
