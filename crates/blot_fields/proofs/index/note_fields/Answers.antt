use Rattle.std.proofs.Common.{◌≡◌, Ok, ◌∷◌, refl, sym, ◌∙◌, arith}
use Rattle.blot_tag.specs.Views.{tag_value}
use Rattle.blot_fields.proofs.IndexLemmas.{known_behind, refused_later}
use Rattle.blot_fields.proofs.WalkLemmas.{field_wrong-few}
use Rattle.blot_fields.proofs.index.note_fields.Goals as goal

pub loop-item-preserved : goal.loop-item-preserved
loop-item-preserved c =
    let items = c.loop-item.item-iterator in
    let rest = c.next.new.self in
    let field = tag_value c.in-Ok.field in
    let is : items ≡ Ok field ∷ rest = c.in-Some.ensures.steps ∙ rw c.in-Ok.is refl in
    let sound = sym c.field_wrong.ensures.value ∙ c.in_default.is in
    let few = field_wrong-few c.loop-item.before field sound in
    record {
      known = known_behind _ c.loop-item.before items rest field c.loop-item.occurrences c.note.new.occurrences is sound c.note.ensures c.loop-item.invariant.known;
      refused = refused_later _ c.loop-item.before items rest field is sound c.loop-item.invariant.refused;
      few = omega arith;
    }
