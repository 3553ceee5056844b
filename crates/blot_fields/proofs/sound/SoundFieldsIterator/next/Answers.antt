use Rattle.std.proofs.Common.{◌≡◌, None, sym, ap, ◌∙◌, option_map}
use Rattle.blot_tag.specs.Views.{item_of, tag_value}
use Rattle.blot_fields.specs.Walk.{sound_field, sound_behind}
use Rattle.blot_fields.proofs.WalkLemmas.{sound_behind-none, sound_behind-last}
use Rattle.blot_fields.proofs.sound.SoundFieldsIterator.next.Goals as goal

pub returns-in-None-clause-steps : goal.returns-in-None-clause-steps
returns-in-None-clause-steps c =
    let refused : sound_field c.self.inside.before (item_of c.in_ok-item.item) ≡ None = sym c.sound_field.ensures.field ∙ ap (option_map tag_value) c.in-None.is in
    let ended = sym c.self.view_is ∙ ap (sound_behind c.self.inside.before) c.in_ok-item.ensures.steps ∙ sound_behind-none _ _ _ refused in
    (ended, sound_behind-last c.next.new.self)
