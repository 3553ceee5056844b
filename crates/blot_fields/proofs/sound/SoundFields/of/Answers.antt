use Rattle.blot_fields.proofs.WalkLemmas.{length-sound_fields}
use Rattle.blot_fields.proofs.sound.SoundFields.of.Goals as goal

pub returns-clause-few : goal.returns-clause-few
returns-clause-few c = length-sound_fields c.fields.result
