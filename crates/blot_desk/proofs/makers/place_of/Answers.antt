use Rattle.std.proofs.Common.{ap, ◌∙◌}
use Rattle.blot_desk.specs.Makers.{name_at}
use Rattle.blot_desk.proofs.MakerLemmas.{is_there}
use Rattle.blot_desk.proofs.makers.place_of.Goals as goal

pub returns-in-Ok-clause-place : goal.returns-in-Ok-clause-place
returns-in-Ok-clause-place c =
    let keys = c.insert_full.new.self.keys in
    ap (name_at keys) c.in-Ok.ensures.1 ∙ is_there keys c.in_ok-place.place c.args.name.now c.in_ok-place.ensures.stored
