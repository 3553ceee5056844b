use Rattle.blot_report.proofs.StandingLemmas.{standing-told}
use Rattle.blot_report.proofs.standing.told_at.Goals as goal

pub returns-clause-standing : goal.returns-clause-standing
returns-clause-standing c = standing-told c.args.told.now c.args.place c.index-told-place.result c.requires.all c.requires.within c.index-told-place.is
