use Rattle.blot_diary.proofs.PlainLemmas.{plain_counts}
use Rattle.blot_diary.proofs.framing.DiaryFrameKeeper.keeps_plain.Goals as goal

pub returns : goal.returns
returns g c = plain_counts c.is_plain.result c.args.text.now c.is_plain.ensures
