use Rattle.std.proofs.lemmas.Bool.Decides.{Decides-at}
use Rattle.blot_desk.proofs.EqualLemmas.{event_same}
use Rattle.blot_diary.proofs.framing.are_same.Goals as goal

pub returns : goal.returns
returns c = λ yes. (Decides-at _ _ c.eq.ensures (event_same _ _)).0 yes
