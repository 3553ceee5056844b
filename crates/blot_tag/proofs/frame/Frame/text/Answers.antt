use Rattle.blot_tag.proofs.FrameLemmas.{frame_kept}
use Rattle.blot_tag.proofs.JoinedLemmas.{are_just, comes_first, has_last, is_joined}
use Rattle.blot_tag.proofs.PlaceLemmas.{are_placed}
use Rattle.blot_tag.proofs.frame.Frame.text.Goals as goal

pub returns-clause-places : goal.returns-clause-places
returns-clause-places c = are_placed

pub returns-clause-first : goal.returns-clause-first
returns-clause-first c = comes_first c.args.self.now.text.now (frame_kept c.args.self.now.text.now c.args.self.now.valid)

pub returns-clause-last : goal.returns-clause-last
returns-clause-last c text = has_last text c.args.self.now.text.now (frame_kept c.args.self.now.text.now c.args.self.now.valid)

pub returns-clause-joined : goal.returns-clause-joined
returns-clause-joined c = are_just

pub returns-clause-back : goal.returns-clause-back
returns-clause-back c = is_joined
