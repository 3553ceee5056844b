use Rattle.std.proofs.Common.{◌≡◌, ◌-◌, ◌≤◌, ◌++◌, length, drop}
use Rattle.blot_tag.specs.Frames.{BeginsWithFrame}
use Rattle.blot_recovery.specs.Moments.{IsOrWasRead}
use Rattle.blot_recovery.specs.Walking.{IsTakenTo}
use Rattle.blot_recovery.proofs.walking.take_all.Given as goal

abbrev pub invariant-loop-at : goal.invariant-loop-at
invariant-loop-at g l = record {
  clean : l.reader.skipped ≡ 0;
  within : l.at ≤ length (g.P.Pieces.text l.fn.text);
  text_is : g.P.Pieces.text l.text ≡ g.P.Pieces.text l.fn.text;
  read : IsOrWasRead g.P.Pieces.Reads l.fn.text l.text;
  readable : g.P.Pieces.IsReadable l.text;
  ends : BeginsWithFrame l.reader.unread → ⊥;
  taken : IsTakenTo g.T.Takes.After l.fn.taker (g.P.Pieces.text l.fn.text) (l.reader.unread ++ drop l.at (g.P.Pieces.text l.fn.text)) l.place l.taker;
}

abbrev pub decreases-loop-at : goal.decreases-loop-at
decreases-loop-at g l = length (g.P.Pieces.text l.fn.text) - l.at
