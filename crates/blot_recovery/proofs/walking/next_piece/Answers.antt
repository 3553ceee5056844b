use Rattle.std.proofs.Common.{drop, length, ◌∙◌}
use Rattle.blot_recovery.proofs.WalkLemmas.{piece-of}
use Rattle.blot_recovery.proofs.walking.next_piece.Goals as goal

pub returns-clause-bytes : goal.returns-clause-bytes
returns-clause-bytes g c =
    piece-of (g.P.Pieces.text c.args.text.now) c.read.new.buffer (drop (length c.read.new.buffer) c.in_ok-piece.piece.items) c.args.at c.in_ok-piece.piece.len
    (length c.deref_mut.result.now) c.in_ok-read.ensures.bytes c.deref_mut.ensures.len (c.read.auto.buffer ∙ c.deref_mut.ensures.len)
