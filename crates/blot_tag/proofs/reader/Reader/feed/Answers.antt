use Rattle.std.proofs.Common.{subst, sym}
use Rattle.blot_tag.specs.Walking.{IsWalk}
use Rattle.blot_tag.proofs.WalkLemmas.{walk_of-append, is_walk, only_walk}
use Rattle.blot_tag.proofs.reader.Reader.feed.Goals as goal

pub returns-clause-cut : goal.returns-clause-cut
returns-clause-cut c = walk_of-append c.args.self.now.unread c.args.piece.now

pub returns-clause-walk : goal.returns-clause-walk
returns-clause-walk c walk = (
  λ is. only_walk _ walk is,
  λ same. subst (IsWalk _) (sym same) (is_walk _),
)
