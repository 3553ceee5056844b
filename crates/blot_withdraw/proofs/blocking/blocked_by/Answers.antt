-- What a book is without one of its entries.
use Rattle.blot_types.proofs.BustLemmas.{bust_unneeded}
use Rattle.blot_types.proofs.NeededLemmas.{needed_first}
use Rattle.blot_types.proofs.WithdrawLemmas.{withdrawn}
use Rattle.blot_withdraw.proofs.blocking.blocked_by.Goals as goal

pub returns-clause-first : goal.returns-clause-first
returns-clause-first c = needed_first c.args.tables.now.list c.blocked.ensures.book

pub returns-clause-bust : goal.returns-clause-bust
returns-clause-bust c = bust_unneeded c.args.tables.now.list c.blocked.ensures.book

pub returns-clause-withdrawn : goal.returns-clause-withdrawn
returns-clause-withdrawn c = withdrawn c.args.tables.now.list c.blocked.ensures.book
