use Rattle.std.proofs.Common.{◌≡◌, false, length, sym, subst}
use Rattle.blot_journal.specs.Journal.{text_in_journal}
use Rattle.blot_journal.proofs.JournalLemmas.{text_long}
use Rattle.blot_journal.proofs.journal.Journal.len.Goals as goal

pub returns-clause-len : goal.returns-clause-len
returns-clause-len g c =
    let own = c.self.inside in
    subst (λ k. k.is_broken ≡ false → own.size ≡ length (text_in_journal g.D.Device.seen k)) c.self.view_is
    (λ whole. sym (text_long (g.D.Device.seen own.device) own.second own.size (c.self.invariant whole).head))
