use Rattle.std.proofs.Common.{inl, subst, sym}
use Rattle.blot_journal.specs.Device.{LeavesOnly}
use Rattle.blot_journal.specs.File.{StandsBeforeOrAfter}
use Rattle.blot_journal.specs.Journal.{text_in_journal}
use Rattle.blot_journal.proofs.MomentLemmas.{started}
use Rattle.blot_journal.proofs.journal.Journal.append_durable.Goals as goal

pub returns-in_err-reserve-clause-any_moment : goal.returns-in_err-reserve-clause-any_moment
returns-in_err-reserve-clause-any_moment g c =
    let now = c.args.self.now in
    subst (λ k. LeavesOnly g.D.Device.moment g.D.Device.left_since now.device k.device (StandsBeforeOrAfter (text_in_journal g.D.Device.seen now) c.args.batch.now)) (sym c.reserve.ensures.same)
    (started g.D.Device.moment g.D.Device.left_since now.device _ (λ file left. inl (c.requires.crash file (g.met.D.Device.only_now now.device file left))))
