use Rattle.std.proofs.Common.{true≢false, inl, inr, refl, sym, ◌∙◌}
use Rattle.std.proofs.lemmas.Result.{IfOk-weaker}
use Rattle.blot_journal.specs.Recovery.{IsOrWas}
use Rattle.blot_journal.proofs.JournalLemmas.{none}
use Rattle.blot_journal.proofs.MomentLemmas.{and_then, goes_on, started}
use Rattle.blot_journal.proofs.recovery.recover.Goals as goal

pub returns-in_err-head-clause-untouched : goal.returns-in_err-head-clause-untouched
returns-in_err-head-clause-untouched g c =
    let device = c.args.device.now in
    let P = IsOrWas (g.D.Device.seen device) (g.D.Device.may_leave device) in
    record { seen_is = refl; any_moment = started g.D.Device.moment g.D.Device.left_since device P (λ f left. inr (g.met.D.Device.only_now device f left)) }

pub returns-in_err-sync-clause-untouched : goal.returns-in_err-sync-clause-untouched
returns-in_err-sync-clause-untouched g c =
    let device = c.args.device.now in
    let P = IsOrWas (g.D.Device.seen device) (g.D.Device.may_leave device) in
    let start = started g.D.Device.moment g.D.Device.left_since device P (λ f left. inr (g.met.D.Device.only_now device f left)) in
    record {
      seen_is = c.sync.ensures.seen;
      any_moment = goes_on g.D.Device.moment g.D.Device.left_since device device c.sync.new.self P _ start c.sync.ensures.time (λ f now. inr (c.sync.ensures.crash f now));
    }

pub returns-clause-untouched : goal.returns-clause-untouched
returns-clause-untouched g c =
    let device = c.args.device.now in
    let P = IsOrWas (g.D.Device.seen device) (g.D.Device.may_leave device) in
    let start = started g.D.Device.moment g.D.Device.left_since device P (λ f left. inr (g.met.D.Device.only_now device f left)) in
    let synced = goes_on g.D.Device.moment g.D.Device.left_since device device c.sync.new.self P _ start c.sync.ensures.time (λ f now. inr (c.sync.ensures.crash f now)) in
    record {
      seen_is = c.find.ensures.seen ∙ c.sync.ensures.seen;
      any_moment = and_then g.D.Device.moment g.D.Device.left_since device c.sync.new.self c.find.new.device P _ synced c.find.ensures.any_moment (λ f is. inl (is ∙ c.sync.ensures.seen));
    }

pub returns-clause-unfailed : goal.returns-clause-unfailed
returns-clause-unfailed g c =
    IfOk-weaker c.find.result _ _ (λ counted found. none (g.D.Device.failures c.args.device.now) (λ failed. true≢false (sym (c.in_ok-sync.ensures.stays failed)))) c.find.ensures.head
