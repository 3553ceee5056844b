use Rattle.std.proofs.Common.{◌≡◌, ℕ, List, false, length, refl, sym, subst, arith, append-nil}
use Rattle.blot_journal.specs.File.{Stands}
use Rattle.blot_journal.specs.Journal.{StandsAmong, contents, text_in_journal}
use Rattle.blot_journal.proofs.BatchesLemmas.{all_text, among, fewer, meanwhile, next_text}
use Rattle.blot_journal.proofs.JournalLemmas.{open_stands}
use Rattle.blot_journal.proofs.MomentLemmas.{and_then, started}
use Rattle.blot_journal.proofs.journal.Journal.append_each.Goals as goal

pub loop-batch-init : goal.loop-batch-init
loop-batch-init g c =
    let now = c.args.self.now in
    let text = text_in_journal g.D.Device.seen now in
    let own = c.self.inside in
    let whole = subst (λ k. k.is_broken ≡ false) (sym c.self.view_is) c.requires.unbroken in
    let crash = subst (λ k. (file : List ℕ) → g.D.Device.may_leave k.device file → Stands (text_in_journal g.D.Device.seen k) file) c.self.view_is
    (open_stands g.D.Device.seen g.D.Device.may_leave own.device own.second own.size (length own.waiting.items) (c.self.invariant whole)) in
    let start = started g.D.Device.moment g.D.Device.left_since now.device (StandsAmong text (contents c.args.batches.now) 0)
    (λ file left. among text c.args.batches.now 0 text (omega arith) (sym (append-nil text)) file (crash file (g.met.D.Device.only_now now.device file left))) in
    (c.requires.unbroken, c.requires.none_waiting, refl, sym (append-nil text), crash, start, omega arith)

pub loop-batch-preserved : goal.loop-batch-preserved
loop-batch-preserved g c =
    let text = text_in_journal g.D.Device.seen c.args.self.now in
    let batches = c.args.batches.now in
    let index = c.loop-batch.batch-index in
    let kept = c.loop-batch.invariant in
    let within = c.loop-batch-test.true in
    let done = c.in_default.ensures in
    let leaves = and_then g.D.Device.moment g.D.Device.left_since c.args.self.now.device c.loop-batch.self.device c.append_durable.new.self.device (StandsAmong text (contents batches) 0) _
    kept.5 done.any_moment (λ file stands. fewer text batches 0 index file (omega arith) (meanwhile text batches index _ within _ kept.3 file stands)) in
    (done.open, done.waiting, omega (arith, kept.2), next_text text batches index _ within _ _ kept.3 done.text, done.crash, leaves, omega (arith, kept.6, done.no_fewer))

pub returns-in-Err-clause-any_moment : goal.returns-in-Err-clause-any_moment
returns-in-Err-clause-any_moment g c =
    let text = text_in_journal g.D.Device.seen c.args.self.now in
    let batches = c.args.batches.now in
    let index = c.loop-batch.batch-index in
    let kept = c.loop-batch.invariant in
    and_then g.D.Device.moment g.D.Device.left_since c.args.self.now.device c.loop-batch.self.device c.append_durable.new.self.device (StandsAmong text (contents batches) 0) _
    kept.5 c.append_durable.ensures.any_moment (λ file stands. fewer text batches 0 index file (omega arith) (meanwhile text batches index _ c.loop-batch-test.true _ kept.3 file stands))

pub returns-in-Err-clause-never_fewer : goal.returns-in-Err-clause-never_fewer
returns-in-Err-clause-never_fewer g c =
    let text = text_in_journal g.D.Device.seen c.args.self.now in
    let batches = c.args.batches.now in
    let index = c.loop-batch.batch-index in
    let kept = c.loop-batch.invariant in
    let during = c.append_durable.ensures.any_moment in
    λ file left. subst (λ n. StandsAmong text (contents batches) n file) (sym kept.2)
    (meanwhile text batches index _ c.loop-batch-test.true _ kept.3 file (during.each file (g.met.D.Device.counts_now c.append_durable.new.self.device _ file during.later left)))

pub returns-clause-text : goal.returns-clause-text
returns-clause-text g c =
    all_text (text_in_journal g.D.Device.seen c.args.self.now) c.args.batches.now c.loop-batch.batch-index _ c.loop-batch.auto.batch-index-end c.loop-batch-test.false c.loop-batch.invariant.3

pub returns-clause-all : goal.returns-clause-all
returns-clause-all g c =
    let text = text_in_journal g.D.Device.seen c.args.self.now in
    let kept = c.loop-batch.invariant in
    λ file left. fewer text c.args.batches.now (length c.args.batches.now) c.loop-batch.batch-index file c.loop-batch-test.false
    (among text c.args.batches.now c.loop-batch.batch-index _ c.loop-batch.auto.batch-index-end kept.3 file (kept.4 file left))
