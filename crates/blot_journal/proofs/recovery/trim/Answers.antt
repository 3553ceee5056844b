use Rattle.std.proofs.Common.{◌≡◌, ◌+◌, take, sym, ap, subst, ◌∙◌}
use Rattle.std.proofs.lemmas.Result.{on_ok_weaker}
use Rattle.blot_journal.specs.File.{HasHead, text_of}
use Rattle.blot_journal.specs.Recovery.{IsCutBehind}
use Rattle.blot_journal.proofs.MomentLemmas.{started, goes_on}
use Rattle.blot_journal.proofs.HeadLemmas.{trimmed}
use Rattle.blot_journal.proofs.RecoveryLemmas.{cut_trims, trim_crash, uncut}
use Rattle.blot_journal.proofs.recovery.trim.Goals as goal

pub returns-in_err-cut-clause-any_moment : goal.returns-in_err-cut-clause-any_moment
returns-in_err-cut-clause-any_moment g c =
    let device = c.args.device.now in
    let counted = c.args.counted in
    let old = g.D.Device.seen device in
    let P = IsCutBehind old in
    let start = started g.D.Device.moment g.D.Device.left_since device P
    (λ f left. subst P (sym (c.requires.durable f (g.met.D.Device.only_now device f left))) (uncut old counted.second counted.size c.requires.head)) in
    goes_on g.D.Device.moment g.D.Device.left_since device device c.cut.new.self P _ start c.cut.ensures.time
    (trim_crash old counted.second counted.size c.requires.head _ _ c.requires.durable c.cut.ensures.crash)

pub returns-clause-any_moment : goal.returns-clause-any_moment
returns-clause-any_moment g c =
    let device = c.args.device.now in
    let counted = c.args.counted in
    let old = g.D.Device.seen device in
    let P = IsCutBehind old in
    let start = started g.D.Device.moment g.D.Device.left_since device P
    (λ f left. subst P (sym (c.requires.durable f (g.met.D.Device.only_now device f left))) (uncut old counted.second counted.size c.requires.head)) in
    let here = trim_crash old counted.second counted.size c.requires.head _ _ c.requires.durable c.cut.ensures.crash in
    let first = goes_on g.D.Device.moment g.D.Device.left_since device device c.cut.new.self P _ start c.cut.ensures.time here in
    goes_on g.D.Device.moment g.D.Device.left_since device c.cut.new.self c.sync.new.self P _ first c.sync.ensures.time (λ f now. here f (c.sync.ensures.crash f now))

pub returns-clause-head : goal.returns-clause-head
returns-clause-head g c =
    let old = g.D.Device.seen c.args.device.now in
    let counted = c.args.counted in
    let new_is : g.D.Device.seen c.sync.new.self ≡ take (counted.size + 4096) old = c.sync.ensures.seen ∙ c.in_ok-cut.ensures.cut in
    on_ok_weaker c.sync.result (λ _. subst (HasHead counted.second counted.size) (sym new_is) (trimmed old counted.second counted.size c.requires.head).0) c.sync.ensures.durable

pub returns-clause-cut : goal.returns-clause-cut
returns-clause-cut g c =
    let old = g.D.Device.seen c.args.device.now in
    let counted = c.args.counted in
    let new_is : g.D.Device.seen c.sync.new.self ≡ take (counted.size + 4096) old = c.sync.ensures.seen ∙ c.in_ok-cut.ensures.cut in
    on_ok_weaker c.sync.result (λ _. new_is ∙ cut_trims old counted.second counted.size c.requires.head) c.sync.ensures.durable

pub returns-clause-same : goal.returns-clause-same
returns-clause-same g c =
    let old = g.D.Device.seen c.args.device.now in
    let counted = c.args.counted in
    let new_is : g.D.Device.seen c.sync.new.self ≡ take (counted.size + 4096) old = c.sync.ensures.seen ∙ c.in_ok-cut.ensures.cut in
    on_ok_weaker c.sync.result (λ _. ap text_of new_is ∙ (trimmed old counted.second counted.size c.requires.head).1) c.sync.ensures.durable
