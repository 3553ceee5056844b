use Rattle.std.proofs.Common.{not, subst, ◌∙◌}
use Rattle.std.proofs.lemmas.Result.{on_ok_weaker}
use Rattle.blot_journal.specs.File.{HasHead, SameText, StandsBeforeOrAfter, Turned, text_of}
use Rattle.blot_journal.proofs.MomentLemmas.{and_then, weaker}
use Rattle.blot_journal.proofs.BatchLemmas.{same_stands, turned_stands}
use Rattle.blot_journal.proofs.batch.make_durable.Goals as goal

pub returns-in_err-stage-clause-any_moment : goal.returns-in_err-stage-clause-any_moment
returns-in_err-stage-clause-any_moment g c =
    let device = c.args.device.now in
    let old = g.D.Device.seen device in
    weaker g.D.Device.moment g.D.Device.left_since device c.stage.new.device (SameText old) (StandsBeforeOrAfter (text_of old) c.args.more.now) c.stage.ensures.any_moment
    (λ f same. same_stands old c.args.second c.args.size c.args.more.now f c.requires.head same)

pub returns-clause-any_moment : goal.returns-clause-any_moment
returns-clause-any_moment g c =
    let device = c.args.device.now in
    let old = g.D.Device.seen device in
    let mid = g.D.Device.seen c.stage.new.device in
    let P = StandsBeforeOrAfter (text_of old) c.args.more.now in
    let first = weaker g.D.Device.moment g.D.Device.left_since device c.stage.new.device (SameText old) P c.stage.ensures.any_moment
    (λ f same. same_stands old c.args.second c.args.size c.args.more.now f c.requires.head same) in
    and_then g.D.Device.moment g.D.Device.left_since device c.stage.new.device c.turn.new.device P (Turned (not c.args.second) mid) first c.turn.ensures.any_moment
    (λ f now. turned_stands c.args.second c.args.size (text_of old) c.args.more.now mid f c.in_ok-stage.ensures.staged now)

pub returns-clause-head : goal.returns-clause-head
returns-clause-head g c =
    on_ok_weaker c.turn.result (λ head. subst (λ n. HasHead (not c.args.second) n (g.D.Device.seen c.turn.new.device)) c.in_ok-stage.ensures.staged.next_size head) c.turn.ensures.head

pub returns-clause-text : goal.returns-clause-text
returns-clause-text g c = on_ok_weaker c.turn.result (λ is. is ∙ c.in_ok-stage.ensures.staged.next_text) c.turn.ensures.text
