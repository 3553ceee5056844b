use Rattle.std.proofs.Common.{[], ◌∷◌, inl, not, sym, ap, subst, refl, ◌∙◌}
use Rattle.std.proofs.lemmas.Result.{on_ok_weaker}
use Rattle.blot_journal.specs.Device.{HasWritten}
use Rattle.blot_journal.specs.File.{Turned, HasHead, text_of, size_in, switch_for}
use Rattle.blot_journal.proofs.MomentLemmas.{started, goes_on}
use Rattle.blot_journal.proofs.BatchLemmas.{turned, turn_crash, twice}
use Rattle.blot_journal.proofs.batch.turn.Goals as goal

pub returns-in_err-write_at-clause-any_moment : goal.returns-in_err-write_at-clause-any_moment
returns-in_err-write_at-clause-any_moment g c =
    let old = g.D.Device.seen c.args.device.now in
    let P = Turned (not c.args.second) old in
    let start = started g.D.Device.moment g.D.Device.left_since c.args.device.now P
    (λ f left. subst P (sym (c.requires.durable f (g.met.D.Device.only_now c.args.device.now f left))) (inl (record { says = refl; whole = c.requires.whole }))) in
    goes_on g.D.Device.moment g.D.Device.left_since c.args.device.now c.args.device.now c.write_at.new.self P _ start c.write_at.ensures.time
    (turn_crash (not c.args.second) old (c.requires.switch ∙ twice c.args.second) c.requires.whole c.requires.room _ _ c.requires.durable c.write_at.ensures.crash)

pub returns-clause-any_moment : goal.returns-clause-any_moment
returns-clause-any_moment g c =
    let old = g.D.Device.seen c.args.device.now in
    let P = Turned (not c.args.second) old in
    let start = started g.D.Device.moment g.D.Device.left_since c.args.device.now P
    (λ f left. subst P (sym (c.requires.durable f (g.met.D.Device.only_now c.args.device.now f left))) (inl (record { says = refl; whole = c.requires.whole }))) in
    let here = turn_crash (not c.args.second) old (c.requires.switch ∙ twice c.args.second) c.requires.whole c.requires.room _ _ c.requires.durable c.write_at.ensures.crash in
    let first = goes_on g.D.Device.moment g.D.Device.left_since c.args.device.now c.args.device.now c.write_at.new.self P _ start c.write_at.ensures.time here in
    goes_on g.D.Device.moment g.D.Device.left_since c.args.device.now c.write_at.new.self c.sync.new.self P _ first c.sync.ensures.time (λ f now. here f (c.sync.ensures.crash f now))

pub returns-clause-head : goal.returns-clause-head
returns-clause-head g c =
    let old = g.D.Device.seen c.args.device.now in
    let other = not c.args.second in
    let holds : HasWritten old 0 (switch_for other ∷ []) (g.D.Device.seen c.write_at.new.self) = rw c.switch_for.ensures at c.in_ok-write_at.ensures.written in
    on_ok_weaker c.sync.result (λ _. subst (HasHead other (size_in other old)) (sym c.sync.ensures.seen) (turned other old _ c.requires.whole c.requires.room holds).0) c.sync.ensures.durable

pub returns-clause-text : goal.returns-clause-text
returns-clause-text g c =
    let old = g.D.Device.seen c.args.device.now in
    let other = not c.args.second in
    let holds : HasWritten old 0 (switch_for other ∷ []) (g.D.Device.seen c.write_at.new.self) = rw c.switch_for.ensures at c.in_ok-write_at.ensures.written in
    on_ok_weaker c.sync.result (λ _. ap text_of c.sync.ensures.seen ∙ (turned other old _ c.requires.whole c.requires.room holds).1) c.sync.ensures.durable
