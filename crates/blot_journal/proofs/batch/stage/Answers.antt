use Rattle.std.proofs.Common.{ℕ, List, length, sym, subst}
use Rattle.std.proofs.lemmas.Result.{on_ok_weaker}
use Rattle.blot_journal.specs.File.{SameText, IsStaged, text_of}
use Rattle.blot_journal.proofs.MomentLemmas.{started, goes_on}
use Rattle.blot_journal.proofs.HeadLemmas.{torn_behind, itself}
use Rattle.blot_journal.proofs.BatchLemmas.{torn_both, staged, stage_crash}
use Rattle.blot_journal.proofs.batch.stage.Goals as goal

pub returns-in_err-write_at-clause-any_moment : goal.returns-in_err-write_at-clause-any_moment
returns-in_err-write_at-clause-any_moment g c =
    let old = g.D.Device.seen c.args.device.now in
    let one = stage_crash old c.args.second c.args.size c.requires.head (length c.args.more.now) _ _ c.requires.durable c.write_at.ensures.crash in
    let start = started g.D.Device.moment g.D.Device.left_since c.args.device.now (SameText old) (λ f left. subst (SameText old) (sym (c.requires.durable f (g.met.D.Device.only_now c.args.device.now f left))) (itself old)) in
    goes_on g.D.Device.moment g.D.Device.left_since c.args.device.now c.args.device.now c.write_at.new.self (SameText old) _ start c.write_at.ensures.time
    (λ f now. torn_behind old c.args.second c.args.size c.requires.head (length c.args.more.now) f (one f now))

pub returns-in_err-write_at-2-clause-any_moment : goal.returns-in_err-write_at-2-clause-any_moment
returns-in_err-write_at-2-clause-any_moment g c =
    let old = g.D.Device.seen c.args.device.now in
    let one = stage_crash old c.args.second c.args.size c.requires.head (length c.args.more.now) _ _ c.requires.durable c.write_at.ensures.crash in
    let start = started g.D.Device.moment g.D.Device.left_since c.args.device.now (SameText old) (λ f left. subst (SameText old) (sym (c.requires.durable f (g.met.D.Device.only_now c.args.device.now f left))) (itself old)) in
    let first = goes_on g.D.Device.moment g.D.Device.left_since c.args.device.now c.args.device.now c.write_at.new.self (SameText old) _ start c.write_at.ensures.time
    (λ f now. torn_behind old c.args.second c.args.size c.requires.head (length c.args.more.now) f (one f now)) in
    goes_on g.D.Device.moment g.D.Device.left_since c.args.device.now c.write_at.new.self c.write_at-2.new.self (SameText old) _ first c.write_at-2.ensures.time
    (λ f now. let from = c.write_at-2.ensures.crash f now in torn_both old c.args.second c.args.size c.requires.head (length c.args.more.now) from.0 f (one from.0 from.1) (rw (c.place.ensures, c.to_le_bytes.ensures) at from.2))

pub returns-clause-any_moment : goal.returns-clause-any_moment
returns-clause-any_moment g c =
    let old = g.D.Device.seen c.args.device.now in
    let one = stage_crash old c.args.second c.args.size c.requires.head (length c.args.more.now) _ _ c.requires.durable c.write_at.ensures.crash in
    let start = started g.D.Device.moment g.D.Device.left_since c.args.device.now (SameText old) (λ f left. subst (SameText old) (sym (c.requires.durable f (g.met.D.Device.only_now c.args.device.now f left))) (itself old)) in
    let first = goes_on g.D.Device.moment g.D.Device.left_since c.args.device.now c.args.device.now c.write_at.new.self (SameText old) _ start c.write_at.ensures.time
    (λ f now. torn_behind old c.args.second c.args.size c.requires.head (length c.args.more.now) f (one f now)) in
    let two = λ (f : List ℕ) (now : g.D.Device.may_leave c.write_at-2.new.self f).
    let from = c.write_at-2.ensures.crash f now in torn_both old c.args.second c.args.size c.requires.head (length c.args.more.now) from.0 f (one from.0 from.1) (rw (c.place.ensures, c.to_le_bytes.ensures) at from.2) in
    let both = goes_on g.D.Device.moment g.D.Device.left_since c.args.device.now c.write_at.new.self c.write_at-2.new.self (SameText old) _ first c.write_at-2.ensures.time two in
    goes_on g.D.Device.moment g.D.Device.left_since c.args.device.now c.write_at-2.new.self c.sync.new.self (SameText old) _ both c.sync.ensures.time (λ f now. two f (c.sync.ensures.crash f now))

pub returns-clause-staged : goal.returns-clause-staged
returns-clause-staged g c =
    let old = g.D.Device.seen c.args.device.now in
    let is : IsStaged c.args.second c.args.size (text_of old) c.args.more.now (g.D.Device.seen c.write_at-2.new.self) =
    staged old c.args.second c.args.size c.requires.head c.args.more.now _ _ c.in_ok-write_at.ensures.written (rw (c.place.ensures, c.to_le_bytes.ensures) at c.in_ok-write_at-2.ensures.written) c.requires.few in
    on_ok_weaker c.sync.result (λ _. subst (IsStaged c.args.second c.args.size (text_of old) c.args.more.now) (sym c.sync.ensures.seen) is) c.sync.ensures.durable
