use Rattle.std.proofs.Common.{sym, ap, subst, ◌∙◌, IfErr}
use Rattle.std.proofs.lemmas.Result.{IfOk-weaker, on_ok_weaker}
use Rattle.std.proofs.lemmas.List.{nil_from_length}
use Rattle.blot_journal.specs.Journal.{text_in_journal}
use Rattle.blot_diary.specs.Diary.{desk_events}
use Rattle.blot_recovery.specs.Opening.{IsTextFault}
use Rattle.blot_recovery.proofs.FrameLemmas.{desk_events-nil}
use Rattle.blot_recovery.proofs.OpeningLemmas.{opens-new}
use Rattle.blot_recovery.proofs.opening.take_up.Goals as goal

pub returns-then-len-eq0-clause-opens : goal.returns-then-len-eq0-clause-opens
returns-then-len-eq0-clause-opens g c =
    let found = text_in_journal g.D.Device.seen c.args.journal.now in
    let none = nil_from_length found (sym (c.len.ensures.len c.requires.unbroken) ∙ c.if-len-eq0.true) in
    on_ok_weaker c.begin.result (λ begins. opens-new c.args.own c.args.day found (text_in_journal g.D.Device.seen c.begin.new.journal) none begins) c.begin.ensures.begins

pub returns-then-len-eq0-clause-events : goal.returns-then-len-eq0-clause-events
returns-then-len-eq0-clause-events g c =
    let found = text_in_journal g.D.Device.seen c.args.journal.now in
    let none = nil_from_length found (sym (c.len.ensures.len c.requires.unbroken) ∙ c.if-len-eq0.true) in
    IfOk-weaker c.begin.result _ _ (λ recovered is. is ∙ sym (ap desk_events none ∙ desk_events-nil)) c.begin.ensures.events

pub returns-then-len-eq0-clause-fault : goal.returns-then-len-eq0-clause-fault
returns-then-len-eq0-clause-fault g c =
    let found = text_in_journal g.D.Device.seen c.args.journal.now in
    let none = nil_from_length found (sym (c.len.ensures.len c.requires.unbroken) ∙ c.if-len-eq0.true) in
    subst (λ found. IfErr c.begin.result (IsTextFault c.args.own c.args.day c.args.peers.now c.args.operator found)) (sym none) c.begin.ensures.fault
