use Rattle.std.proofs.Common.{◌≡◌, ◌++◌, refl, sym, ap, subst, ◌∙◌}
use Rattle.blot_journal.specs.Journal.{text_in_journal}
use Rattle.blot_recovery.specs.Opening.{IsBeginning, IsRecovered}
use Rattle.blot_recovery.proofs.OpeningLemmas.{begun-moments, beginning-quiet}
use Rattle.blot_recovery.proofs.opening.begin.Goals as goal

pub returns-in-Ok-write-clause-recovered : goal.returns-in-Ok-write-clause-recovered
returns-in-Ok-write-clause-recovered g c =
    let is : text_in_journal g.D.Device.seen c.write.new.journal ≡ c.deref.result.now =
    c.in-Ok-write.ensures.text ∙ ap (λ front. front ++ c.deref-2.result.now) c.requires.none ∙ c.deref-2.ensures.value ∙ sym c.deref.ensures.value in
    let does = c.in-Ok-recover.ensures in
    subst (λ text. IsRecovered c.args.own c.args.peers.now c.args.operator text c.in-Ok-recover.recovered) (sym is) (record {
      events = does.events;
      run = does.run;
      kept = does.kept;
      listed = does.listed;
      peers = does.peers;
      operators = does.operators;
      first = does.first;
    })

pub returns-in-Ok-write-clause-events : goal.returns-in-Ok-write-clause-events
returns-in-Ok-write-clause-events g c =
    c.in-Ok-recover.ensures.events
    ∙ beginning-quiet c.args.own c.args.day c.deref.result.now
    (subst (IsBeginning c.args.own c.args.day) (sym c.deref.ensures.value) (record { valid = c.in-Ok.ensures.valid; kept = c.in-Ok.ensures.kept }))

pub returns-in-Ok-write-clause-any_moment : goal.returns-in-Ok-write-clause-any_moment
returns-in-Ok-write-clause-any_moment g c =
    let begins = subst (IsBeginning c.args.own c.args.day) (sym c.deref-2.ensures.value) (record { valid = c.in-Ok.ensures.valid; kept = c.in-Ok.ensures.kept }) in
    begun-moments g.D.Device.moment g.D.Device.left_since c.args.own c.args.day (g.D.Device.seen c.args.journal.now.device) c.deref-2.result.now
    c.args.journal.now.device c.write.new.journal.device c.requires.none begins c.write.ensures.any_moment

pub returns-clause-any_moment : goal.returns-clause-any_moment
returns-clause-any_moment g c =
    let begins = subst (IsBeginning c.args.own c.args.day) (sym c.deref-2.ensures.value) (record { valid = c.in-Ok.ensures.valid; kept = c.in-Ok.ensures.kept }) in
    begun-moments g.D.Device.moment g.D.Device.left_since c.args.own c.args.day (g.D.Device.seen c.args.journal.now.device) c.deref-2.result.now
    c.args.journal.now.device c.write.new.journal.device c.requires.none begins c.write.ensures.any_moment

pub returns-in-Err-recover-clause-fault : goal.returns-in-Err-recover-clause-fault
returns-in-Err-recover-clause-fault g c =
    let begins = subst (IsBeginning c.args.own c.args.day) (sym c.deref.ensures.value) (record { valid = c.in-Ok.ensures.valid; kept = c.in-Ok.ensures.kept }) in
    record {
      text = c.deref.result.now;
      opens = record { new = λ _. begins; same = λ some. absurd (some refl) };
      fault_is = c.in-Err-recover.ensures.fault;
    }
