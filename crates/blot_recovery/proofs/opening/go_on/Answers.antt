use Rattle.std.proofs.Common.{refl, sym, subst}
use Rattle.blot_journal.specs.Journal.{text_in_journal}
use Rattle.blot_recovery.specs.Opening.{IsRecovered}
use Rattle.blot_recovery.proofs.OpeningLemmas.{opens-same}
use Rattle.blot_recovery.proofs.opening.go_on.Goals as goal

pub returns-in-Ok-clause-recovered : goal.returns-in-Ok-clause-recovered
returns-in-Ok-clause-recovered g c =
    let does = c.in-Ok.ensures in
    subst (λ text. IsRecovered c.args.own c.args.peers.now c.args.operator text c.in-Ok.recovered) (sym does.same) (record {
      events = does.events;
      run = does.run;
      kept = does.kept;
      listed = does.listed;
      peers = does.peers;
      operators = does.operators;
      first = does.first;
    })

pub returns-in-Err-clause-fault : goal.returns-in-Err-clause-fault
returns-in-Err-clause-fault g c =
    let found = text_in_journal g.D.Device.seen c.args.journal.now in record {
      text = found;
      opens = opens-same c.args.own c.args.day found found c.requires.some refl;
      fault_is = c.in-Err.ensures.fault;
    }
