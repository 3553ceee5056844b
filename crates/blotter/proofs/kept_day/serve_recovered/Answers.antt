use Rattle.blot_stream.proofs.ResultLemmas.{ok-says}
use Rattle.blotter.proofs.KeepingLemmas.{all-listed, serves-kept}
use Rattle.blotter.proofs.kept_day.serve_recovered.Goals as goal

pub kept_peers-requires : goal.kept_peers-requires
kept_peers-requires g c = all-listed c.args.own c.args.diary.text c.args.recovered.peers.items c.requires.peers

pub returns-in-Ok-ended-clause-served : goal.returns-in-Ok-ended-clause-served
returns-in-Ok-ended-clause-served g c =
    let all = c.in-Ok-ended.ensures.ok in
    let both = ok-says _ all.0 c.both.ensures.ok in
    record {
      first = c.in-Ok-first_of.operator;
      others = c.in-Ok-first_of.others.items;
      first_is = c.in-Ok-first_of.ensures;
      served = serves-kept g.O.Write.contents _ _ _ _ _ _ _ _ c.args.day _ _ _ c.new-operator.ensures both.1 all.1 c.in-Ok-serve_desk.ensures.told
          c.report_kept-reported.ensures.reported;
    }

pub returns-in-Ok-ended-clause-durable : goal.returns-in-Ok-ended-clause-durable
returns-in-Ok-ended-clause-durable g c = ok-says _ c.in-Ok-ended.ensures.ok.1 c.report_kept-reported.ensures.durable

pub returns-in-Ok-ended-clause-now : goal.returns-in-Ok-ended-clause-now
returns-in-Ok-ended-clause-now g c = c.report_kept-reported.ensures.now

pub returns-in-Ok-ended-clause-ever : goal.returns-in-Ok-ended-clause-ever
returns-in-Ok-ended-clause-ever g c = c.report_kept-reported.ensures.ever
