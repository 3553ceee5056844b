use Rattle.blot_stream.proofs.ResultLemmas.{ok-says}
use Rattle.blotter.proofs.KeepingLemmas.{all-listed}
use Rattle.blotter.proofs.staffed_day.serve_recovered_staffed.Goals as goal

pub kept_peers-requires : goal.kept_peers-requires
kept_peers-requires g c = all-listed c.args.own c.args.diary.text c.args.recovered.peers.items c.requires.peers

pub returns-in-Ok-ended-clause-served : goal.returns-in-Ok-ended-clause-served
returns-in-Ok-ended-clause-served g c =
    (c.in-Ok-serve_staffed.staffed.seats.items, ok-says _ c.in-Ok-ended.ensures.ok.1 c.report_kept-reported.ensures.reported)

pub returns-in-Ok-ended-clause-durable : goal.returns-in-Ok-ended-clause-durable
returns-in-Ok-ended-clause-durable g c = ok-says _ c.in-Ok-ended.ensures.ok.1 c.report_kept-reported.ensures.durable

pub returns-in-Ok-ended-clause-now : goal.returns-in-Ok-ended-clause-now
returns-in-Ok-ended-clause-now g c = c.report_kept-reported.ensures.now

pub returns-in-Ok-ended-clause-ever : goal.returns-in-Ok-ended-clause-ever
returns-in-Ok-ended-clause-ever g c = c.report_kept-reported.ensures.ever
