use Rattle.blot_types.proofs.GeneralLemmas.{if-err}
use Rattle.blotter.proofs.staffed_day.serve_kept_staffed_day.Goals as goal

pub serve_recovered_staffed-requires-clause-spare : goal.serve_recovered_staffed-requires-clause-spare
serve_recovered_staffed-requires-clause-spare g c = λ _ _. c.in-Ok.ensures.operators.spare

pub returns-in-Ok-clause-fault : goal.returns-in-Ok-clause-fault
returns-in-Ok-clause-fault g c =
    if-err _ _ c.serve_recovered_staffed.result c.serve_recovered_staffed.ensures.fault (λ refused says. says c.args.peers.now (g.D.Device.seen c.args.device))

pub returns-in-Ok-clause-durable : goal.returns-in-Ok-clause-durable
returns-in-Ok-clause-durable g c = c.serve_recovered_staffed.ensures.durable

pub returns-in-Ok-clause-now : goal.returns-in-Ok-clause-now
returns-in-Ok-clause-now g c = c.serve_recovered_staffed.ensures.now

pub returns-in-Ok-clause-ever : goal.returns-in-Ok-clause-ever
returns-in-Ok-clause-ever g c = c.serve_recovered_staffed.ensures.ever

pub returns-in-Ok-clause-served : goal.returns-in-Ok-clause-served
returns-in-Ok-clause-served g c = c.serve_recovered_staffed.ensures.served
