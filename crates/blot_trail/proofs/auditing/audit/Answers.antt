use Rattle.blot_capture.proofs.TraceLemmas.{is_replayed}
use Rattle.blot_trail.proofs.auditing.audit.Goals as goal

pub returns-in-Ok-clause-replayed : goal.returns-in-Ok-clause-replayed
returns-in-Ok-clause-replayed g c = is_replayed c.args.own c.args.peers.now

pub returns-in-Err-clause-replayed : goal.returns-in-Err-clause-replayed
returns-in-Err-clause-replayed g c = is_replayed c.args.own c.args.peers.now
