use Rattle.blot_capture.proofs.TraceLemmas.{is_replayed}
use Rattle.blot_capture.proofs.replaying.replay.Goals as goal

pub returns-clause-traced : goal.returns-clause-traced
returns-clause-traced g c = is_replayed c.args.own c.args.peers.now
