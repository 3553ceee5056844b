use Rattle.std.proofs.Common.{rules}
use Rattle.blot_lanes.proofs.ListingLemmas.{resumed-next}
use Rattle.blot_lanes.proofs.listed_peer.resumed_sessions.Goals as goal

pub loop-it-preserved : goal.loop-it-preserved
loop-it-preserved g c =
    resumed-next c.args.own c.args.listed.now c.loop-it.it-index c.it-item.result c.loop-it.sessions c.resume.new.sessions c.loop-it-test.true c.it-item.is
    (c.are_distinct.ensures.0 (search rules)) c.loop-it.invariant c.resume.ensures
