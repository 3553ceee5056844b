use Rattle.blot_gateway.specs.Counting.{CountsItself}
use Rattle.blot_lanes.proofs.ConnectionLemmas.{served-from}
use Rattle.blot_lanes.specs.Storing.{KeepsAt, kept_failures, over_store}
use Rattle.blot_lanes.proofs.connection.serve_connection.Goals as goal

pub returns : goal.returns
returns g c =
    served-from (KeepsAt g.W.Wire.does g.K.Keeper.IsKept (CountsItself g.K.Keeper.spells_none g.K.FrameKeeper.numbers_after) g.K.Keeper.events g.K.Keeper.durable) g.C.Clock.ticks (kept_failures g.W.Wire.failures)
    c.args.peers.now c.new-kept.result (over_store c.args.wire) c.args.clock c.serve_over.result c.new-kept.ensures c.serve_over.ensures
