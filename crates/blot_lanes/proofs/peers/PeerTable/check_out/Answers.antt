use Rattle.std.proofs.Common.{rules, ◌∙◌}
use Rattle.blot_lanes.proofs.PeerLemmas.{put-back, same-table, unseated-out}
use Rattle.blot_lanes.proofs.peers.PeerTable.check_out.Goals as goal

pub returns-in-None-clause-same : goal.returns-in-None-clause-same
returns-in-None-clause-same g c =
    let peer = c.args.peer.now in
    let sessions = put-back c.self.inside.sessions c.check_out.new.self c.take_back.new.self peer c.in-Ok.session
    (search rules) (search rules) (search rules) (search rules) (search rules) in
    let peers = unseated-out c.self.inside.peers.entries c.take_seat.new.peers.entries peer (search rules) (search rules) in
    same-table (record { sessions = c.self.inside.sessions; peers = c.self.inside.peers.entries }) c.take_back.new.self c.take_seat.new.peers.entries sessions peers ∙ search rules
