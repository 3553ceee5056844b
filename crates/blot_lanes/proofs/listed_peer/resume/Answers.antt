use Rattle.std.proofs.Common.{refl, rules}
use Rattle.blot_session.specs.States.{resumed}
use Rattle.blot_lanes.proofs.PeerLemmas.{put-again}
use Rattle.blot_lanes.proofs.listed_peer.resume.Goals as goal

pub returns-then-is_ok : goal.returns-then-is_ok
returns-then-is_ok g c = λ listed.
    let peer = c.args.listed.now.peer in
    put-again c.args.sessions.now c.check_out.new.self c.take_back.new.self peer c.session.result (resumed c.args.own peer c.args.listed.now.expected c.args.listed.now.next)
    (search rules) refl refl (search rules) (search rules) (search rules)
