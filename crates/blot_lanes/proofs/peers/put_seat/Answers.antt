use Rattle.std.proofs.Common.{Some, refl, rules}
use Rattle.blot_lanes.specs.declared.peers.Peer.{Peer}
use Rattle.blot_lanes.proofs.SeatLemmas.{changed-there, own-changed}
use Rattle.blot_lanes.proofs.peers.put_seat.Goals as goal

pub returns-in-Some-clause-put : goal.returns-in-Some-clause-put
returns-in-Some-clause-put g c =
    let value : Peer g.row.L.Denot = record { seat = Some c.args.seat; expected = c.args.expected } in
    changed-there (λ listed. value) c.args.peers.now.entries (c.get_mut.follows.lender value).entries c.args.seat.peer c.in-Some.peer.now value
    (search rules) refl (search rules)

pub returns-in-Some-clause-own : goal.returns-in-Some-clause-own
returns-in-Some-clause-own g c =
    let value : Peer g.row.L.Denot = record { seat = Some c.args.seat; expected = c.args.expected } in
    own-changed c.args.peers.now.entries (c.get_mut.follows.lender value).entries c.args.seat.peer value c.requires.own (search rules) refl
