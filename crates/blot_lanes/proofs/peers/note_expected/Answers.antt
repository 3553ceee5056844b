use Rattle.std.proofs.Common.{refl, rules}
use Rattle.blot_lanes.specs.declared.peers.Peer.{Peer}
use Rattle.blot_lanes.proofs.SeatLemmas.{changed-there, own-changed, own-found}
use Rattle.blot_lanes.proofs.peers.note_expected.Goals as goal

pub returns-in-Some-clause-noted : goal.returns-in-Some-clause-noted
returns-in-Some-clause-noted g c =
    let value : Peer g.row.L.Denot = record { seat = c.in-Some.noted.now.seat; expected = c.args.expected } in
    changed-there (λ listed. record listed { expected = c.args.expected }) c.args.peers.now.entries (c.get_mut.follows.lender value).entries c.args.peer.now c.in-Some.noted.now value
    (search rules) refl (search rules)

pub returns-in-Some-clause-own : goal.returns-in-Some-clause-own
returns-in-Some-clause-own g c =
    let value : Peer g.row.L.Denot = record { seat = c.in-Some.noted.now.seat; expected = c.args.expected } in
    own-changed c.args.peers.now.entries (c.get_mut.follows.lender value).entries c.args.peer.now value c.requires (search rules)
    (own-found c.args.peers.now.entries c.args.peer.now c.in-Some.noted.now c.requires (search rules))
