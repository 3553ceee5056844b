use Rattle.std.proofs.Common.{◌≡◌, IfSome, None, ap, rules, subst, sym}
use Rattle.blot_lanes.specs.declared.peers.Peer.{Peer}
use Rattle.blot_lanes.proofs.SeatLemmas.{changed-nowhere, changed-there, own-changed, own-found}
use Rattle.blot_lanes.proofs.peers.take_seat.Goals as goal

pub returns-in-Some-clause-of_peer : goal.returns-in-Some-clause-of_peer
returns-in-Some-clause-of_peer g c =
    subst (λ seat. IfSome seat (λ seat. seat.peer ≡ c.args.peer.now)) (sym c.take.ensures.value)
    (own-found c.args.peers.now.entries c.args.peer.now c.in-Some.listed.now c.requires.own (search rules))

pub returns-in-Some-clause-left : goal.returns-in-Some-clause-left
returns-in-Some-clause-left g c =
    let value : Peer g.row.L.Denot = record { seat = c.take.new.self; expected = c.in-Some.listed.now.expected } in
    changed-there (λ listed. record listed { seat = None }) c.args.peers.now.entries (c.get_mut.follows.lender value).entries c.args.peer.now c.in-Some.listed.now value
    (search rules) (ap (λ seat. record c.in-Some.listed.now { seat = seat }) (sym c.take.ensures.after)) (search rules)

pub returns-in-None-clause-left : goal.returns-in-None-clause-left
returns-in-None-clause-left g c =
    changed-nowhere (λ listed. record listed { seat = None }) c.args.peers.now.entries _ c.args.peer.now (search rules) (search rules)

pub returns-in-Some-clause-own : goal.returns-in-Some-clause-own
returns-in-Some-clause-own g c =
    let value : Peer g.row.L.Denot = record { seat = c.take.new.self; expected = c.in-Some.listed.now.expected } in
    own-changed c.args.peers.now.entries (c.get_mut.follows.lender value).entries c.args.peer.now value c.requires.own (search rules)
    (subst (λ seat. IfSome seat (λ seat. seat.peer ≡ c.args.peer.now)) (sym c.take.ensures.after) tt)
