use Rattle.std.proofs.Common.{Some, sym}
use Rattle.blot_lanes.specs.declared.peers.Peer.{Peer}
use Rattle.blot_lanes.proofs.SeatLemmas.{own-inserted}
use Rattle.blot_lanes.proofs.peers.seated.Goals as goal

pub loop-it-preserved-in_ok-insert : goal.loop-it-preserved-in_ok-insert
loop-it-preserved-in_ok-insert g c =
    let value : Peer g.row.L.Denot = record { seat = Some c.into_seat-seat.result.0; expected = c.into_seat-seat.result.1 } in
    own-inserted c.loop-it.seated.entries c.insert.new.self.entries c.peer-peer.result.now value c.loop-it.invariant c.in_ok-insert.ensures.entries (sym c.peer-peer.ensures)

pub loop-it-preserved-in_ok-insert-2 : goal.loop-it-preserved-in_ok-insert-2
loop-it-preserved-in_ok-insert-2 g c =
    let value : Peer g.row.L.Denot = record { seat = Some c.into_seat-seat.result.0; expected = c.into_seat-seat.result.1 } in
    own-inserted c.loop-it.seated.entries c.insert.new.self.entries c.peer-peer.result.now value c.loop-it.invariant c.in_ok-insert.ensures.entries (sym c.peer-peer.ensures)

pub loop-it-preserved : goal.loop-it-preserved
loop-it-preserved g c =
    let value : Peer g.row.L.Denot = record { seat = Some c.into_seat-seat.result.0; expected = c.into_seat-seat.result.1 } in
    own-inserted c.loop-it.seated.entries c.insert.new.self.entries c.peer-peer.result.now value c.loop-it.invariant c.in_ok-insert.ensures.entries (sym c.peer-peer.ensures)
