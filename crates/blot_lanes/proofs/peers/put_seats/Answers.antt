use Rattle.std.proofs.Common.{◌≡◌, true, subst, sym, All}
use Rattle.std.proofs.lemmas.List.Elements.{All-push}
use Rattle.blot_gateway.specs.AtOnce.{are_submits}
use Rattle.blot_lanes.proofs.peers.put_seats.Goals as goal

pub loop-peer-preserved-in-Continue-1 : goal.loop-peer-preserved-in-Continue-1
loop-peer-preserved-in-Continue-1 g c =
    subst (λ seats. All (λ receipts. are_submits receipts ≡ true) seats) (sym c.in_ok-push.ensures.items)
    (All-push (λ receipts. are_submits receipts ≡ true) c.loop-peer.seats.items _ c.loop-peer.invariant c.into_seat.ensures.submits)
