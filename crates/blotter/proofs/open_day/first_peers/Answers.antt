use Rattle.std.proofs.Common.{◌≡◌, [], ◌∷◌, ◌++◌, Some, length, map, take, ap, rules, arith, sym, ◌∙◌, option_to_list}
use Rattle.std.proofs.lemmas.List.{map_more}
use Rattle.blot_gateway.specs.AtOnce.{are_submits}
use Rattle.blot_recovery.proofs.TakingLemmas.{rest-hold, first-holds}
use Rattle.blotter.specs.Serving.{begins_as}
use Rattle.blotter.proofs.SeatLemmas.{one-begins}
use Rattle.blotter.proofs.open_day.first_peers.Goals as goal

pub new-seat-requires : goal.new-seat-requires
new-seat-requires g c =
    let is : c.next.result ≡ Some c.unwrap.result = search rules in
    ap are_submits (first-holds (λ receipts. receipts ≡ []) _ _ c.next.result c.unwrap.result is c.next.ensures.items c.loop-peer.invariant.1)

pub loop-peer-preserved : goal.loop-peer-preserved
loop-peer-preserved g c =
    let is : c.next.result ≡ Some c.unwrap.result = search rules in
    let empty : c.unwrap.result ≡ [] = first-holds (λ receipts. receipts ≡ []) _ _ c.next.result c.unwrap.result is c.next.ensures.items c.loop-peer.invariant.1 in
    let more = map_more begins_as c.args.peers.now c.loop-peer.peer-index c.peer-item.result (search rules) in (
      omega (arith, c.loop-peer.invariant.0, c.next.ensures.len, ap (λ given. length (option_to_list given)) is),
      rest-hold (λ receipts. receipts ≡ []) _ _ c.next.result c.unwrap.result is c.next.ensures.items c.loop-peer.invariant.1,
      one-begins c.loop-peer.listed.items c.push.new.self.items _ c.new.result c.new-seat.result c.peer-item.result c.unwrap.result c.in_ok-push.ensures.items c.new.ensures c.new-seat.ensures empty
          c.loop-peer.invariant.2 ∙ sym (more ∙ ap (λ peer. map begins_as (take c.loop-peer.peer-index c.args.peers.now) ++ begins_as peer ∷ []) (search rules)),
    )
