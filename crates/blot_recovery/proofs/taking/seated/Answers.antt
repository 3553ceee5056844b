use Rattle.std.proofs.Common.{◌≡◌, [], ◌∷◌, ◌++◌, Some, length, take, ap, subst, sym, ◌∙◌, rules, arith, All, option_to_list}
use Rattle.std.proofs.lemmas.List.{map-append, take_more}
use Rattle.std.proofs.lemmas.List.Elements.{All-push}
use Rattle.blot_recovery.specs.Parties.{IsKeptPeer}
use Rattle.blot_recovery.specs.Taking.{names_of}
use Rattle.blot_recovery.proofs.TakingLemmas.{first-holds, rest-hold}
use Rattle.blot_recovery.proofs.taking.seated.Goals as goal

pub new-requires : goal.new-requires
new-requires g c =
    let is : c.next.result ≡ Some c.unwrap-seat.result = search rules in
    first-holds (λ receipts. receipts ≡ []) _ _ c.next.result c.unwrap-seat.result is c.next.ensures.items c.loop-peer.invariant.empty

pub loop-peer-preserved : goal.loop-peer-preserved
loop-peer-preserved g c =
    let is : c.next.result ≡ Some c.unwrap-seat.result = search rules in record {
      count = omega (arith, c.loop-peer.invariant.count, c.next.ensures.len, ap (λ given. length (option_to_list given)) is);
      empty = rest-hold (λ receipts. receipts ≡ []) _ _ c.next.result c.unwrap-seat.result is c.next.ensures.items c.loop-peer.invariant.empty;
      listed = ap names_of c.in_ok-push.ensures.items ∙ map-append (λ peer. peer.peer) c.loop-peer.seated.items (c.new.result ∷ [])
          ∙ ap (λ names. names ++ c.new.result.peer ∷ []) c.loop-peer.invariant.listed
          ∙ ap (λ name. take c.loop-peer.peer-index c.args.peers.now ++ name ∷ []) (c.new.ensures.name ∙ c.peer-item.is)
          ∙ sym (take_more c.args.peers.now c.loop-peer.peer-index c.peer-item.result c.loop-peer-test.true);
      kept = λ own. subst (All (IsKeptPeer own [])) (sym c.in_ok-push.ensures.items)
          (All-push (IsKeptPeer own []) c.loop-peer.seated.items c.new.result (c.loop-peer.invariant.kept own) (c.new.ensures.kept own));
    }
