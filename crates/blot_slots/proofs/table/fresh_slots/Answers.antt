use Rattle.std.proofs.Common.{Some, ap, ◌++◌, ◌∷◌, [], ◌∙◌}
use Rattle.indexmap.proofs.CallerLemmas.{insert_entry-new}
use Rattle.blot_types.specs.Keys.{same_text}
use Rattle.blot_session.specs.States.{fresh}
use Rattle.blot_slots.proofs.FreshLemmas.{fresh-absent, fresh-more}
use Rattle.blot_slots.proofs.table.fresh_slots.Goals as goal

pub loop-peer-preserved : goal.loop-peer-preserved
loop-peer-preserved c =
    let own = c.args.own in
    let peers = c.args.peers.now in
    let peer = c.peer-item.result in
    c.in_ok-insert.ensures.entries ∙ rw c.new.ensures
    (insert_entry-new same_text c.loop-peer.slots peer (Some (fresh own peer)) (rw c.loop-peer.invariant (fresh-absent own peers c.loop-peer.peer-index peer c.loop-peer-test.true c.peer-item.is c.requires))
    ∙ ap (λ slots. slots ++ (peer, Some (fresh own peer)) ∷ []) c.loop-peer.invariant
    ∙ fresh-more own peers c.loop-peer.peer-index peer c.loop-peer-test.true c.peer-item.is)
