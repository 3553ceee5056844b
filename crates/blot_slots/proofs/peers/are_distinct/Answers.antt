use Rattle.std.proofs.Common.{◌∙◌, ap, sym, refl, drop_of_length-le}
use Rattle.std.specs.List.{IsDistinct, list_any}
use Rattle.std.proofs.lemmas.List.{take_rest}
use Rattle.blot_slots.proofs.PeerLemmas.{distinct_step, distinct_stop}
use Rattle.blot_slots.proofs.peers.are_distinct.Goals as goal

pub loop-index-init : goal.loop-index-init
loop-index-init c = ((λ all. all), (λ all. all))

pub returns-then-is_among : goal.returns-then-is_among
returns-then-is_among c =
    let again = distinct_stop c.args.peers.now c.loop-index.index c.index-peers-index.result c.loop-index-test.true c.index-peers-index.is
    (sym (ap (list_any _) (take_rest c.args.peers.now _)) ∙ sym c.is_among.ensures ∙ c.if-is_among.true) c.loop-index.invariant in
    ((λ no. cc), (λ all. absurd (again all)))

pub loop-index-preserved : goal.loop-index-preserved
loop-index-preserved c =
    distinct_step c.args.peers.now c.loop-index.index c.index-peers-index.result c.loop-index-test.true c.index-peers-index.is
    (sym (ap (list_any _) (take_rest c.args.peers.now _)) ∙ sym c.is_among.ensures ∙ c.if-is_among.false) c.loop-index.invariant

pub returns : goal.returns
unfolding IsDistinct
returns c = ((λ yes. c.loop-index.invariant.1 (rw (drop_of_length-le c.args.peers.now c.loop-index-test.false) tt)), (λ all. refl))
