use Rattle.std.proofs.Common.{◌+◌, ◌∙◌, ap, sym, refl, drop, drop_of_length-le}
use Rattle.std.specs.List.{IsDistinct, list_any}
use Rattle.std.proofs.lemmas.List.{take_rest}
use Rattle.blot_types.specs.Keys.{same_text}
use Rattle.blot_lanes.specs.Listing.{peers_of}
use Rattle.blot_lanes.proofs.ListingLemmas.{distinct-step, distinct-stop}
use Rattle.blot_lanes.proofs.listed_peer.are_distinct.Goals as goal

pub returns-then-is_among : goal.returns-then-is_among
returns-then-is_among g c =
    let again =
    distinct-stop c.args.listed.now c.loop-index.index c.index-listed-index.result c.loop-index-test.true c.index-listed-index.is
    (sym (c.is_among.ensures
    ∙ ap (λ rest. list_any (same_text c.peer.result.now) (peers_of rest)) (take_rest c.args.listed.now (c.loop-index.index + 1))
    ∙ ap (λ peer. list_any (same_text peer) (peers_of (drop (c.loop-index.index + 1) c.args.listed.now))) c.peer.ensures) ∙ c.if-is_among.true) c.loop-index.invariant in
    ((λ no. cc), (λ all. absurd (again all)))

pub loop-index-preserved : goal.loop-index-preserved
loop-index-preserved g c =
    distinct-step c.args.listed.now c.loop-index.index c.index-listed-index.result c.loop-index-test.true c.index-listed-index.is
    (sym (c.is_among.ensures
    ∙ ap (λ rest. list_any (same_text c.peer.result.now) (peers_of rest)) (take_rest c.args.listed.now (c.loop-index.index + 1))
    ∙ ap (λ peer. list_any (same_text peer) (peers_of (drop (c.loop-index.index + 1) c.args.listed.now))) c.peer.ensures) ∙ c.if-is_among.false) c.loop-index.invariant

pub returns : goal.returns
unfolding IsDistinct
returns g c = ((λ yes. c.loop-index.invariant.1 (rw (drop_of_length-le c.args.listed.now c.loop-index-test.false) tt)), (λ all. refl))
