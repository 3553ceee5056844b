use Rattle.std.proofs.Common.{◌≡◌, ◌+◌, suc, Some, length, take, refl, sym, ap, ◌∙◌, arith, option_map}
use Rattle.std.specs.List.{list_any}
use Rattle.std.proofs.lemmas.Option.{slice_get-map, slice_get_read}
use Rattle.blot_types.specs.Keys.{same_text}
use Rattle.blot_types.proofs.KeyLemmas.{same_text-true}
use Rattle.blot_recovery.specs.Taking.{names_of}
use Rattle.blot_recovery.proofs.RefusalLemmas.{none-next}
use Rattle.blot_recovery.proofs.taking.place_of.Goals as goal

pub returns-then-eq-clause-name : goal.returns-then-eq-clause-name
returns-then-eq-clause-name g c =
    let peers = c.args.peers.now in
    let found = c.index-peers-at.result in
    slice_get-map (λ peer. peer.peer) peers c.loop-at.at
    ∙ ap (option_map (λ peer. peer.peer)) (slice_get_read peers (length peers) c.loop-at.at found refl c.loop-at-test.true c.index-peers-at.is)
    ∙ ap (λ name. Some name) (same_text-true found.peer c.args.name.now (sym c.if-eq.ensures))

pub loop-at-preserved : goal.loop-at-preserved
loop-at-preserved g c =
    let peers = c.args.peers.now in
    let name = c.args.name.now in
    let one_more : c.loop-at.at + 1 ≡ suc c.loop-at.at = omega arith in
    ap (λ n. list_any (same_text name) (take n (names_of peers))) one_more
    ∙ none-next peers name c.loop-at.at c.index-peers-at.result c.loop-at-test.true (sym c.index-peers-at.is) (sym c.if-eq.ensures) c.loop-at.invariant
