use Rattle.std.proofs.Common.{◌∙◌, [], ◌∷◌, ◌++◌, ap, sym, refl}
use Rattle.std.specs.List.{IsDistinct, list_any}
use Rattle.blot_arguments.proofs.PeerLemmas.{met_before, next_differs, next_of, next_text, text_at}
use Rattle.blot_arguments.proofs.RefusalLemmas.{passed_on}
use Rattle.blot_arguments.proofs.peers.read_peers.Goals as goal

pub loop-word-init : goal.loop-word-init
unfolding IsDistinct
loop-word-init c = (c.new-peers.ensures.items, refl, tt)

pub returns-in_err-peer-clause-refused : goal.returns-in_err-peer-clause-refused
returns-in_err-peer-clause-refused c =
    passed_on _ c.from_residual.result _ c.from_residual.ensures.1
    (λ other fits. cc (text_at (λ word. word.now) c.args.named.now c.loop-word.word-index _ c.loop-word-test.true fits.texts, c.in_err-peer.ensures.refused other))

pub returns-then-contains-clause-refused : goal.returns-then-contains-clause-refused
returns-then-contains-clause-refused c = λ other fits.
    met_before (λ word. word.now) c.args.named.now c.loop-word.word-index _ c.in_ok-peer.peer c.loop-word.peers.items c.loop-word-test.true
    c.in_ok-peer.ensures.value c.loop-word.invariant.0 (sym (ap (list_any _) c.deref.ensures.value) ∙ sym c.contains.ensures.value ∙ c.if-contains.true) fits.distinct

pub loop-word-preserved : goal.loop-word-preserved
loop-word-preserved c = (
  c.in_ok-push.ensures.items ∙ ap (λ peers. peers ++ c.in_ok-peer.peer ∷ []) c.loop-word.invariant.0
      ∙ sym (next_of (λ word. word.now) c.args.named.now c.loop-word.word-index _ c.in_ok-peer.peer c.loop-word-test.true c.in_ok-peer.ensures.value),
  next_text (λ word. word.now) c.args.named.now c.loop-word.word-index _ c.in_ok-peer.peer c.loop-word-test.true
      c.in_ok-peer.ensures.value c.loop-word.invariant.1 c.in_ok-peer.ensures.text,
  next_differs (λ word. word.now) c.args.named.now c.loop-word.word-index _ c.in_ok-peer.peer c.loop-word.peers.items c.loop-word-test.true
      c.in_ok-peer.ensures.value c.loop-word.invariant.0 c.loop-word.invariant.2
      (sym (ap (list_any _) c.deref.ensures.value) ∙ sym c.contains.ensures.value ∙ c.if-contains.false),
)
