use Rattle.std.proofs.Common.{◌≡◌, map, take, true}
use Rattle.std.specs.List.{IsDistinct, list_all}
use Rattle.blot_types.specs.Keys.{same_text}
use Rattle.blot_types.specs.Text.{is_text}
use Rattle.blot_arguments.proofs.peers.read_peers.Given as goal

abbrev pub invariant-loop-word : goal.invariant-loop-word
invariant-loop-word l =
    (l.peers.items ≡ map (λ word. word.now) (take l.word-index l.named))
    × (list_all is_text (map (λ word. word.now) (take l.word-index l.named)) ≡ true)
    × IsDistinct same_text (map (λ word. word.now) (take l.word-index l.named))
