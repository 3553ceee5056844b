-- The bytes that a wire in memory has left.
use Rattle.std.proofs.Common.{◌≡◌, ℕ, ◌+◌, List, ◌++◌, take, drop, sym, ◌∙◌, ap, take-append-drop, drop-drop}

-- after a piece that was given, the rest is left
pub left_given : (count given : ℕ) (bytes buffer : List ℕ) → take count buffer ≡ take count (drop given bytes)
    → drop given bytes ≡ take count buffer ++ drop (given + count) bytes
left_given count given bytes buffer copied =
    sym (take-append-drop count (drop given bytes)) ∙ ap (λ front. front ++ drop count (drop given bytes)) (sym copied)
    ∙ ap (λ rest. take count buffer ++ rest) (drop-drop count given bytes)
