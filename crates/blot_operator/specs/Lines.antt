-- The lines of a text, which end at LF, and a text as its bytes come. Source: this project's rule.
use Rattle.std.specs.Prelude.{ℕ, ◌+◌, ◌==◌, List, [], ◌∷◌, ◌++◌, take, fold, if◌then◌else◌}
use Rattle.blot_console.specs.declared.parsing.TheConstants.{LINE_MAX}

-- a text as far as it came: the lines that have ended, and the bytes of the one that has begun
pub record Split : Type 0 where
  pub ended : List (List ℕ)
  pub begun : List ℕ

-- one more byte
abbrev pub split_on : Split → ℕ → Split
split_on split byte =
    if byte == 10 then (record { ended = split.ended ++ split.begun ∷ []; begun = [] })
    else (record { ended = split.ended; begun = split.begun ++ byte ∷ [] })

-- a text, byte by byte
abbrev pub split_of : List ℕ → Split
split_of text = fold split_on (record { ended = []; begun = [] }) text

-- what is kept of a line: enough of it to see that it is too long
unfoldable pub kept : List ℕ → List ℕ
kept line = take (LINE_MAX + 1) line
