-- The audit trail of a capture: the walk over its messages, told line by line.
use Rattle.std.specs.Prelude.{ℕ, ◌+◌, List, [], ◌∷◌, ◌++◌, codes, length, map, sum_by}
use Rattle.blot_tag.specs.Places.{placed_of, passed_last}
use Rattle.blot_tag.specs.Walking.{rest_of, skipped_of}
use Rattle.blot_capture.specs.Replay.{Taking}
use Rattle.blot_capture.specs.Trace.{Turn, first_taking, trace_over}
use Rattle.blot_trail.specs.declared.word.Word.{Word}
use Rattle.blot_trail.specs.TrailText.{bytes_text, last_text, message_text, tail_text, word_of}

-- what is told of a message after its place and where it begins, with the lines of what is sent
abbrev pub tail_of : Turn → List ℕ
tail_of turn = tail_text turn.placed.text turn.became turn.actions

-- the lines of some messages: of each the bytes that are passed over right before it, and then its own, with those of what is sent.
-- The first message has this place among all, and the bytes before it begin at this offset
abbrev pub lines_of : ℕ → ℕ → List Turn → List ℕ
lines_of place offset [] = []
lines_of place offset (turn ∷ turns) =
    bytes_text (codes "skipped") offset turn.placed.passed
    ++ message_text place (offset + turn.placed.passed) (tail_of turn)
    ++ lines_of (place + 1) (offset + turn.placed.passed + length turn.placed.text) turns

-- the word of what became of each
abbrev pub words_of : List Turn → List Word
words_of turns = map (λ turn. word_of turn.became) turns

-- where the last of a stream's messages ends: after all of them, each with the bytes that are passed over before it
abbrev pub end_of : List Turn → ℕ
end_of turns = sum_by (λ turn. turn.placed.passed + length turn.placed.text) turns

-- the trail of bytes that come to these sessions and this desk
abbrev pub trail_over : Taking → List ℕ → List ℕ
trail_over taking bytes =
    let turns = trace_over taking (placed_of bytes) in
    lines_of 1 0 turns
    ++ last_text (words_of turns) (end_of turns) (passed_last bytes) (skipped_of bytes) (length (rest_of bytes))

-- the trail of a byte stream
abbrev pub trail_of : List ℕ → List (List ℕ) → List ℕ → List ℕ
trail_of own peers bytes = trail_over (first_taking own peers) bytes
