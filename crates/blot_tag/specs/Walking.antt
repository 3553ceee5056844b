-- The frames of a stream: a walk from its first byte on.
use Rattle.std.specs.Prelude.{◌≡◌, ℕ, zero, suc, ◌+◌, ◌-◌, List, [], ◌∷◌, ◌++◌, take, slice_get, Option, Result, Ok, Err}
use Rattle.blot_tag.specs.Frames.{IsFrame, IsFramePrefix, IsGarbled}
use Rattle.blot_tag.specs.Looking.{look_of}
use Rattle.blot_tag.specs.declared.look.Miss.{Miss}
use Rattle.blot_tag.specs.declared.look.Miss.TheVariants.{Partial, Neither}

-- what a walk finds: the frames taken, how many bytes it passed over, and the rest that it waits at
pub record Walk : Type 0 where
  pub frames : List (List ℕ)
  pub skipped : ℕ
  pub rest : List ℕ

-- the walk takes a frame first
abbrev pub takes : List ℕ → Walk → Walk
takes frame walk = record walk { frames = frame ∷ walk.frames }

-- the walk passes over some bytes first
abbrev pub passes_by : ℕ → Walk → Walk
passes_by bytes walk = record walk { skipped = bytes + walk.skipped }

-- the walk stops
abbrev pub stops_at : List ℕ → Walk
stops_at text = record { frames = []; skipped = 0; rest = text }

-- one step of the walk at a text, by what stands there; `goes_on` walks on after its first byte, past bytes of a frame
abbrev pub step_at : List ℕ → (ℕ → Walk) → Result ℕ Miss → Walk
step_at text goes_on (Ok size) = takes (take size text) (goes_on (size - 1))
step_at text goes_on (Err Partial) = stops_at text
step_at text goes_on (Err Neither) = passes_by 1 (goes_on 0)

-- the walk, where the first bytes of the text are still `inside` the frame that was taken last
unfoldable pub walk_behind : ℕ → List ℕ → Walk
walk_behind inside [] = stops_at []
walk_behind (suc inside) (byte ∷ text) = walk_behind inside text
walk_behind zero (byte ∷ text) = step_at (byte ∷ text) (λ inside. walk_behind inside text) (look_of (byte ∷ text))

-- the walk over a whole text
abbrev pub walk_of : List ℕ → Walk
walk_of text = walk_behind 0 text

-- the frames of a text
abbrev pub frames_of : List ℕ → List (List ℕ)
frames_of text = (walk_of text).frames

-- the first of them, if there is one
abbrev pub first_frame : List ℕ → Option (List ℕ)
first_frame text = slice_get (frames_of text) 0

-- how many of its bytes are passed over
abbrev pub skipped_of : List ℕ → ℕ
skipped_of text = (walk_of text).skipped

-- what is left of it: nothing, or a proper prefix of some valid frame
abbrev pub rest_of : List ℕ → List ℕ
rest_of text = (walk_of text).rest

-- the walk over a text and a piece after it: the frames of the text, and then those of its rest joined with the piece
abbrev pub joined_with : Walk → List ℕ → Walk
joined_with walk piece = record {
  frames = walk.frames ++ frames_of (walk.rest ++ piece);
  skipped = walk.skipped + skipped_of (walk.rest ++ piece);
  rest = rest_of (walk.rest ++ piece);
}

-- the walk in plain words: where a valid frame begins, it is taken; where the text is a proper prefix of one, the walk stops;
-- any other byte is passed over
pub data IsWalk : List ℕ → Walk → Type 0 where
  at_frame : (frame more text : List ℕ) (walk : Walk) → IsFrame frame → text ≡ frame ++ more → IsWalk more walk → IsWalk text (takes frame walk)
  at_prefix : (text : List ℕ) → IsFramePrefix text → IsWalk text (stops_at text)
  at_neither : (byte : ℕ) (text : List ℕ) (walk : Walk) → IsGarbled (byte ∷ text) → IsWalk text walk → IsWalk (byte ∷ text) (passes_by 1 walk)
