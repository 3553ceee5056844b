-- Where the frames of a text stand in it.
use Rattle.std.specs.Prelude.{◌≡◌, ℕ, suc, ◌+◌, ◌-◌, List, [], ◌∷◌, length, take, drop, nat_eq, if◌then◌else◌, sum_by}
use Rattle.std.specs.List.{starts_with}
use Rattle.blot_tag.specs.Walking.{frames_of, skipped_of, rest_of}

-- how many bytes of a text stand before the first place at which it goes on with a frame
abbrev pub place_in : List ℕ → List ℕ → ℕ
place_in frame [] = 0
place_in frame (byte ∷ text) = if starts_with nat_eq (byte ∷ text) frame then 0 else suc (place_in frame text)

-- a frame, and how many bytes are passed over right before it
pub record Placed : Type 0 where
  pub passed : ℕ
  pub text : List ℕ

-- some frames, each at its first place after the one before it
abbrev pub placed_in : List (List ℕ) → List ℕ → List Placed
placed_in [] text = []
placed_in (frame ∷ frames) text =
    record { passed = place_in frame text; text = frame } ∷ placed_in frames (drop (place_in frame text + length frame) text)

-- the frames of a text, each at its place
abbrev pub placed_of : List ℕ → List Placed
placed_of text = placed_in (frames_of text) text

-- so many bytes more are passed over before the first of some frames
abbrev pub after_bytes : ℕ → List Placed → List Placed
after_bytes count [] = []
after_bytes count (frame ∷ frames) = record frame { passed = count + frame.passed } ∷ frames

-- how many bytes are passed over before the last of some frames
abbrev pub passed_by : List Placed → ℕ
passed_by placed = sum_by (λ frame. frame.passed) placed

-- how many bytes of a text are passed over after its last frame
abbrev pub passed_last : List ℕ → ℕ
passed_last text = skipped_of text - passed_by (placed_of text)

-- ---- the law

-- a text is some frames, each after the bytes that are passed over right before it, then so many bytes that are passed over, and a rest
abbrev pub IsLaidOut : List ℕ → List Placed → ℕ → List ℕ → Type 0
IsLaidOut text [] last rest = drop last text ≡ rest
IsLaidOut text (frame ∷ frames) last rest =
    (take (length frame.text) (drop frame.passed text) ≡ frame.text) × IsLaidOut (drop (frame.passed + length frame.text) text) frames last rest

-- each frame of a text stands at its place, and the bytes between are all that are passed over
pub record ArePlaced (text : List ℕ) : Type 0 where
  pub laid_out : IsLaidOut text (placed_of text) (passed_last text) (rest_of text)
  pub passed : passed_by (placed_of text) + passed_last text ≡ skipped_of text
