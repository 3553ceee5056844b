-- Whole frames, one behind the other.
use Rattle.std.specs.Prelude.{◌≡◌, ℕ, List, [], ◌∷◌, ◌++◌, All}
use Rattle.std.specs.List.{concat}
use Rattle.blot_tag.specs.Frames.{IsFrame}
use Rattle.blot_tag.specs.Walking.{frames_of, skipped_of, rest_of, takes, walk_of}

-- a text is whole frames, one behind the other: no byte of it is passed over, and none is left
pub record IsWhole (text : List ℕ) : Type 0 where
  pub skipped : skipped_of text ≡ 0
  pub rest : rest_of text ≡ []

-- ---- the laws

-- a frame before a text is its first frame, and nothing else changes
abbrev pub FrameComesFirst : List ℕ → Type 0
FrameComesFirst frame = (text : List ℕ) → walk_of (frame ++ text) ≡ takes frame (walk_of text)

-- whole frames with one frame behind them are whole frames, of which it is the last
pub record HasLastFrame (text frame : List ℕ) : Type 0 where
  pub frames : frames_of (text ++ frame) ≡ frames_of text ++ frame ∷ []
  pub whole : IsWhole (text ++ frame)

-- frames, joined, are a text of just these frames
pub record AreJust (frames : List (List ℕ)) : Type 0 where
  pub just : frames_of (concat frames) ≡ frames
  pub whole : IsWhole (concat frames)

-- the frames of a text, joined, are the text
pub record IsJoined (text : List ℕ) : Type 0 where
  pub valid : All IsFrame (frames_of text)
  pub joined : concat (frames_of text) ≡ text
