-- Whole frames, one behind the other.
use Rattle.std.proofs.Common.{◌≡◌, ℕ, ◌+◌, List, [], ◌∷◌, ◌++◌, refl, sym, ap, ◌∙◌, arith, All, append-nil}
use Rattle.std.specs.List.{concat}
use Rattle.std.proofs.lemmas.List.Elements.{All-head, All-tail}
use Rattle.blot_tag.specs.Frames.{IsFrame}
use Rattle.blot_tag.specs.Joined.{AreJust, FrameComesFirst, HasLastFrame, IsJoined, IsWhole}
use Rattle.blot_tag.specs.Walking.{IsWalk, Walk, at_frame, at_neither, at_prefix, frames_of, joined_with, skipped_of, stops_at, takes, walk_of}
use Rattle.blot_tag.proofs.PlaceLemmas.{valid-frames}
use Rattle.blot_tag.proofs.WalkLemmas.{is_walk, look_of-nil, only_walk, walk_of-append, walk_of-prefix}

pub comes_first : (frame : List ℕ) → IsFrame frame → FrameComesFirst frame
comes_first frame valid text =
    sym (only_walk (frame ++ text) (takes frame (walk_of text)) (at_frame frame text (frame ++ text) (walk_of text) valid refl (is_walk text)))

walk_of-nil : walk_of [] ≡ stops_at []
walk_of-nil = walk_of-prefix [] look_of-nil

walk_of-one : (frame : List ℕ) → IsFrame frame → walk_of frame ≡ takes frame (stops_at [])
walk_of-one frame valid = ap walk_of (sym (append-nil frame)) ∙ comes_first frame valid [] ∙ ap (takes frame) walk_of-nil

pub has_last : (text frame : List ℕ) → IsFrame frame → IsWhole text → HasLastFrame text frame
has_last text frame valid whole =
    let walk : walk_of (text ++ frame) ≡ record { frames = frames_of text ++ frame ∷ []; skipped = skipped_of text + 0; rest = [] } =
    walk_of-append text frame
    ∙ ap (λ rest. joined_with (record (walk_of text) { rest = rest }) frame) whole.rest
    ∙ ap (λ (last : Walk). record { frames = frames_of text ++ last.frames; skipped = skipped_of text + last.skipped; rest = last.rest }) (walk_of-one frame valid) in
    record {
      frames = ap (λ (walk : Walk). walk.frames) walk;
      whole = record {
        skipped = ap (λ (walk : Walk). walk.skipped) walk ∙ ap (λ skipped. skipped + 0) whole.skipped;
        rest = ap (λ (walk : Walk). walk.rest) walk;
      };
    }

walk_of-concat : (frames : List (List ℕ)) → All IsFrame frames → walk_of (concat frames) ≡ record { frames = frames; skipped = 0; rest = [] }
walk_of-concat [] valid = walk_of-nil
walk_of-concat (frame ∷ frames) valid =
    comes_first frame (All-head IsFrame frame frames valid) (concat frames) ∙ ap (takes frame) (walk_of-concat frames (All-tail IsFrame frame frames valid))

pub are_just : (frames : List (List ℕ)) → All IsFrame frames → AreJust frames
are_just frames valid =
    let walk = walk_of-concat frames valid in
    record {
      just = ap (λ (walk : Walk). walk.frames) walk;
      whole = record { skipped = ap (λ (walk : Walk). walk.skipped) walk; rest = ap (λ (walk : Walk). walk.rest) walk };
    }

concat-frames : (text : List ℕ) (walk : Walk) → IsWalk text walk → walk.skipped ≡ 0 → walk.rest ≡ [] → concat walk.frames ≡ text
concat-frames text _ (at_frame frame more _ walk valid is rest) none nil = ap (λ back. frame ++ back) (concat-frames more walk rest none nil) ∙ sym is
concat-frames text _ (at_prefix _ prefix) none nil = sym nil
concat-frames _ _ (at_neither byte text walk garbled rest) none nil = absurd (omega (arith, none))

pub is_joined : (text : List ℕ) → IsWhole text → IsJoined text
is_joined text whole = record { valid = valid-frames text; joined = concat-frames text (walk_of text) (is_walk text) whole.skipped whole.rest }
