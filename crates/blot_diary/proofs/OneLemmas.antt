-- A text that is one frame.
use Rattle.std.proofs.Common.{◌≡◌, ℕ, Bool, true, false, not, List, [], Option, Some, sym, ap, subst, ◌∙◌, ◌↔◌, IsTrue, slice_get, bytes_eq, append-nil}
use Rattle.std.proofs.lemmas.Bool.{false≢true, not-false}
use Rattle.std.proofs.lemmas.Slice.Eq.{bytes_eq-Decides}
use Rattle.blot_tag.specs.Frames.{IsFrame}
use Rattle.blot_tag.specs.Walking.{Walk, first_frame, walk_of}
use Rattle.blot_tag.proofs.JoinedLemmas.{comes_first}
use Rattle.blot_diary.specs.Events.{IsPlain, keeps_message}

-- it isn't empty
-- it is the first frame of itself
pub first-alone : (text unread : List ℕ) (frame : Option (List ℕ)) → unread ≡ text → frame ≡ first_frame unread → IsFrame text → frame ≡ Some text
first-alone text unread frame is first valid =
    first ∙ ap first_frame is ∙ ap (λ (walk : Walk). slice_get walk.frames 0) (ap walk_of (sym (append-nil text)) ∙ comes_first text valid [])

-- a frame that differs from a text, and is the first of it: the text isn't one
pub differs : (text unread frame : List ℕ) → unread ≡ text → Some frame ≡ first_frame unread → true ≡ not (bytes_eq frame text) → IsFrame text → ⊥
differs text unread frame is first other valid =
    let both = first-alone text unread (Some frame) is first valid in
    let same : frame ≡ text = cc in
    let eq = (bytes_eq-Decides frame text).1 same in
    false≢true (sym (ap not eq) ∙ sym other)

pub plain_when : (text frame : List ℕ) (plain : Bool) → false ≡ not (bytes_eq frame text) → IsFrame frame → plain ≡ keeps_message frame → IsTrue plain ↔ IsPlain text
plain_when text frame plain same valid is =
    let is_text = (bytes_eq-Decides frame text).0 (not-false _ (sym same)) in
    let alike : plain ≡ keeps_message text = is ∙ ap keeps_message is_text in
    (λ true_is. (subst IsFrame is_text valid, sym alike ∙ true_is), λ keeps. alike ∙ keeps.1)
