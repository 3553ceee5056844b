-- Where the frames of a text stand in it.
use Rattle.std.proofs.Common.{◌≡◌, ℕ, zero, suc, ◌+◌, ◌-◌, ◌<◌, ◌≤◌, true, false, List, [], ◌∷◌, ◌++◌, length, take, drop, Result, Err, refl, sym, ap, subst, ◌∙◌, arith, inl, inr, nat_eq, All, append_assoc, take-append-drop}
use Rattle.std.specs.Cmp.Lexicographic.{bytes_decides}
use Rattle.std.specs.List.{starts_with}
use Rattle.std.proofs.lemmas.Bool.{cases_Bool, cases_lt}
use Rattle.std.proofs.lemmas.List.{drop-append-le, drop_all}
use Rattle.std.proofs.lemmas.List.Elements.{All-cons, All-head, All-nil}
use Rattle.std.proofs.lemmas.List.Sums.{sum_by-cons}
use Rattle.std.proofs.Math.Seq.{take-append_seam, drop-append_seam}
use Rattle.blot_tag.specs.Frames.{IsFrame, IsGarbled}
use Rattle.blot_tag.specs.Places.{Placed, place_in, placed_in, placed_of, after_bytes, passed_by, IsLaidOut, ArePlaced}
use Rattle.blot_tag.specs.Reading.{Reading, TakesFirst, FindsNone}
use Rattle.blot_tag.specs.Walking.{Walk, takes, passes_by, walk_of, frames_of, skipped_of, joined_with, IsWalk, at_frame, at_prefix, at_neither}
use Rattle.blot_tag.specs.declared.look.Miss.{Miss}
use Rattle.blot_tag.specs.declared.look.Miss.TheVariants.{Neither, Partial}
use Rattle.blot_tag.proofs.FrameLemmas.{look_of-neither, look_of-not_garbled, look_of-garbled}
use Rattle.blot_tag.proofs.WalkLemmas.{is_walk, walk_of-append, look_of-nil}

-- ---- one frame

-- a frame stands where it begins
begins-true : (frame more : List ℕ) → starts_with nat_eq (frame ++ more) frame ≡ true
begins-true frame more = (bytes_decides frame (take (length frame) (frame ++ more))).1 (sym (take-append_seam frame more))

-- and not where nothing begins
begins-false : (frame text : List ℕ) → IsFrame frame → IsGarbled text → starts_with nat_eq text frame ≡ false
begins-false frame text is garbled =
    elim (cases_Bool (starts_with nat_eq text frame)) [
      | inl y ↦
          let front : frame ≡ take (length frame) text = (bytes_decides frame (take (length frame) text)).0 y in
          absurd (garbled.no_frame (record {
            frame = frame;
            more = drop (length frame) text;
            valid = is;
            whole = sym (take-append-drop (length frame) text) ∙ ap (λ front. front ++ drop (length frame) text) (sym front);
          }))
      | inr n ↦ n
    ]

place_in-here : (frame text : List ℕ) → starts_with nat_eq text frame ≡ true → place_in frame text ≡ 0
place_in-here frame [] is = refl
place_in-here frame (byte ∷ text) is = rw is refl

place_in-next : (frame : List ℕ) (byte : ℕ) (text : List ℕ) → starts_with nat_eq (byte ∷ text) frame ≡ false → place_in frame (byte ∷ text) ≡ suc (place_in frame text)
place_in-next frame byte text is = rw is refl

-- nothing at all can become a frame
nothing-garbled : IsGarbled [] → ⊥
nothing-garbled garbled = neither-partial (sym (look_of-not_garbled [] garbled) ∙ look_of-nil)
  where
    neither-partial : ◌≡◌ {A = Result ℕ Miss} (Err Neither) (Err Partial) → ⊥
    neither-partial is = cc

-- ---- some frames

-- where one stands first, the others come after it
placed-frame : (frame more : List ℕ) (frames : List (List ℕ)) → placed_in (frame ∷ frames) (frame ++ more) ≡ record { passed = 0; text = frame } ∷ placed_in frames more
placed-frame frame more frames =
    let here : place_in frame (frame ++ more) ≡ 0 = place_in-here frame (frame ++ more) (begins-true frame more) in
    let rest : drop (place_in frame (frame ++ more) + length frame) (frame ++ more) ≡ more =
    let whole : place_in frame (frame ++ more) + length frame ≡ length frame = omega (arith, here) in
    ap (λ k. drop k (frame ++ more)) whole ∙ drop-append_seam frame more in
    ap (λ k. record { passed = k; text = frame } ∷ placed_in frames (drop (place_in frame (frame ++ more) + length frame) (frame ++ more))) here
    ∙ ap (λ left. record { passed = 0; text = frame } ∷ placed_in frames left) rest

-- a byte where nothing begins is passed over
placed-byte : (frames : List (List ℕ)) (byte : ℕ) (text : List ℕ) → All IsFrame frames → IsGarbled (byte ∷ text)
    → placed_in frames (byte ∷ text) ≡ after_bytes 1 (placed_in frames text)
placed-byte [] byte text valid garbled = refl
placed-byte (frame ∷ frames) byte text valid garbled =
    let next : place_in frame (byte ∷ text) ≡ suc (place_in frame text) =
    place_in-next frame byte text (begins-false frame (byte ∷ text) (All-head IsFrame frame frames valid) garbled) in
    let passed : place_in frame (byte ∷ text) ≡ 1 + place_in frame text = omega (arith, next) in
    let rest : drop (place_in frame (byte ∷ text) + length frame) (byte ∷ text) ≡ drop (place_in frame text + length frame) text =
    let later : place_in frame (byte ∷ text) + length frame ≡ suc (place_in frame text + length frame) = omega (arith, next) in
    ap (λ k. drop k (byte ∷ text)) later in
    ap (λ k. record { passed = k; text = frame } ∷ placed_in frames (drop (place_in frame (byte ∷ text) + length frame) (byte ∷ text))) passed
    ∙ ap (λ left. record { passed = 1 + place_in frame text; text = frame } ∷ placed_in frames left) rest

after_bytes-zero : (placed : List Placed) → after_bytes 0 placed ≡ placed
after_bytes-zero [] = refl
after_bytes-zero (frame ∷ frames) =
    let same : 0 + frame.passed ≡ frame.passed = omega arith in
    ap (λ k. record frame { passed = k } ∷ frames) same

after_bytes-add : (n m : ℕ) (placed : List Placed) → after_bytes n (after_bytes m placed) ≡ after_bytes (n + m) placed
after_bytes-add n m [] = refl
after_bytes-add n m (frame ∷ frames) =
    let same : n + (m + frame.passed) ≡ n + m + frame.passed = omega arith in
    ap (λ k. record frame { passed = k } ∷ frames) same

-- so are several
placed-bytes : (n : ℕ) (frames : List (List ℕ)) (text : List ℕ) → All IsFrame frames → ((place : ℕ) → place < n → IsGarbled (drop place text))
    → placed_in frames text ≡ after_bytes n (placed_in frames (drop n text))
placed-bytes zero frames text valid garbled = sym (after_bytes-zero (placed_in frames text))
placed-bytes (suc n) frames [] valid garbled = absurd (nothing-garbled (garbled 0 (omega arith)))
placed-bytes (suc n) frames (byte ∷ text) valid garbled =
    let count : 1 + n ≡ suc n = omega arith in
    placed-byte frames byte text valid (garbled 0 (omega arith))
    ∙ ap (after_bytes 1) (placed-bytes n frames text valid (λ place below. garbled (suc place) (omega arith)))
    ∙ after_bytes-add 1 n (placed_in frames (drop n text))
    ∙ ap (λ k. after_bytes k (placed_in frames (drop n text))) count

-- ---- the frames of a text

-- the frames of a walk are valid
valid-walk : (text : List ℕ) (walk : Walk) → IsWalk text walk → All IsFrame walk.frames
valid-walk text _ (at_frame frame more _ walk valid whole rest) = All-cons IsFrame frame walk.frames valid (valid-walk more walk rest)
valid-walk text _ (at_prefix _ prefix) = All-nil IsFrame
valid-walk _ _ (at_neither byte text walk garbled rest) = valid-walk text walk rest

pub valid-frames : (text : List ℕ) → All IsFrame (frames_of text)
valid-frames text = valid-walk text (walk_of text) (is_walk text)

-- ---- the law

pub passed_by-after : (n : ℕ) (frame : Placed) (frames : List Placed) → passed_by (after_bytes n (frame ∷ frames)) ≡ n + passed_by (frame ∷ frames)
passed_by-after n frame frames =
    omega (arith, sum_by-cons (λ (placed : Placed). placed.passed) (record frame { passed = n + frame.passed }) frames, sum_by-cons (λ (placed : Placed). placed.passed) frame frames)

-- a text that is laid out, with a byte more before it that is passed over
laid-byte : (byte : ℕ) (text : List ℕ) (placed : List Placed) (skipped : ℕ) (rest : List ℕ)
    → IsLaidOut text placed (skipped - passed_by placed) rest → IsLaidOut (byte ∷ text) (after_bytes 1 placed) (1 + skipped - passed_by (after_bytes 1 placed)) rest
laid-byte byte text [] skipped rest laid =
    let last : 1 + skipped - 0 ≡ suc (skipped - 0) = omega arith in
    ap (λ k. drop k (byte ∷ text)) last ∙ laid
laid-byte byte text (frame ∷ frames) skipped rest laid =
    let last : skipped - passed_by (frame ∷ frames) ≡ 1 + skipped - passed_by (after_bytes 1 (frame ∷ frames)) = omega (arith, passed_by-after 1 frame frames) in
    let here : 1 + frame.passed ≡ suc frame.passed = omega arith in
    let later : 1 + frame.passed + length frame.text ≡ suc (frame.passed + length frame.text) = omega arith in (
      ap (λ k. take (length frame.text) (drop k (byte ∷ text))) here ∙ laid.0,
      subst (λ k. IsLaidOut (drop (1 + frame.passed + length frame.text) (byte ∷ text)) frames k rest) last
          (subst (λ left. IsLaidOut left frames (skipped - passed_by (frame ∷ frames)) rest) (sym (ap (λ k. drop k (byte ∷ text)) later)) laid.1),
    )

-- what a walk finds is laid out
pub record LaysBy (text : List ℕ) (placed : List Placed) (skipped : ℕ) (rest : List ℕ) : Type 0 where
  pub laid_out : IsLaidOut text placed (skipped - passed_by placed) rest
  pub passed : passed_by placed ≤ skipped

abbrev pub Lays : List ℕ → Walk → Type 0
Lays text walk = LaysBy text (placed_in walk.frames text) walk.skipped walk.rest

passed-after : (placed : List Placed) (skipped : ℕ) → passed_by placed ≤ skipped → passed_by (after_bytes 1 placed) ≤ 1 + skipped
passed-after [] skipped few = omega arith
passed-after (frame ∷ frames) skipped few = omega (arith, few, passed_by-after 1 frame frames)

lays-walk : (text : List ℕ) (walk : Walk) → IsWalk text walk → Lays text walk
lays-walk text _ (at_frame frame more _ walk valid whole rest) =
    let lays = lays-walk more walk rest in
    let placed : placed_in (frame ∷ walk.frames) text ≡ record { passed = 0; text = frame } ∷ placed_in walk.frames more =
    ap (placed_in (frame ∷ walk.frames)) whole ∙ placed-frame frame more walk.frames in
    let first : Placed = record { passed = 0; text = frame } in
    let none : 0 + length frame ≡ length frame = omega arith in
    let sum : passed_by (first ∷ placed_in walk.frames more) ≡ passed_by (placed_in walk.frames more) =
    omega (arith, sum_by-cons (λ (placed : Placed). placed.passed) first (placed_in walk.frames more)) in
    subst (λ (found : List Placed). LaysBy text found walk.skipped walk.rest) (sym placed)
    (subst (λ (whole : List ℕ). LaysBy whole (first ∷ placed_in walk.frames more) walk.skipped walk.rest) (sym whole) (record {
      laid_out = (
        take-append_seam frame more,
        subst (λ left. IsLaidOut left (placed_in walk.frames more) (walk.skipped - passed_by (first ∷ placed_in walk.frames more)) walk.rest)
            (sym (ap (λ k. drop k (frame ++ more)) none ∙ drop-append_seam frame more))
            (subst (λ k. IsLaidOut more (placed_in walk.frames more) (walk.skipped - k) walk.rest) (sym sum) lays.laid_out),
      );
      passed = omega (arith, sum, lays.passed);
    }))
lays-walk text _ (at_prefix _ prefix) = record { laid_out = refl; passed = omega arith }
lays-walk _ _ (at_neither byte text walk garbled rest) =
    let lays = lays-walk text walk rest in
    let placed = placed-byte walk.frames byte text (valid-walk text walk rest) garbled in
    subst (λ (found : List Placed). LaysBy (byte ∷ text) found (1 + walk.skipped) walk.rest) (sym placed) (record {
      laid_out = laid-byte byte text (placed_in walk.frames text) walk.skipped walk.rest lays.laid_out;
      passed = passed-after (placed_in walk.frames text) walk.skipped lays.passed;
    })

pub are_placed : (text : List ℕ) → ArePlaced text
are_placed text =
    let lays = lays-walk text (walk_of text) (is_walk text) in
    record { laid_out = lays.laid_out; passed = omega (arith, lays.passed) }

-- ---- the frames that a reader takes, whatever comes after its unread bytes

-- nothing begins at these places, with more bytes as without
garbled-more : (n : ℕ) (text more : List ℕ) → ((place : ℕ) → place < n → IsGarbled (drop place text)) → (place : ℕ) → place < n → IsGarbled (drop place (text ++ more))
garbled-more n text more garbled place below =
    elim (cases_lt (length text) place) [
      | inl past ↦ absurd (nothing-garbled (subst IsGarbled (drop_all place text (omega (arith, past))) (garbled place below)))
      | inr inside ↦
          let joined : drop place (text ++ more) ≡ drop place text ++ more = drop-append-le place text more inside in
          subst IsGarbled (sym joined)
          (look_of-garbled (drop place text ++ more) (look_of-neither (drop place text) more (look_of-not_garbled (drop place text) (garbled place below))))
    ]

-- what is passed over stands within the text
pub passed-within : (n : ℕ) (text : List ℕ) → ((place : ℕ) → place < n → IsGarbled (drop place text)) → n ≤ length text
passed-within zero text garbled = omega arith
passed-within (suc n) text garbled =
    elim (cases_lt (length text) (suc n)) [
      | inl past ↦ absurd (nothing-garbled (subst IsGarbled (drop_all n text (omega (arith, past))) (garbled n (omega arith))))
      | inr inside ↦ inside
    ]

dropped-all : (n : ℕ) (text more rest : List ℕ) → ((place : ℕ) → place < n → IsGarbled (drop place text)) → drop n text ≡ rest → drop n (text ++ more) ≡ rest ++ more
dropped-all n text more rest garbled is = drop-append-le n text more (passed-within n text garbled) ∙ ap (λ left. left ++ more) is

dropped : (n : ℕ) (text more frame rest : List ℕ) → ((place : ℕ) → place < n → IsGarbled (drop place text)) → drop n text ≡ frame ++ rest
    → drop n (text ++ more) ≡ frame ++ (rest ++ more)
dropped n text more frame rest garbled is = dropped-all n text more (frame ++ rest) garbled is ∙ append_assoc frame rest more

-- the walk over them begins with what is passed over and the frame
pub walk-taken : (old new : Reading) (frame more : List ℕ) (taken : TakesFirst old frame new)
    → walk_of (old.unread ++ more) ≡ passes_by taken.passed (takes frame (walk_of (new.unread ++ more)))
walk-taken old new frame more taken =
    let left = (walk_of new.unread).skipped in
    let same : taken.passed + left + skipped_of ((walk_of new.unread).rest ++ more) ≡ taken.passed + (left + skipped_of ((walk_of new.unread).rest ++ more)) = omega arith in
    walk_of-append old.unread more ∙ ap (λ walk. joined_with walk more) taken.walk
    ∙ ap (λ k. record (takes frame (joined_with (walk_of new.unread) more)) { skipped = k }) same
    ∙ ap (λ walk. passes_by taken.passed (takes frame walk)) (sym (walk_of-append new.unread more))

pub walk-none : (old new : Reading) (more : List ℕ) (none : FindsNone old new)
    → walk_of (old.unread ++ more) ≡ passes_by none.passed (walk_of (new.unread ++ more))
walk-none old new more none =
    let same : none.passed + 0 + skipped_of (new.unread ++ more) ≡ none.passed + skipped_of (new.unread ++ more) = omega arith in
    walk_of-append old.unread more ∙ ap (λ walk. joined_with walk more) none.walk
    ∙ ap (λ k. record (walk_of (new.unread ++ more)) { skipped = k }) same

-- the bytes passed over before a frame that is taken
pub placed-taken : (old new : Reading) (frame more : List ℕ) (taken : TakesFirst old frame new)
    → placed_of (old.unread ++ more) ≡ record { passed = taken.passed; text = frame } ∷ placed_of (new.unread ++ more)
placed-taken old new frame more taken =
    let text = old.unread ++ more in
    let left = new.unread ++ more in
    let frames : frames_of text ≡ frame ∷ frames_of left = ap (λ walk. walk.frames) (walk-taken old new frame more taken) in
    let count : taken.passed + 0 ≡ taken.passed = omega arith in
    let bytes : drop taken.passed text ≡ frame ++ left = dropped taken.passed old.unread more frame new.unread taken.early taken.bytes in
    placed-bytes taken.passed (frames_of text) text (valid-frames text) (garbled-more taken.passed old.unread more taken.early)
    ∙ ap (λ found. after_bytes taken.passed (placed_in found (drop taken.passed text))) frames
    ∙ ap (λ rest. after_bytes taken.passed (placed_in (frame ∷ frames_of left) rest)) bytes
    ∙ ap (after_bytes taken.passed) (placed-frame frame left (frames_of left))
    ∙ ap (λ k. record { passed = k; text = frame } ∷ placed_of left) count

-- and those passed over where none is found
pub placed-none : (old new : Reading) (more : List ℕ) (none : FindsNone old new)
    → placed_of (old.unread ++ more) ≡ after_bytes none.passed (placed_of (new.unread ++ more))
placed-none old new more none =
    let text = old.unread ++ more in
    let left = new.unread ++ more in
    let frames : frames_of text ≡ frames_of left = ap (λ walk. walk.frames) (walk-none old new more none) in
    let bytes : drop none.passed text ≡ left = dropped-all none.passed old.unread more new.unread none.early none.bytes in
    placed-bytes none.passed (frames_of text) text (valid-frames text) (garbled-more none.passed old.unread more none.early)
    ∙ ap (λ found. after_bytes none.passed (placed_in found (drop none.passed text))) frames
    ∙ ap (λ rest. after_bytes none.passed (placed_in (frames_of left) rest)) bytes
