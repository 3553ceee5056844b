-- The walk over a text, a step at a time, and over two texts joined.
use Rattle.std.proofs.Common.{◌≡◌, ℕ, zero, suc, ◌-◌, ◌<◌, ◌≤◌, List, [], ◌∷◌, ◌++◌, length, take, drop, Result, Ok, Err, refl, sym, ap, subst, ◌∙◌, arith, zero-add, take-append-drop}
use Rattle.std.proofs.lemmas.List.{take-append-le, drop_all}
use Rattle.std.proofs.Math.Seq.{take-append_seam, drop-append_seam}
use Rattle.blot_tag.specs.Looking.{behind, look_of}
use Rattle.blot_tag.specs.Walking.{Walk, takes, passes_by, stops_at, step_at, walk_behind, walk_of, joined_with, IsWalk, at_frame, at_prefix, at_neither}
use Rattle.blot_tag.specs.declared.look.Miss.{Miss}
use Rattle.blot_tag.specs.declared.look.Miss.TheVariants.{Partial, Neither}
use Rattle.blot_tag.proofs.FrameLemmas.{look_of-ok, look_of-partial, look_of-neither, look_of-prefix, look_of-garbled, look_of-not_garbled, look_of-frame}

sub-one' : (n : ℕ) → suc n - 1 ≡ n
sub-one' n = omega arith

walk_behind-nil : (inside : ℕ) → walk_behind inside [] ≡ stops_at []
unfolding walk_behind
walk_behind-nil inside = refl

walk_behind-suc : (inside byte : ℕ) (text : List ℕ) → walk_behind (suc inside) (byte ∷ text) ≡ walk_behind inside text
unfolding walk_behind
walk_behind-suc inside byte text = refl

walk_behind-step : (byte : ℕ) (text : List ℕ) (look : Result ℕ Miss) → look_of (byte ∷ text) ≡ look → walk_of (byte ∷ text) ≡ step_at (byte ∷ text) (λ inside. walk_behind inside text) look
unfolding walk_behind
walk_behind-step byte text look is = ap (step_at (byte ∷ text) (λ inside. walk_behind inside text)) is

pub walk_behind-drop : (inside : ℕ) (text : List ℕ) → walk_behind inside text ≡ walk_of (drop inside text)
walk_behind-drop inside [] = walk_behind-nil inside ∙ sym (ap walk_of (drop_all inside [] (omega arith)) ∙ walk_behind-nil 0)
walk_behind-drop zero (byte ∷ text) = refl
walk_behind-drop (suc inside) (byte ∷ text) = walk_behind-suc inside byte text ∙ walk_behind-drop inside text

-- ---- a step at a text

pub walk_of-frame : (text : List ℕ) (n : ℕ) → look_of text ≡ Ok n → walk_of text ≡ takes (take n text) (walk_of (drop n text))
walk_of-frame text zero found = absurd (omega (arith, (look_of-ok text zero found).some))
walk_of-frame [] (suc n) found = absurd (omega (arith, (look_of-ok [] (suc n) found).inside))
walk_of-frame (byte ∷ text) (suc n) found =
    walk_behind-step byte text (Ok (suc n)) found
    ∙ ap (takes (take (suc n) (byte ∷ text))) (ap (λ k. walk_behind k text) (sub-one' n) ∙ walk_behind-drop n text)

pub walk_of-prefix : (text : List ℕ) → look_of text ≡ Err Partial → walk_of text ≡ stops_at text
walk_of-prefix [] found = walk_behind-nil 0
walk_of-prefix (byte ∷ text) found = walk_behind-step byte text (Err Partial) found

pub walk_of-neither : (byte : ℕ) (text : List ℕ) → look_of (byte ∷ text) ≡ Err Neither → walk_of (byte ∷ text) ≡ passes_by 1 (walk_of text)
walk_of-neither byte text found = walk_behind-step byte text (Err Neither) found

-- bytes where nothing begins are passed over, one after another
pub walk_of-garbled : (n : ℕ) (text : List ℕ) → n ≤ length text → ((place : ℕ) → place < n → look_of (drop place text) ≡ Err Neither) → walk_of text ≡ passes_by n (walk_of (drop n text))
walk_of-garbled zero text inside fails = ap (λ k. record (walk_of text) { skipped = k }) (sym (zero-add (walk_of text).skipped))
walk_of-garbled (suc n) [] inside fails = absurd (omega arith)
walk_of-garbled (suc n) (byte ∷ text) inside fails =
    walk_of-neither byte text (fails 0 (omega arith))
    ∙ ap (passes_by 1) (walk_of-garbled n text (omega arith) (λ place before. fails (suc place) (omega arith)))
    ∙ ap (λ k. record (walk_of (drop n text)) { skipped = k }) (omega arith)

-- ---- the law of cutting

takes-joined : (frame : List ℕ) (walk : Walk) (piece : List ℕ) → takes frame (joined_with walk piece) ≡ joined_with (takes frame walk) piece
takes-joined frame walk piece = refl

passes_by-joined : (n : ℕ) (walk : Walk) (piece : List ℕ) → passes_by n (joined_with walk piece) ≡ joined_with (passes_by n walk) piece
passes_by-joined n walk piece = ap (λ k. record (joined_with walk piece) { skipped = k }) (omega arith)

stops_at-joined : (text piece : List ℕ) → walk_of (text ++ piece) ≡ joined_with (stops_at text) piece
stops_at-joined text piece = ap (λ k. record (walk_of (text ++ piece)) { skipped = k }) (sym (zero-add (walk_of (text ++ piece)).skipped))

cut_at : (byte : ℕ) (text piece : List ℕ) (look : Result ℕ Miss) → look_of (byte ∷ text) ≡ look → ((inside : ℕ) → inside ≤ length text → walk_behind inside (text ++ piece) ≡ joined_with (walk_behind inside text) piece) → walk_of (byte ∷ (text ++ piece)) ≡ joined_with (walk_of (byte ∷ text)) piece
cut_at byte text piece (Ok n) is again =
    let has = look_of-ok (byte ∷ text) n is in
    let first = byte ∷ text in
    walk_behind-step byte (text ++ piece) (Ok n) (has.stays piece)
    ∙ ap (λ frame. takes frame (walk_behind (n - 1) (text ++ piece))) (take-append-le n first piece has.inside)
    ∙ ap (takes (take n first)) (again (n - 1) (omega (arith, has.some, has.inside)))
    ∙ takes-joined (take n first) (walk_behind (n - 1) text) piece
    ∙ ap (λ walk. joined_with walk piece) (sym (walk_behind-step byte text (Ok n) is))
cut_at byte text piece (Err Partial) is again =
    stops_at-joined (byte ∷ text) piece ∙ ap (λ walk. joined_with walk piece) (sym (walk_of-prefix (byte ∷ text) is))
cut_at byte text piece (Err Neither) is again =
    walk_of-neither byte (text ++ piece) (look_of-neither (byte ∷ text) piece is)
    ∙ ap (passes_by 1) (again 0 (omega arith))
    ∙ passes_by-joined 1 (walk_of text) piece
    ∙ ap (λ walk. joined_with walk piece) (sym (walk_of-neither byte text is))

behind-joined : (inside : ℕ) (text piece : List ℕ) → inside ≤ length text → walk_behind inside (text ++ piece) ≡ joined_with (walk_behind inside text) piece
behind-joined zero [] piece within = stops_at-joined [] piece ∙ ap (λ walk. joined_with walk piece) (sym (walk_behind-nil 0))
behind-joined (suc inside) [] piece within = absurd (omega arith)
behind-joined zero (byte ∷ text) piece within = cut_at byte text piece (look_of (byte ∷ text)) refl (λ inside less. behind-joined inside text piece less)
behind-joined (suc inside) (byte ∷ text) piece within =
    walk_behind-suc inside byte (text ++ piece) ∙ behind-joined inside text piece (omega arith)
    ∙ ap (λ walk. joined_with walk piece) (sym (walk_behind-suc inside byte text))

-- the walk over two pieces joined goes on from the rest of the first
pub walk_of-append : (text piece : List ℕ) → walk_of (text ++ piece) ≡ joined_with (walk_of text) piece
walk_of-append text piece = behind-joined 0 text piece (omega arith)

-- ---- the walk in plain words

looked_at : (byte : ℕ) (text : List ℕ) (look : Result ℕ Miss) → look_of (byte ∷ text) ≡ look → ((inside : ℕ) → IsWalk (drop inside text) (walk_behind inside text)) → IsWalk (byte ∷ text) (walk_of (byte ∷ text))
looked_at byte text (Ok zero) is again = absurd (omega (arith, (look_of-ok (byte ∷ text) zero is).some))
looked_at byte text (Ok (suc n)) is again =
    let has = look_of-ok (byte ∷ text) (suc n) is in
    let first = byte ∷ text in
    subst (IsWalk first) (sym (walk_of-frame first (suc n) is))
    (at_frame (take (suc n) first) (drop n text) first (walk_of (drop n text)) has.valid (sym (take-append-drop (suc n) first))
    (subst (IsWalk (drop n text)) (walk_behind-drop n text) (again n)))
looked_at byte text (Err Partial) is again =
    subst (IsWalk (byte ∷ text)) (sym (walk_of-prefix (byte ∷ text) is)) (at_prefix (byte ∷ text) (look_of-partial (byte ∷ text) is))
looked_at byte text (Err Neither) is again =
    subst (IsWalk (byte ∷ text)) (sym (walk_of-neither byte text is)) (at_neither byte text (walk_of text) (look_of-garbled (byte ∷ text) is) (again 0))

pub look_of-nil : look_of [] ≡ Err Partial
unfolding look_of behind
look_of-nil = refl

behind_is_walk : (inside : ℕ) (text : List ℕ) → IsWalk (drop inside text) (walk_behind inside text)
behind_is_walk inside [] =
    subst (λ rest. IsWalk rest (walk_behind inside [])) (sym (drop_all inside [] (omega arith)))
    (subst (IsWalk []) (sym (walk_behind-nil inside)) (at_prefix [] (look_of-partial [] look_of-nil)))
behind_is_walk zero (byte ∷ text) = looked_at byte text (look_of (byte ∷ text)) refl (λ inside. behind_is_walk inside text)
behind_is_walk (suc inside) (byte ∷ text) =
    subst (IsWalk (drop inside text)) (sym (walk_behind-suc inside byte text)) (behind_is_walk inside text)

pub is_walk : (text : List ℕ) → IsWalk text (walk_of text)
is_walk text = behind_is_walk 0 text

-- and there is no other
pub only_walk : (text : List ℕ) (walk : Walk) → IsWalk text walk → walk ≡ walk_of text
only_walk text _ (at_frame frame more _ walk valid whole rest) =
    let n = length frame in
    let found : look_of text ≡ Ok n = ap look_of whole ∙ look_of-frame frame more valid in
    let first : take n text ≡ frame = ap (take n) whole ∙ take-append_seam frame more in
    let behind_it : drop n text ≡ more = ap (drop n) whole ∙ drop-append_seam frame more in
    ap (takes frame) (only_walk more walk rest)
    ∙ sym (walk_of-frame text n found ∙ ap (λ f. takes f (walk_of (drop n text))) first ∙ ap (λ m. takes frame (walk_of m)) behind_it)
only_walk text _ (at_prefix _ prefix) = sym (walk_of-prefix text (look_of-prefix text prefix))
only_walk _ _ (at_neither byte text walk garbled rest) =
    ap (passes_by 1) (only_walk text walk rest) ∙ sym (walk_of-neither byte text (look_of-not_garbled (byte ∷ text) garbled))
