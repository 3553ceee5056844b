-- What the first steps of a look leave to the later ones.
use Rattle.std.proofs.Common.{◌≡◌, ℕ, ◌+◌, ◌-◌, ◌<◌, ◌≤◌, true, codes, List, ◌++◌, length, take, drop, get_or, Ok, refl, sym, ap, ◌∙◌, arith, length-append, le-ltb, length-drop, drop-drop}
use Rattle.std.proofs.Math.Seq.{take-append-add, drop-append-add}
use Rattle.blot_tag.specs.Bytes.{is_soh}
use Rattle.blot_tag.specs.Frames.{head}
use Rattle.blot_tag.specs.Looking.{behind, size_of, trailer_look, body_look, length_look, look_of}
use Rattle.blot_tag.proofs.MatchLemmas.{behind-ok}
use Rattle.blot_tag.proofs.SumLemmas.{take_joined}

-- the first two fields lie within the text
pub length-first_fields : (text rest : List ℕ) (digits : ℕ) → Ok rest ≡ behind head text → digits < length rest → 12 + digits + 1 ≤ length text
length-first_fields text rest digits is within =
    let whole = behind-ok head text rest is in
    omega (arith, ap length whole, length-append head rest)

-- the look at a text is the look at its body, once the first two fields are read
pub look_of-body : (text rest : List ℕ) (size digits : ℕ) → Ok rest ≡ behind head text → Ok (size, digits) ≡ size_of 0 0 rest → body_look (take (12 + digits + 1) text) size (drop (12 + digits + 1) text) ≡ look_of text
unfolding look_of length_look
look_of-body text rest size digits is known =
    let whole = behind-ok head text rest is in
    let place : 12 + digits + 1 ≡ 12 + (digits + 1) = omega arith in
    rw (← is, ← known, place, whole, take-append-add head rest (digits + 1), drop-append-add head rest (digits + 1)) refl

-- so too at a place of a text
pub start-inside : (text rest : List ℕ) (place digits : ℕ) → place ≤ length text → Ok rest ≡ behind head (drop place text) → digits < length rest → place + 12 + digits + 1 ≤ length text
start-inside text rest place digits inside is within =
    omega (arith, length-first_fields (drop place text) rest digits is within, length-drop place text)

pub look_of-at : (text rest : List ℕ) (place size digits : ℕ) → Ok rest ≡ behind head (drop place text) → Ok (size, digits) ≡ size_of 0 0 rest
    → body_look (take (place + 12 + digits + 1 - place) (drop place text)) size (drop (place + 12 + digits + 1) text) ≡ look_of (drop place text)
look_of-at text rest place size digits is known =
    let width : place + 12 + digits + 1 - place ≡ 12 + digits + 1 = omega arith in
    let start : place + 12 + digits + 1 ≡ place + (12 + digits + 1) = omega arith in
    ap (λ n. body_look (take n (drop place text)) size (drop (place + 12 + digits + 1) text)) width
    ∙ ap (λ n. body_look (take (12 + digits + 1) (drop place text)) size (drop n text)) start
    ∙ ap (body_look (take (12 + digits + 1) (drop place text)) size) (sym (drop-drop (12 + digits + 1) place text))
    ∙ look_of-body (drop place text) rest size digits is known

-- the look at a body that is all there is the look at what stands behind it
pub body_look-trailer : (text kind : List ℕ) (place start size : ℕ) → place ≤ start → Ok kind ≡ behind (codes "35=") (drop start text) → size ≤ length (drop start text)
    → is_soh (get_or (drop start text) (size - 1) 0) ≡ true
    → trailer_look (take (start + size - place) (drop place text)) (drop (start + size) text) ≡ body_look (take (start - place) (drop place text)) size (drop start text)
unfolding body_look
body_look-trailer text kind place start size order is long ends =
    let short = le-ltb (length (drop start text)) size long in
    let width : start + size - start ≡ size = omega arith in
    let front : take (start - place) (drop place text) ++ take size (drop start text) ≡ take (start + size - place) (drop place text) =
    ap (λ n. take (start - place) (drop place text) ++ take n (drop start text)) (sym width) ∙ take_joined text place start (start + size) order (omega arith) in
    rw (← is, short, ends, front, drop-drop size start text) refl
