-- The search for the first place where a frame could begin.
use Rattle.std.proofs.Common.{◌≡◌, ℕ, ◌+◌, ◌-◌, ◌<◌, ◌≤◌, ◌==◌, List, [], ◌∷◌, length, drop, get_or, Err, sym, ap, subst, ◌∙◌, inl, inr, arith, eq-eqb, get_or-drop, length-drop, drop-cons}
use Rattle.std.specs.List.{position_or_len}
use Rattle.std.proofs.lemmas.Bool.{false≢true, cases_lt, cases_eq}
use Rattle.std.proofs.lemmas.List.{drop_all}
use Rattle.std.proofs.lemmas.List.Sums.{fails_before_first}
use Rattle.blot_tag.specs.Results.{◌>>=◌}
use Rattle.blot_tag.specs.Looking.{length_look, look_of}
use Rattle.blot_tag.specs.Finding.{NeitherBefore, IsNextStart}
use Rattle.blot_tag.specs.declared.look.Miss.TheVariants.{Neither}
use Rattle.blot_tag.proofs.MatchLemmas.{behind-differs}
use Rattle.blot_tag.proofs.WalkLemmas.{look_of-nil}

-- no `8` stands between the start and the first one after it
pub next_start_is : (text rest : List ℕ) (start further : ℕ) → rest ≡ drop start text → start ≤ length text → position_or_len (λ x. x == 56) rest ≡ further → further ≤ length rest → IsNextStart text start (start + further)
next_start_is text rest start further rest_is inside is within = record {
  low = omega arith;
  high = omega (arith, ap length rest_is, length-drop start text);
  none = λ place low high byte.
      let before = fails_before_first (λ x. x == 56) rest (place - start) 0 (omega arith) in
      let here : get_or rest (place - start) 0 ≡ 56 =
      ap (λ xs. get_or xs (place - start) 0) rest_is ∙ get_or-drop start text (place - start) 0 ∙ ap (λ k. get_or text k 0) (omega arith) ∙ byte in
      false≢true (sym before ∙ eq-eqb _ 56 here);
}

pub next_start_none : (text rest : List ℕ) (start : ℕ) → rest ≡ drop start text → start ≤ length text → position_or_len (λ x. x == 56) rest ≡ length rest → IsNextStart text start (length text)
next_start_none text rest start rest_is inside is =
    let all : start + length rest ≡ length text = omega (arith, ap length rest_is, length-drop start text) in
    subst (IsNextStart text start) all (next_start_is text rest start (length rest) rest_is inside is (omega arith))

-- a frame begins with an `8`
look_of-other : (byte : ℕ) (text : List ℕ) → (byte ≡ 56 → ⊥) → look_of (byte ∷ text) ≡ Err Neither
unfolding look_of
look_of-other byte text other =
    ap (λ r. r >>= length_look) (behind-differs 56 byte _ text (λ same. other (sym same)))

neither_at : (text : List ℕ) (place : ℕ) → place < length text → (get_or text place 0 ≡ 56 → ⊥) → look_of (drop place text) ≡ Err Neither
neither_at text place inside other = ap look_of (drop-cons text place 0 inside) ∙ look_of-other (get_or text place 0) _ other

-- the search goes on
pub NeitherBefore-next : (text : List ℕ) (place next : ℕ) → NeitherBefore place text → look_of (drop place text) ≡ Err Neither → IsNextStart text (place + 1) next → NeitherBefore next text
NeitherBefore-next text place next before here later k below =
    elim (cases_lt k place) [
      | inl earlier ↦ before k earlier
      | inr from ↦ elim (cases_eq k place) [
        | inl same ↦ ap (λ n. look_of (drop n text)) same ∙ here
        | inr other ↦ neither_at text k (omega (arith, later.high)) (later.none k (omega arith) below)
      ]
    ]

neither_partial : ◌≡◌ {A = _} (look_of []) (Err Neither) → ⊥
neither_partial is = cc (sym look_of-nil ∙ is)

-- a place where something stands lies within the text
pub neither-inside : (text : List ℕ) (place : ℕ) → look_of (drop place text) ≡ Err Neither → place < length text
neither-inside text place is =
    elim (cases_lt place (length text)) [
      | inl inside ↦ inside
      | inr over ↦ absurd (neither_partial (ap look_of (sym (drop_all place text over)) ∙ is))
    ]
