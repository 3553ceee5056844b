-- How a line is taken apart into its words.
use Rattle.std.proofs.Common.{◌≡◌, ℕ, suc, ◌+◌, ◌-◌, ◌<◌, ◌≤◌, Bool, true, false, cond, List, [], ◌∷◌, length, take, drop, Option, Some, None, refl, sym, ap, ◌∙◌, arith, not, MatchOption, Bor, drop-drop}
use Rattle.std.specs.List.{onto_first, position_or_len}
use Rattle.std.proofs.lemmas.List.{take_rest}
use Rattle.std.proofs.lemmas.List.Sums.{count_by-le-length}
use Rattle.std.proofs.lemmas.List.Splits.{length-slice_split}
use Rattle.blot_console.specs.Words.{is_tab, words_of, words_behind}

-- what stands after the tab at the head of a text, if there is one
abbrev pub behind_tab : List ℕ → Option (List ℕ)
behind_tab [] = None
behind_tab (tab ∷ rest) = Some rest

one_more : (k : ℕ) → 1 + k ≡ suc k
one_more k = omega arith

-- the first word reaches to the first tab, and the others stand after it
pub words_of-first : (text : List ℕ) → words_of text ≡ take (position_or_len is_tab text) text ∷ words_behind (behind_tab (drop (position_or_len is_tab text) text))
words_of-first [] = refl
words_of-first (byte ∷ rest) = by_tab (is_tab byte) (words_of-first rest)
  where
    by_tab : (tab : Bool)
        → words_of rest ≡ take (position_or_len is_tab rest) rest ∷ words_behind (behind_tab (drop (position_or_len is_tab rest) rest))
        → cond tab ([] ∷ words_of rest) (onto_first byte (words_of rest))
        ≡ take (cond (not tab) (1 + position_or_len is_tab rest) 0) (byte ∷ rest) ∷ words_behind (behind_tab (drop (cond (not tab) (1 + position_or_len is_tab rest) 0) (byte ∷ rest)))
    by_tab true others = refl
    by_tab false others = rw (one_more (position_or_len is_tab rest)) (ap (onto_first byte) others)

-- the last word of a text, and one before others
pub first-last : (text front back : List ℕ) (place : ℕ) → place ≡ position_or_len is_tab text → front ≡ take place text → back ≡ drop place text
    → length back < 1 → words_of text ≡ front ∷ []
first-last text front back place is is_front is_back none =
    by_back back none (rw (is_front, is_back, is) (words_of-first text))
  where
    by_back : (rest : List ℕ) → length rest < 1 → words_of text ≡ front ∷ words_behind (behind_tab rest) → words_of text ≡ front ∷ []
    by_back [] none first = first
    by_back (tab ∷ rest) none first = absurd (omega (arith, none))

pub first-more : (text front back : List ℕ) (place : ℕ) → place ≡ position_or_len is_tab text → front ≡ take place text → back ≡ drop place text
    → 1 ≤ length back → words_of text ≡ front ∷ words_of (take (length back - 1) (drop 1 back))
first-more text front back place is is_front is_back some =
    by_back back some (rw (is_front, is_back, is) (words_of-first text))
  where
    by_back : (rest : List ℕ) → 1 ≤ length rest → words_of text ≡ front ∷ words_behind (behind_tab rest)
        → words_of text ≡ front ∷ words_of (take (length rest - 1) (drop 1 rest))
    by_back [] some first = absurd (omega (arith, some))
    by_back (tab ∷ rest) some first = first ∙ ap (λ others. front ∷ words_of others) (sym (take_rest (tab ∷ rest) 1))

-- a line has at most one word more than bytes
pub words_of-few : (text : List ℕ) → length (words_of text) ≤ length text + 1
words_of-few text = omega (arith, length-slice_split is_tab text, count_by-le-length is_tab text)

-- one more word is passed over
pub drop-one : (words later : List (List ℕ)) (word : List ℕ) (place : ℕ) → drop place words ≡ word ∷ later → drop (place + 1) words ≡ later
drop-one words later word place is = sym (drop-drop 1 place words) ∙ ap (drop 1) is

pub drop-none : (words : List (List ℕ)) (place : ℕ) → drop place words ≡ [] → drop (place + 1) words ≡ []
drop-none words place is = sym (drop-drop 1 place words) ∙ ap (drop 1) is

-- one call passes one word over, if there is one
pub passed : (words old new : List (List ℕ)) (found : Option (Bor (List ℕ))) (place : ℕ) → MatchOption found ((old ≡ []) × (new ≡ [])) (λ word. old ≡ word.now ∷ new)
    → old ≡ drop place words → new ≡ drop (place + 1) words
passed words old new None place step is = step.1 ∙ sym (drop-none words place (sym is ∙ step.0))
passed words old new (Some word) place step is = sym (drop-one words new word.now place (sym is ∙ step))
