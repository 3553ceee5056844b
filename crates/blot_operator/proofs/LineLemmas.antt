-- The lines of a text, as its bytes come.
use Rattle.std.proofs.Common.{◌≡◌, ◌≢◌, ℕ, ◌+◌, ◌<◌, ◌≤◌, true, false, zero, suc, List, [], ◌∷◌, ◌++◌, length, take, refl, sym, ap, ◌∙◌, inl, inr, arith, ◌==◌, nat_le, fold, codes, if◌then◌else◌, eqb-true, leb-true, leb-false, append_assoc, append-nil, take_all, length-take-le, length-append}
use Rattle.std.proofs.lemmas.Bool.{cases_Bool, lt-leb}
use Rattle.std.proofs.lemmas.List.{take-append-le, nil_from_length}
use Rattle.std.proofs.lemmas.List.Sums.{fold-append}
use Rattle.std.specs.List.{onto_first}
use Rattle.blot_console.specs.declared.parsing.TheConstants.{LINE_MAX}
use Rattle.blot_stream.specs.Texts.{lines_of}
use Rattle.blot_operator.specs.Lines.{Split, split_on, split_of, kept}

-- texts and their lines
none_of_nothing : lines_of [] ≡ []
none_of_nothing = refl

an_empty_line : lines_of (codes "\n") ≡ [] ∷ []
an_empty_line = refl

lines_with_and_without_an_end : lines_of (codes "redo\n\nfly") ≡ codes "redo" ∷ [] ∷ codes "fly" ∷ []
lines_with_and_without_an_end = refl

-- a line without a byte, and one with some
pub nothing : (line : List ℕ) → (length line == 0) ≡ true → line ≡ []
nothing line none = nil_from_length line (eqb-true (length line) 0 none)

pub something : (line : List ℕ) → (length line == 0) ≡ false → line ≢ []
something line some none = absurd (cc (ap length none))

-- a line that has begun, where the text ends there: without a byte it is none
abbrev pub last_line : List ℕ → List (List ℕ)
last_line [] = []
last_line (byte ∷ line) = (byte ∷ line) ∷ []

-- the lines of a text whose first line has begun
abbrev pub onto : List ℕ → List (List ℕ) → List (List ℕ)
onto begun [] = last_line begun
onto begun (line ∷ lines) = (begun ++ line) ∷ lines

onto-nil : (lines : List (List ℕ)) → onto [] lines ≡ lines
onto-nil [] = refl
onto-nil (line ∷ lines) = refl

last_line-append : (begun : List ℕ) (byte : ℕ) → last_line (begun ++ byte ∷ []) ≡ (begun ++ byte ∷ []) ∷ []
last_line-append [] byte = refl
last_line-append (first ∷ begun) byte = refl

onto-onto_first : (begun : List ℕ) (byte : ℕ) (lines : List (List ℕ)) → onto (begun ++ byte ∷ []) lines ≡ onto begun (onto_first byte lines)
onto-onto_first begun byte [] = last_line-append begun byte
onto-onto_first begun byte (line ∷ lines) = ap (λ first. first ∷ lines) (append_assoc begun (byte ∷ []) line)

-- the lines that have ended, and those that the rest of the text brings
abbrev lines_by : Split → List ℕ → List (List ℕ)
lines_by split more = split.ended ++ onto split.begun (lines_of more)

lines_by-byte : (split : Split) (byte : ℕ) (more : List ℕ) → lines_by (split_on split byte) more ≡ lines_by split (byte ∷ more)
lines_by-byte split byte more = elim (cases_Bool (byte == 10)) [
  | inl ends ↦ rw ends
      (append_assoc split.ended (split.begun ∷ []) (onto [] (lines_of more))
      ∙ ap (λ lines. split.ended ++ (split.begun ∷ lines)) (onto-nil (lines_of more))
      ∙ ap (λ line. split.ended ++ (line ∷ lines_of more)) (sym (append-nil split.begun)))
  | inr goes_on ↦ rw goes_on (ap (λ lines. split.ended ++ lines) (onto-onto_first split.begun byte (lines_of more)))
]

lines_by-fold : (split : Split) (text more : List ℕ) → lines_by (fold split_on split text) more ≡ lines_by split (text ++ more)
lines_by-fold split [] more = refl
lines_by-fold split (byte ∷ text) more = lines_by-fold (split_on split byte) text more ∙ lines_by-byte split byte (text ++ more)

-- the lines of a text, by those of its front
pub lines_of-append : (text more : List ℕ) → lines_of (text ++ more) ≡ (split_of text).ended ++ onto (split_of text).begun (lines_of more)
lines_of-append text more = sym (lines_by-fold (record { ended = []; begun = [] }) text more ∙ onto-nil (lines_of (text ++ more)))

-- the lines of a text that LF follows
pub lines_of-ended : (text more : List ℕ) → lines_of (text ++ 10 ∷ more) ≡ (split_of text).ended ++ ((split_of text).begun ∷ lines_of more)
lines_of-ended text more =
    lines_of-append text (10 ∷ more) ∙ ap (λ line. (split_of text).ended ++ (line ∷ lines_of more)) (append-nil (split_of text).begun)

-- the lines of a text that nothing follows
pub lines_of-last : (text : List ℕ) → lines_of text ≡ (split_of text).ended ++ last_line (split_of text).begun
lines_of-last text = ap lines_of (sym (append-nil text)) ∙ lines_of-append text []

-- one more byte
pub split_of-byte : (text : List ℕ) (byte : ℕ) → split_of (text ++ byte ∷ []) ≡ split_on (split_of text) byte
split_of-byte text byte = fold-append split_on (record { ended = []; begun = [] }) text (byte ∷ [])

pub split_of-end : (text : List ℕ) → split_of (text ++ 10 ∷ []) ≡ record { ended = (split_of text).ended ++ (split_of text).begun ∷ []; begun = [] }
split_of-end text = split_of-byte text 10

pub split_of-more : (text : List ℕ) (byte : ℕ) → byte ≢ 10
    → split_of (text ++ byte ∷ []) ≡ record { ended = (split_of text).ended; begun = (split_of text).begun ++ byte ∷ [] }
split_of-more text byte other = split_of-byte text byte ∙ elim (cases_Bool (byte == 10)) [
  | inl ends ↦ absurd (other (eqb-true byte 10 ends))
  | inr goes_on ↦ rw goes_on refl
]

pub kept-nil : kept [] ≡ []
unfolding kept
kept-nil = take_all (LINE_MAX + 1) [] (omega arith)

-- a line that isn't too long is kept whole
kept-short : (line : List ℕ) → length line ≤ LINE_MAX + 1 → kept line ≡ line
unfolding kept
kept-short line short = take_all (LINE_MAX + 1) line short

length-kept : (line : List ℕ) → LINE_MAX < length line → length (kept line) ≡ LINE_MAX + 1
unfolding kept
length-kept line long = length-take-le (LINE_MAX + 1) line (omega arith)

kept-long : (line more : List ℕ) → LINE_MAX < length line → kept (line ++ more) ≡ kept line
unfolding kept
kept-long line more long = take-append-le (LINE_MAX + 1) line more (omega arith)

-- one more byte of what is kept
pub kept-byte : (line : List ℕ) (byte : ℕ)
    → (if nat_le (length (kept line)) LINE_MAX then kept line ++ byte ∷ [] else kept line) ≡ kept (line ++ byte ∷ [])
kept-byte line byte = elim (cases_Bool (nat_le (length line) LINE_MAX)) [
  | inl short ↦
      let whole = kept-short line (omega (arith, leb-true (length line) LINE_MAX short)) in
      rw (whole, short) (sym (kept-short (line ++ byte ∷ []) (omega (arith, leb-true (length line) LINE_MAX short, length-append line (byte ∷ [])))))
  | inr long ↦
      let over = leb-false (length line) LINE_MAX long in
      rw (lt-leb (length (kept line)) LINE_MAX (omega (arith, length-kept line over))) (sym (kept-long line (byte ∷ []) over))
]

-- something is kept of a line with a byte
taken_none : (count : ℕ) (line : List ℕ) → 0 < count → take count line ≡ [] → line ≡ []
taken_none count [] some none = refl
taken_none zero (byte ∷ line) some none = absurd (omega arith)
taken_none (suc count) (byte ∷ line) some none = cc

pub kept-none : (line : List ℕ) → kept line ≡ [] → line ≡ []
unfolding kept
kept-none line none = taken_none (LINE_MAX + 1) line (omega arith) none

-- the lines of a text whose last line has no LF
pub lines_of-begun : (text line : List ℕ) → line ≢ [] → line ≡ kept (split_of text).begun → lines_of text ≡ (split_of text).ended ++ (split_of text).begun ∷ []
lines_of-begun text line some is = lines_of-last text ∙ ap (λ lines. (split_of text).ended ++ lines) (one (split_of text).begun (λ none. some (is ∙ ap kept none ∙ kept-nil)))
  where
    one : (begun : List ℕ) → begun ≢ [] → last_line begun ≡ begun ∷ []
    one [] some = absurd (some refl)
    one (byte ∷ begun) some = refl
