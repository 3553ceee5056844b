-- The text after expected bytes.
use Rattle.std.proofs.Common.{◌≡◌, ℕ, ◌<◌, List, [], ◌∷◌, ◌++◌, length, drop, Ok, Err, refl, sym, ap, ◌∙◌, inl, inr, arith, append-nil, eq-eqb, ne_eqb}
use Rattle.std.proofs.lemmas.Bool.{cases_eq}
use Rattle.blot_tag.specs.Looking.{behind}
use Rattle.blot_tag.specs.declared.look.Miss.TheVariants.{Partial, Neither}

pub behind-same : (byte other : ℕ) (expected text : List ℕ) → byte ≡ other → behind (byte ∷ expected) (other ∷ text) ≡ behind expected text
unfolding behind
behind-same byte other expected text same = rw (eq-eqb byte other same) refl

pub behind-differs : (byte other : ℕ) (expected text : List ℕ) → (byte ≡ other → ⊥) → behind (byte ∷ expected) (other ∷ text) ≡ Err Neither
unfolding behind
behind-differs byte other expected text apart = rw (ne_eqb byte other apart) refl

pub behind-append : (expected more : List ℕ) → behind expected (expected ++ more) ≡ Ok more
unfolding behind
behind-append [] more = refl
behind-append (byte ∷ expected) more = rw (eq-eqb byte byte refl) (behind-append expected more)

pub behind-part : (text more : List ℕ) → 0 < length more → behind (text ++ more) text ≡ Err Partial
unfolding behind
behind-part [] [] some = absurd (omega arith)
behind-part [] (byte ∷ more) some = refl
behind-part (byte ∷ text) more some = rw (eq-eqb byte byte refl) (behind-part text more some)

-- a text goes on after the expected bytes, ends within them, or differs from them
pub data Begins (expected text : List ℕ) : Type 0 where
  begins_whole : (more : List ℕ) → text ≡ expected ++ more → Begins expected text
  begins_short : (more : List ℕ) → 0 < length more → expected ≡ text ++ more → Begins expected text
  begins_other : ((more : List ℕ) → behind expected (text ++ more) ≡ Err Neither) → Begins expected text

begins_more : (byte other : ℕ) (expected text : List ℕ) → byte ≡ other → Begins expected text → Begins (byte ∷ expected) (other ∷ text)
begins_more byte other expected text same (begins_whole more is) = begins_whole more cc
begins_more byte other expected text same (begins_short more some is) = begins_short more some cc
begins_more byte other expected text same (begins_other fails) =
    begins_other (λ more. behind-same byte other expected (text ++ more) same ∙ fails more)

pub begins : (expected text : List ℕ) → Begins expected text
begins [] text = begins_whole text refl
begins (byte ∷ expected) [] = begins_short (byte ∷ expected) (omega arith) refl
begins (byte ∷ expected) (first ∷ text) =
    elim (cases_eq byte first) [
      | inl same ↦ begins_more byte first expected text same (begins expected text)
      | inr apart ↦ begins_other (λ more. behind-differs byte first expected (text ++ more) apart)
    ]

pub behind_whole : (expected text rest : List ℕ) → text ≡ expected ++ rest → Ok rest ≡ behind expected text
behind_whole expected text rest is = sym (ap (behind expected) is ∙ behind-append expected rest)

pub behind_short : (expected text : List ℕ) → ((rest : List ℕ) → text ≡ expected ++ rest → ⊥) → expected ≡ text ++ drop (length text) expected → Err Partial ≡ behind expected text
behind_short expected text apart is = by_rest (drop (length text) expected) is
  where
    by_rest : (rest : List ℕ) → expected ≡ text ++ rest → Err Partial ≡ behind expected text
    by_rest [] e = absurd (apart [] (sym (append-nil text) ∙ sym e ∙ sym (append-nil expected)))
    by_rest (byte ∷ rest) e = sym (ap (λ x. behind x text) e ∙ behind-part text (byte ∷ rest) (omega arith))

pub behind_other : (expected text : List ℕ) → ((rest : List ℕ) → text ≡ expected ++ rest → ⊥) → ((rest : List ℕ) → expected ≡ text ++ rest → ⊥) → Err Neither ≡ behind expected text
behind_other expected text not_whole not_short = by_view (begins expected text)
  where
    by_view : Begins expected text → Err Neither ≡ behind expected text
    by_view (begins_whole more is) = absurd (not_whole more is)
    by_view (begins_short more some is) = absurd (not_short more is)
    by_view (begins_other fails) = sym (ap (behind expected) (sym (append-nil text)) ∙ fails [])

-- the text that is found after the expected bytes
pub behind-ok : (expected text rest : List ℕ) → Ok rest ≡ behind expected text → text ≡ expected ++ rest
behind-ok expected text rest is = by_view (begins expected text)
  where
    by_view : Begins expected text → text ≡ expected ++ rest
    by_view (begins_whole more e) = let found = behind_whole expected text more e in cc
    by_view (begins_short more some e) = cc (is ∙ ap (λ x. behind x text) e ∙ behind-part text more some)
    by_view (begins_other fails) = cc (is ∙ ap (behind expected) (sym (append-nil text)) ∙ fails [])
