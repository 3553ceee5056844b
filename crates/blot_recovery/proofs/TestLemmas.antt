-- Tests of texts, and results.
use Rattle.std.proofs.Common.{◌≡◌, ℕ, zero, suc, ◌<◌, Bool, true, false, ◌&&◌, List, [], ◌∷◌, length, get_or, arith, Result, Ok, Err, refl, sym, ap, subst, ◌∙◌, IfErr, OnOk, IsErrAnd}
use Rattle.std.specs.List.{list_any}
use Rattle.std.proofs.lemmas.Bool.{false≢true, or_parts}
use Rattle.blot_types.specs.Keys.{same_text}
use Rattle.blot_types.proofs.KeyLemmas.{same_text-true, same_text-refl}

-- texts that aren't one aren't found to be one, and the other way round
pub not_same : (a b : List ℕ) → (a ≡ b → ⊥) → same_text a b ≡ false
not_same a b differ = by (same_text a b) refl
  where
    by : (test : Bool) → same_text a b ≡ test → same_text a b ≡ false
    by true is = absurd (differ (same_text-true a b is))
    by false is = is

pub are_other : (a b : List ℕ) → same_text a b ≡ false → a ≡ b → ⊥
are_other a b is same = false≢true (sym is ∙ ap (same_text a) (sym same) ∙ same_text-refl a)

-- where none of some passes a test, one doesn't
pub none-of : {X : Type 0} (p : X → Bool) (xs : List X) (k : ℕ) (d : X) → list_any p xs ≡ false → k < length xs → p (get_or xs k d) ≡ false
none-of p [] k d none less = absurd (omega (arith, less))
none-of p (x ∷ xs) zero d none less = (or_parts (p x) (list_any p xs) none).0
none-of p (x ∷ xs) (suc k) d none less = none-of p xs k d (or_parts (p x) (list_any p xs) none).1 (omega (arith, less))

pub middle-false : (a b c : Bool) → b ≡ false → (a && b && c) ≡ false
middle-false true true c is = absurd (false≢true (sym is))
middle-false true false c is = refl
middle-false false b c is = refl

-- ---- results

-- what holds of a fault holds of it as it is told
pub if-told : {T E : Type 0} (P : E → Type 0) (fault : E) (result : Result T E) → IsErrAnd result (λ told. told ≡ fault) → P fault → IfErr result P
if-told P fault (Ok value) told holds = tt
if-told P fault (Err is) told holds = subst P (sym told) holds

pub three-ok : {T E P Q R S : Type 0} (result : Result T E) → OnOk result P → OnOk result Q → OnOk result R → (P → Q → R → S) → OnOk result S
three-ok (Ok value) first second third so = so first second third
three-ok (Err fault) first second third so = tt

pub four-ok : {T E P Q R S U : Type 0} (result : Result T E) → OnOk result P → OnOk result Q → OnOk result R → OnOk result S → (P → Q → R → S → U) → OnOk result U
four-ok (Ok value) first second third fourth so = so first second third fourth
four-ok (Err fault) first second third fourth so = tt

pub five-ok : {T E P Q R S U V : Type 0} (result : Result T E) → OnOk result P → OnOk result Q → OnOk result R → OnOk result S → OnOk result U → (P → Q → R → S → U → V) → OnOk result V
five-ok (Ok value) first second third fourth fifth so = so first second third fourth fifth
five-ok (Err fault) first second third fourth fifth so = tt
