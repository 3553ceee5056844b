-- What an open journal keeps.
use Rattle.std.proofs.Common.{◌≡◌, ℕ, zero, suc, ◌+◌, ◌-◌, ◌<◌, ◌≤◌, Bool, List, length, take, drop, refl, sym, ◌∙◌, ap, subst, arith, length-drop, drop-drop, length-take-le, take-take}
use Rattle.std.proofs.lemmas.List.{drop-take}
use Rattle.blot_journal.specs.File.{HasHead, Stands, text_of}
use Rattle.blot_journal.specs.Journal.{IsOpen}
use Rattle.blot_journal.proofs.HeadLemmas.{head_whole, text_is}

pub positive : (n : ℕ) → (n ≡ 0 → ⊥) → 0 < n
positive zero not = absurd (not refl)
positive (suc n) not = omega arith

pub none : (n : ℕ) → (0 < n → ⊥) → n ≡ 0
none zero not = refl
none (suc n) not = absurd (not (omega arith))

module _ (file : List ℕ) (second : Bool) (size : ℕ) (head : HasHead second size file) where
  -- the text is as long as its length says
  pub text_long : length (text_of file) ≡ size
  text_long = ap length (text_is file second size head) ∙ length-take-le size (drop 4096 file) (omega (arith, head.room, length-drop 4096 file))

  -- a piece of it stands behind the head
  pub piece : (at count : ℕ) → at + count ≤ size → take count (drop (at + 4096) file) ≡ take count (drop at (text_of file))
  piece at count within =
      let rest = drop 4096 file in
      let more : at + (size - at) ≡ size = omega (arith, within) in
      let behind : drop at rest ≡ drop (at + 4096) file = drop-drop at 4096 file ∙ ap (λ (n : ℕ). drop n file) (omega arith) in
      let cut : drop at (text_of file) ≡ take (size - at) (drop at rest) =
      ap (λ (l : List ℕ). drop at l) (text_is file second size head ∙ ap (λ (n : ℕ). take n rest) (sym more)) ∙ drop-take at (size - at) rest in
      sym (ap (λ (l : List ℕ). take count l) cut ∙ take-take count (size - at) (drop at rest) (omega (arith, within)) ∙ ap (λ (l : List ℕ). take count l) behind)

-- a crash now leaves the text, whole
pub open_stands : {D : Type 0} (seen : D → List ℕ) (may_leave : D → List ℕ → Type 0) (device : D) (second : Bool) (size waiting : ℕ) → IsOpen seen may_leave device second size waiting
    → (file : List ℕ) → may_leave device file → Stands (text_of (seen device)) file
open_stands seen may_leave device second size waiting is file left =
    subst (Stands (text_of (seen device))) (sym (is.durable file left)) (record { says = refl; whole = head_whole second size (seen device) is.head })
