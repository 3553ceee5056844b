-- The two parts of a list at its partition point.
use Rattle.std.proofs.Common.{◌≡◌, ℕ, zero, suc, ◌-◌, ◌<◌, ◌≤◌, Bool, true, false, cond, not, List, [], ◌∷◌, length, get_or, take, drop, filter, refl, sym, ap, ◌∙◌, arith}
use Rattle.std.specs.List.Sorted.{IsPartitionPoint}
use Rattle.std.proofs.lemmas.List.{take_rest}

module _ {X : Type 0} (p : X → Bool) where
  kept : (x : X) (rest : List X) → p x ≡ true → filter p (x ∷ rest) ≡ x ∷ filter p rest
  kept x rest is = ap (λ b. cond b (x ∷ filter p rest) (filter p rest)) is

  gone : (x : X) (rest : List X) → p x ≡ false → filter p (x ∷ rest) ≡ filter p rest
  gone x rest is = ap (λ b. cond b (x ∷ filter p rest) (filter p rest)) is

  -- none is kept where all fail, and all are where all pass
  none-kept : (xs : List X) → ((k : ℕ) (d : X) → k < length xs → p (get_or xs k d) ≡ false) → filter p xs ≡ []
  none-kept [] fails = refl
  none-kept (x ∷ rest) fails = gone x rest (fails zero x (omega arith)) ∙ none-kept rest (λ k d within. fails (suc k) d (omega arith))

  pub passing :
      (xs : List X) (i : ℕ) → ((k : ℕ) (d : X) → k < i → p (get_or xs k d) ≡ true) → ((k : ℕ) (d : X) → i ≤ k → k < length xs → p (get_or xs k d) ≡ false)
      → take i xs ≡ filter p xs
  passing xs zero pass fail = sym (none-kept xs (λ k d within. fail k d (omega arith) within))
  passing [] (suc i) pass fail = refl
  passing (x ∷ rest) (suc i) pass fail =
      ap (λ front. x ∷ front) (passing rest i (λ k d less. pass (suc k) d (omega arith)) (λ k d more within. fail (suc k) d (omega arith) (omega arith)))
      ∙ sym (kept x rest (pass zero x (omega arith)))

module _ {X : Type 0} (p : X → Bool) where
  abbrev fails : X → Bool
  fails x = not (p x)

  all-kept : (xs : List X) → ((k : ℕ) (d : X) → k < length xs → p (get_or xs k d) ≡ false) → filter fails xs ≡ xs
  all-kept [] fail = refl
  all-kept (x ∷ rest) fail = kept fails x rest (ap not (fail zero x (omega arith))) ∙ ap (λ back. x ∷ back) (all-kept rest (λ k d within. fail (suc k) d (omega arith)))

  pub failing :
      (xs : List X) (i : ℕ) → ((k : ℕ) (d : X) → k < i → p (get_or xs k d) ≡ true) → ((k : ℕ) (d : X) → i ≤ k → k < length xs → p (get_or xs k d) ≡ false)
      → drop i xs ≡ filter fails xs
  failing xs zero pass fail = sym (all-kept xs (λ k d within. fail k d (omega arith) within))
  failing [] (suc i) pass fail = refl
  failing (x ∷ rest) (suc i) pass fail =
      failing rest i (λ k d less. pass (suc k) d (omega arith)) (λ k d more within. fail (suc k) d (omega arith) (omega arith))
      ∙ sym (gone fails x rest (ap not (pass zero x (omega arith))))

  abbrev IsPoint : List X → ℕ → Type 0
  IsPoint xs i = IsPartitionPoint (λ x. p x ≡ true) (λ x. p x ≡ false) xs i

  -- before the point stand those that pass, from it on those that fail
  pub front_passes : (xs : List X) (i : ℕ) → IsPoint xs i → take i xs ≡ filter p xs
  front_passes xs i point = passing p xs i (λ k d less. point.0 k d (omega arith) less) point.1

  pub back_fails : (xs : List X) (i : ℕ) → IsPoint xs i → take (length xs - i) (drop i xs) ≡ filter fails xs
  back_fails xs i point = take_rest xs i ∙ failing xs i (λ k d less. point.0 k d (omega arith) less) point.1
