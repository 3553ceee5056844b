-- What a write at a place leaves.
use Rattle.std.proofs.Common.{◌≡◌, ℕ, ◌+◌, ◌-◌, ◌≤◌, List, ◌++◌, length, take, drop, sym, ◌∙◌, ap, arith, append_assoc, length-append, length-drop, take_at, drop_at, take-take, drop-drop, length-take-le}
use Rattle.std.proofs.lemmas.List.{drop-take}
use Rattle.blot_journal.specs.Device.{HasWritten, Torn}

module _ (old : List ℕ) (at : ℕ) (bytes new : List ℕ) (within : at ≤ length old) (holds : HasWritten old at bytes new) where
  size : length (take at old) ≡ at
  size = length-take-le at old within

  whole : new ≡ take at old ++ (bytes ++ drop (at + length bytes) old)
  whole = holds ∙ append_assoc (take at old) bytes (drop (at + length bytes) old)

  back : drop at new ≡ bytes ++ drop (at + length bytes) old
  back = ap (λ (l : List ℕ). drop at l) whole ∙ drop_at (take at old) (bytes ++ drop (at + length bytes) old) at size

  front : take at new ≡ take at old
  front = ap (λ (l : List ℕ). take at l) whole ∙ take_at (take at old) (bytes ++ drop (at + length bytes) old) at size

  -- the bytes stand at the place
  pub written : take (length bytes) (drop at new) ≡ bytes
  written = ap (λ (l : List ℕ). take (length bytes) l) back ∙ take_at bytes (drop (at + length bytes) old) (length bytes) (omega arith)

  long : length new ≡ at + length bytes + (length old - (at + length bytes))
  long = omega (arith, ap length whole, length-append (take at old) (bytes ++ drop (at + length bytes) old), size, length-append bytes (drop (at + length bytes) old), length-drop (at + length bytes) old)

  -- all else is as it was: a write that is done is one of those that may be cut short
  pub torn : Torn at (length bytes) old new
  torn = record {
    before = front;
    after = sym (drop-drop (length bytes) at new) ∙ ap (λ (l : List ℕ). drop (length bytes) l) back ∙ drop_at bytes (drop (at + length bytes) old) (length bytes) (omega arith);
    no_shorter = omega (arith, long);
    no_longer = omega (arith, long);
  }

  pub no_shorter : at + length bytes ≤ length new
  no_shorter = omega (arith, long)

-- a front of a front
pub take_less : (m n : ℕ) (xs ys : List ℕ) → m ≤ n → take n xs ≡ take n ys → take m xs ≡ take m ys
take_less m n xs ys le same = sym (take-take m n xs le) ∙ ap (λ (l : List ℕ). take m l) same ∙ take-take m n ys le

-- a part within a front
pub part_less : (at m n : ℕ) (xs ys : List ℕ) → at + m ≤ n → take n xs ≡ take n ys → take m (drop at xs) ≡ take m (drop at ys)
part_less at m n xs ys le same =
    sym (drop-take at m xs) ∙ ap (λ (l : List ℕ). drop at l) (take_less (at + m) n xs ys le same) ∙ drop-take at m ys

-- what is behind what is behind
pub drop_less : (m n k : ℕ) (xs ys : List ℕ) → m + n ≡ k → drop m xs ≡ drop m ys → drop k xs ≡ drop k ys
drop_less m n k xs ys is same =
    let at : (zs : List ℕ) → drop k zs ≡ drop n (drop m zs) = λ (zs : List ℕ). ap (λ (j : ℕ). drop j zs) (sym is) ∙ sym (drop-drop n m zs) in
    at xs ∙ ap (λ (l : List ℕ). drop n l) same ∙ sym (at ys)
