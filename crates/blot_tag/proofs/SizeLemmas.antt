-- The digits of BodyLength.
use Rattle.std.proofs.Common.{◌≡◌, ℕ, ◌+◌, ◌*◌, ◌<◌, ◌≤◌, true, false, ◌&&◌, ◌||◌, nat_lt, nat_le, List, [], ◌∷◌, ◌++◌, length, drop, get_or, fold, Result, Ok, Err, refl, sym, ap, ◌∙◌, inl, inr, arith, add-one, add-zero, eq-eqb, ne_eqb, lt-ltb, le-leb, drop-cons}
use Rattle.std.specs.Char.{is_ascii_digit}
use Rattle.std.specs.List.{list_all}
use Rattle.std.proofs.lemmas.Bool.{cases_Bool, cases_eq, cases_lt, and_parts, and_from, lt-leb}
use Rattle.std.proofs.lemmas.List.{drop_all}
use Rattle.std.proofs.lemmas.Bool.Decides.{nat_tests}
use Rattle.blot_tag.specs.Bytes.{soh, with_digit}
use Rattle.blot_tag.specs.Results.{◌>>=◌}
use Rattle.blot_tag.specs.Frames.{IsBodyLength}
use Rattle.blot_tag.specs.Looking.{longer_size, whole_size, open_size, size_of}
use Rattle.blot_tag.specs.declared.look.Miss.{Miss}
use Rattle.blot_tag.specs.declared.look.Miss.TheVariants.{Partial, Neither}

-- the digits at place i end there
pub size_of_at_soh : (count value : ℕ) (rest : List ℕ) (i : ℕ) → i < length rest → get_or rest i 0 ≡ 1 → size_of count value (drop i rest) ≡ whole_size count value
unfolding size_of
size_of_at_soh count value rest i inside soh = rw (drop-cons rest i 0) (rw (eq-eqb _ 1 soh) refl)

-- the digits go on with the byte at place i
pub size_of_at_digit : (count value : ℕ) (rest : List ℕ) (i : ℕ) (longer : Result ℕ Miss) → i < length rest → (get_or rest i 0 ≡ 1 → ⊥) → longer ≡ longer_size count value (get_or rest i 0) → size_of count value (drop i rest) ≡ (longer >>= (λ more. size_of (count + 1) more (drop (i + 1) rest)))
unfolding size_of
size_of_at_digit count value rest i longer inside other is = rw (is, drop-cons rest i 0, ne_eqb _ 1 other, add-one i) refl

pub size_of_at_end : (count value : ℕ) (rest : List ℕ) (i : ℕ) → length rest ≤ i → size_of count value (drop i rest) ≡ Err (open_size count value)
unfolding size_of
size_of_at_end count value rest i over = rw (drop_all i rest over) refl

-- ---- what digits can follow

-- these digits, after `count` others of that value, write this size
pub record Writes (count value : ℕ) (digits : List ℕ) (size : ℕ) : Type 0 where
  pub digit : list_all is_ascii_digit digits ≡ true
  pub short : count + length digits ≤ 6
  pub value_is : fold with_digit value digits ≡ size
  pub low : 5 ≤ size
  pub high : size ≤ 65536

fold-le : (digits : List ℕ) (value : ℕ) → value ≤ fold with_digit value digits
fold-le [] value = omega arith
fold-le (digit ∷ digits) value = omega (arith, fold-le digits (with_digit value digit))

longer_size-digit : (count value byte : ℕ) → is_ascii_digit byte ≡ true → count < 6 → with_digit value byte ≤ 65536 → longer_size count value byte ≡ Ok (with_digit value byte)
unfolding longer_size
longer_size-digit count value byte digit few fits = rw (digit, lt-ltb count 6 few, le-leb (with_digit value byte) 65536 fits) refl

size_of-soh : (count value : ℕ) (more : List ℕ) → size_of count value (soh ∷ more) ≡ whole_size count value
unfolding size_of
size_of-soh count value more = refl

size_of-byte : (count value byte : ℕ) (rest : List ℕ) → (byte ≡ soh → ⊥) → size_of count value (byte ∷ rest) ≡ (longer_size count value byte >>= (λ longer. size_of (count + 1) longer rest))
unfolding size_of
size_of-byte count value byte rest other = rw (ne_eqb byte soh other) refl

whole_size-low : (count value : ℕ) → 5 ≤ value → whole_size count value ≡ Ok (value, count)
unfolding whole_size
whole_size-low count value low = rw (le-leb 5 value low) refl

whole_size-small : (count value : ℕ) → value < 5 → whole_size count value ≡ Err Neither
unfolding whole_size
whole_size-small count value small = rw (lt-leb 5 value small) refl

-- digits that write a size are read as that size
pub size_of-append : (digits : List ℕ) (count value size : ℕ) (more : List ℕ) → Writes count value digits size → size_of count value (digits ++ soh ∷ more) ≡ Ok (size, count + length digits)
size_of-append [] count value size more w =
    let same : value ≡ size = w.value_is in
    size_of-soh count value more ∙ whole_size-low count value (omega (arith, w.low)) ∙ rw (same, add-zero count) refl
size_of-append (digit ∷ digits) count value size more w =
    let digits_are = and_parts (is_ascii_digit digit) (list_all is_ascii_digit digits) w.digit in
    let here : is_ascii_digit digit ≡ true = digits_are.0 in
    let other : digit ≡ soh → ⊥ = λ is. cc (ap is_ascii_digit (sym is) ∙ here) in
    let fits : with_digit value digit ≤ 65536 = omega (arith, fold-le digits (with_digit value digit), w.value_is, w.high) in
    let later : Writes (count + 1) (with_digit value digit) digits size = record { digit = digits_are.1; short = omega (arith, w.short); value_is = w.value_is; low = w.low; high = w.high } in
    size_of-byte count value digit (digits ++ soh ∷ more) other
    ∙ ap (λ r. r >>= (λ longer. size_of (count + 1) longer (digits ++ soh ∷ more))) (longer_size-digit count value digit here (omega (arith, w.short)) fits)
    ∙ size_of-append digits (count + 1) (with_digit value digit) size more later
    ∙ ap (λ n. Ok (size, n)) (omega arith)

-- a text holds all digits of a size, could go on to hold them, or can't
pub data SizeView (count value : ℕ) (rest : List ℕ) : Type 0 where
  size_known : (digits more : List ℕ) (size : ℕ) → Writes count value digits size → rest ≡ digits ++ soh ∷ more → SizeView count value rest
  size_open : (more : List ℕ) (size : ℕ) → Writes count value (rest ++ more) size → size_of count value rest ≡ Err Partial → SizeView count value rest
  size_wrong : ((more : List ℕ) → size_of count value (rest ++ more) ≡ Err Neither) → SizeView count value rest

longer_size-other : (count value byte : ℕ) → (is_ascii_digit byte && nat_lt count 6 && nat_le (with_digit value byte) 65536) ≡ false → longer_size count value byte ≡ Err Neither
unfolding longer_size
longer_size-other count value byte fails = rw fails refl

longer_size-good : (count value byte : ℕ) → (is_ascii_digit byte && nat_lt count 6 && nat_le (with_digit value byte) 65536) ≡ true → longer_size count value byte ≡ Ok (with_digit value byte)
unfolding longer_size
longer_size-good count value byte holds = rw holds refl

size_of-nil : (count value : ℕ) → size_of count value [] ≡ Err (open_size count value)
unfolding size_of
size_of-nil count value = refl

open_size-partial : (count value : ℕ) → (nat_lt count 6 || nat_le 5 value) ≡ true → open_size count value ≡ Partial
unfolding open_size
open_size-partial count value holds = rw holds refl

open_size-neither : (count value : ℕ) → (nat_lt count 6 || nat_le 5 value) ≡ false → open_size count value ≡ Neither
unfolding open_size
open_size-neither count value fails = rw fails refl

-- where six digits write less than five, nothing helps
full_and_small : (count value : ℕ) → 6 ≤ count → value < 5 → (more : List ℕ) → size_of count value more ≡ Err Neither
full_and_small count value full small [] =
    size_of-nil count value ∙ ap Err (open_size-neither count value (grind (arith, nat_tests)))
full_and_small count value full small (byte ∷ more) =
    elim (cases_eq byte soh) [
      | inl same ↦ ap (λ b. size_of count value (b ∷ more)) same ∙ size_of-soh count value more ∙ whole_size-small count value small
      | inr other ↦
          size_of-byte count value byte more other
          ∙ ap (λ r. r >>= (λ longer. size_of (count + 1) longer more)) (longer_size-other count value byte (grind (arith, nat_tests)))
    ]

ended : (count value : ℕ) → count ≤ 6 → value ≤ 65536 → SizeView count value []
ended count value few fits =
    elim (cases_lt value 5) [
      | inl small ↦ elim (cases_lt count 6) [
        | inl room ↦ size_open (53 ∷ []) (value * 10 + 5) (record { digit = refl; short = omega arith; value_is = refl; low = omega arith; high = omega arith })
            (size_of-nil count value ∙ ap Err (open_size-partial count value (grind (arith, nat_tests))))
        | inr full ↦ size_wrong (λ more. full_and_small count value full small more)
      ]
      | inr low ↦ size_open [] value (record { digit = refl; short = omega arith; value_is = refl; low = low; high = fits })
          (size_of-nil count value ∙ ap Err (open_size-partial count value (grind (arith, nat_tests))))
    ]

writes_more : (count value byte size : ℕ) (digits : List ℕ) → is_ascii_digit byte ≡ true → Writes (count + 1) (with_digit value byte) digits size → Writes count value (byte ∷ digits) size
writes_more count value byte size digits here w = record {
  digit = and_from _ _ here w.digit;
  short = omega (arith, w.short);
  value_is = w.value_is;
  low = w.low;
  high = w.high;
}

is_digit : (count value byte : ℕ) → (is_ascii_digit byte && nat_lt count 6 && nat_le (with_digit value byte) 65536) ≡ true → is_ascii_digit byte ≡ true
is_digit count value byte good =
    (and_parts (is_ascii_digit byte) (nat_lt count 6) (and_parts (is_ascii_digit byte && nat_lt count 6) (nat_le (with_digit value byte) 65536) good).0).0

digit_first : (count value byte : ℕ) (rest : List ℕ) → (byte ≡ soh → ⊥) → (is_ascii_digit byte && nat_lt count 6 && nat_le (with_digit value byte) 65536) ≡ true → SizeView (count + 1) (with_digit value byte) rest → SizeView count value (byte ∷ rest)
digit_first count value byte rest other good (size_known digits more size w is) =
    size_known (byte ∷ digits) more size (writes_more count value byte size digits (is_digit count value byte good) w) (ap (λ x. byte ∷ x) is)
digit_first count value byte rest other good (size_open more size w found) =
    size_open more size (writes_more count value byte size (rest ++ more) (is_digit count value byte good) w)
    (size_of-byte count value byte rest other ∙ ap (λ r. r >>= (λ longer. size_of (count + 1) longer rest)) (longer_size-good count value byte good) ∙ found)
digit_first count value byte rest other good (size_wrong fails) =
    size_wrong (λ more. size_of-byte count value byte (rest ++ more) other ∙ ap (λ r. r >>= (λ longer. size_of (count + 1) longer (rest ++ more))) (longer_size-good count value byte good) ∙ fails more)

pub size_view : (rest : List ℕ) (count value : ℕ) → count ≤ 6 → value ≤ 65536 → SizeView count value rest
size_view [] count value few fits = ended count value few fits
size_view (byte ∷ rest) count value few fits =
    elim (cases_eq byte soh) [
      | inl same ↦ elim (cases_lt value 5) [
        | inl small ↦ size_wrong (λ more. ap (λ b. size_of count value (b ∷ (rest ++ more))) same ∙ size_of-soh count value (rest ++ more) ∙ whole_size-small count value small)
        | inr low ↦ size_known [] rest value (record { digit = refl; short = omega arith; value_is = refl; low = low; high = fits }) (ap (λ b. b ∷ rest) same)
      ]
      | inr other ↦ elim (cases_Bool (is_ascii_digit byte && nat_lt count 6 && nat_le (with_digit value byte) 65536)) [
        | inl good ↦ digit_first count value byte rest other good (size_view rest (count + 1) (with_digit value byte) (grind (arith, nat_tests)) (grind (arith, nat_tests)))
        | inr bad ↦ size_wrong (λ more. size_of-byte count value byte (rest ++ more) other ∙ ap (λ r. r >>= (λ longer. size_of (count + 1) longer (rest ++ more))) (longer_size-other count value byte bad))
      ]
    ]

-- the digits of a BodyLength
pub Writes-body_length : (digits : List ℕ) (size : ℕ) → IsBodyLength digits size → Writes 0 0 digits size
Writes-body_length digits size is = record {
  digit = (and_parts (nat_le 1 (length digits)) (list_all is_ascii_digit digits) is.number).1;
  short = omega (arith, is.short);
  value_is = is.value;
  low = is.low;
  high = is.high;
}

pub IsBodyLength-writes : (digits : List ℕ) (size : ℕ) → Writes 0 0 digits size → IsBodyLength digits size
IsBodyLength-writes [] size w = let none : 0 ≡ size = w.value_is in absurd (omega (arith, w.low))
IsBodyLength-writes (digit ∷ digits) size w = record {
  number = and_from (nat_le 1 (length (digit ∷ digits))) _ (le-leb 1 (length (digit ∷ digits)) (omega arith)) w.digit;
  short = omega (arith, w.short);
  value = w.value_is;
  low = w.low;
  high = w.high;
}
