-- What reading a quantity or a price gives, from the sign and the size that the code reads.
use Rattle.std.proofs.Common.{◌≡◌, ℕ, zero, suc, ◌^◌, ◌≤◌, ℤ, pos, negsuc, unsigned_abs, Bool, true, false, List, Result, Ok, Err, Some, None, IfOk, nat_lt, refl, sym, ap, ◌∙◌, subst, arith, inl, inr, lt-ltb, le-ltb}
use Rattle.std.proofs.lemmas.Bool.{cases_Bool, cases_lt}
use Rattle.blot_decimal.specs.declared.{fault.DecimalFault.DecimalFault, fault.DecimalFault.TheVariants.TooLarge}
use Rattle.blot_decimal.specs.Text.{is_negative, unsigned_of, is_decimal, with_leading_zeros, with_trailing_zeros}
use Rattle.blot_decimal.specs.Meaning.{IsValue, size_of, with_sign, qty_units, price_units, within, qty_of, price_of, limited}
use Rattle.blot_decimal.proofs.MeaningLemmas.{ReadsKind, reads_kind}
use Rattle.blot_decimal.proofs.ZeroLemmas.{leading_zeros, trailing_zeros}

-- sizes from 10^16 on are too large for both kinds, so it is the same to refuse them first
qty-limited : (negative : Bool) (size : Result ℕ DecimalFault) → within qty_units (with_sign negative (limited size)) ≡ within qty_units (with_sign negative size)
qty-limited negative (Err fault) = refl
qty-limited negative (Ok units) = elim (cases_lt units (10 ^ 16)) [
  | inl small ↦ rw (lt-ltb units (10 ^ 16) small) refl
  | inr large ↦ rw (le-ltb units (10 ^ 16) large) (sym (too_large negative units large))
]
  where
    too_large : (negative : Bool) (units : ℕ) → 10 ^ 16 ≤ units → within qty_units (with_sign negative (Ok units)) ≡ Err TooLarge
    too_large false units large = rw (le-ltb units (10 ^ 16) large) refl
    too_large true zero large = absurd (omega arith)
    too_large true (suc units) large = refl

price-limited : (negative : Bool) (size : Result ℕ DecimalFault) → within price_units (with_sign negative (limited size)) ≡ within price_units (with_sign negative size)
price-limited negative (Err fault) = refl
price-limited negative (Ok units) = elim (cases_lt units (10 ^ 16)) [
  | inl small ↦ rw (lt-ltb units (10 ^ 16) small) refl
  | inr large ↦ rw (le-ltb units (10 ^ 16) large) (sym (too_large negative units large))
]
  where
    too_large : (negative : Bool) (units : ℕ) → 10 ^ 16 ≤ units → within price_units (with_sign negative (Ok units)) ≡ Err TooLarge
    too_large false units large = rw (le-ltb units (10 ^ 16) large) refl
    too_large true zero large = absurd (omega arith)
    too_large true (suc units) large = rw (le-ltb (suc units) (10 ^ 16) large) refl

pub qty_of-limited : (text : List ℕ) → qty_of text ≡ within qty_units (with_sign (is_negative text) (limited (size_of 6 (unsigned_of text))))
unfolding qty_of
qty_of-limited text = sym (qty-limited (is_negative text) (size_of 6 (unsigned_of text)))

pub price_of-limited : (text : List ℕ) → price_of text ≡ within price_units (with_sign (is_negative text) (limited (size_of 8 (unsigned_of text))))
unfolding price_of
price_of-limited text = sym (price-limited (is_negative text) (size_of 8 (unsigned_of text)))

-- a number of units that is a quantity is that quantity, and likewise a price
qty_units-some : (units : ℤ) (qty : ℕ) → qty_units units ≡ Some qty → units ≡ pos qty
qty_units-some (pos n) qty is = elim (cases_Bool (nat_lt n (10 ^ 16))) [
  | inl small ↦ let same : Some n ≡ Some qty = rw small at is in cc
  | inr large ↦ let none : None ≡ Some qty = rw large at is in cc
]
qty_units-some (negsuc n) qty is = cc

price_units-some : (units price : ℤ) → price_units units ≡ Some price → units ≡ price
price_units-some units price is = elim (cases_Bool (nat_lt (unsigned_abs units) (10 ^ 16))) [
  | inl small ↦ let same : Some units ≡ Some price = rw small at is in cc
  | inr large ↦ let none : None ≡ Some price = rw large at is in cc
]

-- all that a read quantity promises
pub record ReadsQty (text : List ℕ) (result : Result ℕ DecimalFault) : Type 0 where
  pub value : IfOk result (λ qty. IsValue 6 text (pos qty))
  pub kind : ReadsKind qty_units 6 text result
  pub leading_zeros : is_decimal text ≡ true → (count : ℕ) → qty_of (with_leading_zeros count text) ≡ result
  pub trailing_zeros : is_decimal text ≡ true → (count : ℕ) → qty_of (with_trailing_zeros count text) ≡ result

pub reads_qty : (text : List ℕ) (result : Result ℕ DecimalFault) → result ≡ qty_of text → ReadsQty text result
unfolding qty_of
reads_qty text result is =
    let kind : ReadsKind qty_units 6 text result = reads_kind qty_units 6 text result is in
    record {
      value = qty_value text result kind.value;
      kind = kind;
      leading_zeros = λ form count. ap (within qty_units) (leading_zeros count 6 text form) ∙ sym is;
      trailing_zeros = λ form count. ap (within qty_units) (trailing_zeros count 6 text form) ∙ sym is;
    }
  where
    qty_value : (text : List ℕ) (result : Result ℕ DecimalFault) → IfOk result (λ qty. (units : ℤ) × (qty_units units ≡ Some qty) × IsValue 6 text units) → IfOk result (λ qty. IsValue 6 text (pos qty))
    qty_value text (Ok qty) found = subst (IsValue 6 text) (qty_units-some found.0 qty found.1) found.2
    qty_value text (Err fault) found = tt

-- all that a read price promises
pub record ReadsPrice (text : List ℕ) (result : Result ℤ DecimalFault) : Type 0 where
  pub value : IfOk result (λ price. IsValue 8 text price)
  pub kind : ReadsKind price_units 8 text result
  pub leading_zeros : is_decimal text ≡ true → (count : ℕ) → price_of (with_leading_zeros count text) ≡ result
  pub trailing_zeros : is_decimal text ≡ true → (count : ℕ) → price_of (with_trailing_zeros count text) ≡ result

pub reads_price : (text : List ℕ) (result : Result ℤ DecimalFault) → result ≡ price_of text → ReadsPrice text result
unfolding price_of
reads_price text result is =
    let kind : ReadsKind price_units 8 text result = reads_kind price_units 8 text result is in
    record {
      value = price_value text result kind.value;
      kind = kind;
      leading_zeros = λ form count. ap (within price_units) (leading_zeros count 8 text form) ∙ sym is;
      trailing_zeros = λ form count. ap (within price_units) (trailing_zeros count 8 text form) ∙ sym is;
    }
  where
    price_value : (text : List ℕ) (result : Result ℤ DecimalFault) → IfOk result (λ price. (units : ℤ) × (price_units units ≡ Some price) × IsValue 8 text units) → IfOk result (λ price. IsValue 8 text price)
    price_value text (Ok price) found = subst (IsValue 8 text) (price_units-some found.0 price found.1) found.2
    price_value text (Err fault) found = tt
