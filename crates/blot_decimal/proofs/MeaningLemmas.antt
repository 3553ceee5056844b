-- What `exact_of` computes is the one number of units that a text writes, and its faults come exactly
-- where there is no decimal and no such number.
use Rattle.std.proofs.Common.{◌≡◌, ℕ, zero, suc, ◌*◌, ◌/◌, ◌^◌, ◌<◌, ℤ, pos, negsuc, ◌*ℤ◌, neg_ℤ, unsigned_abs, Bool, true, false, List, ◌++◌, length, drop, Result, Ok, Err, Option, Some, None, ◌↔◌, IfOk, refl, sym, ap, ◌∙◌, subst, arith, inl, inr, ok_or, mul-div_cancel}
use Rattle.std.proofs.lemmas.Bool.{cases_Bool}
use Rattle.std.proofs.lemmas.Int.{unsigned_abs-mul}
use Rattle.std.proofs.lemmas.Grind.{fold-append}
use Rattle.blot_decimal.specs.declared.fault.DecimalFault.{DecimalFault}
use Rattle.blot_decimal.specs.declared.fault.DecimalFault.TheVariants.{Format, TooFine, TooLarge}
use Rattle.blot_decimal.specs.Text.{is_negative, unsigned_of, with_digit, number_of, are_zeros, whole_of, fraction_of, is_decimal}
use Rattle.blot_decimal.specs.Meaning.{signed, IsValue, kept_of, with_sign, exact_of, within}
use Rattle.blot_decimal.proofs.SizeLemmas.{size_of-format, size_of-too_fine, size_of-units, are_digits-from_parts}
use Rattle.blot_decimal.proofs.ValueLemmas.{ten_pos, kept_is_exact, exact_is_kept}

-- a factor above 0 cancels
pub mul_cancel : (a b k : ℕ) → 0 < k → a * k ≡ b * k → a ≡ b
mul_cancel a b k above same = sym (mul-div_cancel a above) ∙ ap (λ n. n / k) same ∙ mul-div_cancel b above

-- the sign of a product with a natural number
signed-mul : (negative : Bool) (size k : ℕ) → signed negative size *ℤ pos k ≡ signed negative (size * k)
signed-mul false size k = refl
signed-mul true zero k = let none : 0 * k ≡ 0 = omega arith in rw none refl
signed-mul true (suc size) k = refl

pub unsigned_abs-signed : (negative : Bool) (size : ℕ) → unsigned_abs (signed negative size) ≡ size
unsigned_abs-signed false size = refl
unsigned_abs-signed true zero = refl
unsigned_abs-signed true (suc size) = refl

-- a negated number above 0 is no natural number
neg_is_no_pos : (a b : ℕ) → 0 < b → pos a ≡ neg_ℤ (pos b) → ⊥
neg_is_no_pos a zero above same = omega arith
neg_is_no_pos a (suc b) above same = cc

pos_is_no_neg : (a b : ℕ) → 0 < a → neg_ℤ (pos a) ≡ pos b → ⊥
pos_is_no_neg zero b above same = omega arith
pos_is_no_neg (suc a) b above same = cc

-- a factor above 0 cancels, with signs
mulℤ_cancel : (x y : ℤ) (k : ℕ) → 0 < k → x *ℤ pos k ≡ y *ℤ pos k → x ≡ y
mulℤ_cancel (pos a) (pos b) k above same = ap pos (mul_cancel a b k above (ap unsigned_abs same))
mulℤ_cancel (pos a) (negsuc b) k above same = absurd (neg_is_no_pos (a * k) (suc b * k) (omega (arith, above)) same)
mulℤ_cancel (negsuc a) (pos b) k above same = absurd (pos_is_no_neg (suc a * k) (b * k) (omega (arith, above)) same)
mulℤ_cancel (negsuc a) (negsuc b) k above same =
    let sizes : suc a ≡ suc b = mul_cancel (suc a) (suc b) k above (sym (unsigned_abs-mul (negsuc a) (pos k)) ∙ ap unsigned_abs same ∙ unsigned_abs-mul (negsuc b) (pos k)) in
    ap negsuc (omega (arith, sizes))

-- the number of units that the kept digits write, with its sign, is exactly what the text writes
pub IsValue-kept : (places : ℕ) (text : List ℕ) → is_decimal text ≡ true → are_zeros (drop places (fraction_of (unsigned_of text))) ≡ true →
    IsValue places text (signed (is_negative text) (number_of (whole_of (unsigned_of text) ++ kept_of places (fraction_of (unsigned_of text)))))
IsValue-kept places text form past =
    let whole : List ℕ = whole_of (unsigned_of text) in
    let fraction : List ℕ = fraction_of (unsigned_of text) in
    let sizes : number_of (whole ++ kept_of places fraction) * 10 ^ length fraction ≡ number_of (whole ++ fraction) * 10 ^ places =
    ap (λ n. n * 10 ^ length fraction) (fold-append with_digit 0 whole (kept_of places fraction))
    ∙ kept_is_exact places (number_of whole) fraction past
    ∙ ap (λ n. n * 10 ^ places) (sym (fold-append with_digit 0 whole fraction)) in
    record {
      decimal = form;
      value = signed-mul (is_negative text) (number_of (whole ++ kept_of places fraction)) (10 ^ length fraction)
          ∙ ap (signed (is_negative text)) sizes ∙ sym (signed-mul (is_negative text) (number_of (whole ++ fraction)) (10 ^ places));
    }

-- a text that writes a whole number of units has nothing but zeros past its places
pub past-from_value : (places : ℕ) (text : List ℕ) (units : ℤ) → IsValue places text units → are_zeros (drop places (fraction_of (unsigned_of text))) ≡ true
past-from_value places text units exact =
    let whole : List ℕ = whole_of (unsigned_of text) in
    let fraction : List ℕ = fraction_of (unsigned_of text) in
    let digits = (are_digits-from_parts whole fraction exact.decimal).1 in
    let sizes : unsigned_abs units * 10 ^ length fraction ≡ number_of (whole ++ fraction) * 10 ^ places =
    sym (unsigned_abs-mul units (pos (10 ^ length fraction))) ∙ ap unsigned_abs (exact.value ∙ signed-mul (is_negative text) (number_of (whole ++ fraction)) (10 ^ places))
    ∙ unsigned_abs-signed (is_negative text) (number_of (whole ++ fraction) * 10 ^ places) in
    exact_is_kept places (number_of whole) (unsigned_abs units) fraction digits
    (sizes ∙ ap (λ n. n * 10 ^ places) (fold-append with_digit 0 whole fraction))

-- a text writes one number of units at most
pub IsValue-unique : (places : ℕ) (text : List ℕ) (units other : ℤ) → IsValue places text units → IsValue places text other → units ≡ other
IsValue-unique places text units other exact same =
    mulℤ_cancel units other (10 ^ length (fraction_of (unsigned_of text))) (ten_pos (length (fraction_of (unsigned_of text)))) (exact.value ∙ sym same.value)

-- the three ways in which a text is read as units of 10^-places
pub data ReadsAs (places : ℕ) (text : List ℕ) : Type 0 where
  no_decimal : is_decimal text ≡ false → exact_of places text ≡ Err Format → ReadsAs places text
  no_units : is_decimal text ≡ true → ((units : ℤ) → IsValue places text units → ⊥) → exact_of places text ≡ Err TooFine → ReadsAs places text
  some_units : (units : ℤ) → IsValue places text units → exact_of places text ≡ Ok units → ReadsAs places text

pub reads_as : (places : ℕ) (text : List ℕ) → ReadsAs places text
reads_as places text =
    elim (cases_Bool (is_decimal text)) [
      | inr form ↦ no_decimal form (ap (with_sign (is_negative text)) (size_of-format places (unsigned_of text) form))
      | inl form ↦ elim (cases_Bool (are_zeros (drop places (fraction_of (unsigned_of text))))) [
        | inl past ↦ some_units _ (IsValue-kept places text form past) (ap (with_sign (is_negative text)) (size_of-units places (unsigned_of text) form past))
        | inr past ↦ no_units form (λ units exact. let none = past-from_value places text units exact in cc)
            (ap (with_sign (is_negative text)) (size_of-too_fine places (unsigned_of text) form past))
      ]
    ]

-- what reading a number of some kind gives, and when each fault comes
pub record ReadsKind {A : Type 0} (kind : ℤ → Option A) (places : ℕ) (text : List ℕ) (result : Result A DecimalFault) : Type 0 where
  pub value : IfOk result (λ number. (units : ℤ) × (kind units ≡ Some number) × IsValue places text units)
  pub format : (result ≡ Err Format) ↔ (is_decimal text ≡ true → ⊥)
  pub too_fine : (result ≡ Err TooFine) ↔ ((is_decimal text ≡ true) × ((units : ℤ) → IsValue places text units → ⊥))
  pub too_large : (result ≡ Err TooLarge) ↔ ((units : ℤ) × IsValue places text units × (kind units ≡ None))

-- a text of so many units, by whether its kind has that number
reads_units : {A : Type 0} (kind : ℤ → Option A) (places : ℕ) (text : List ℕ) (result : Result A DecimalFault) (units : ℤ) (number : Option A) →
    IsValue places text units → kind units ≡ number → result ≡ ok_or number TooLarge → ReadsKind kind places text result
reads_units {A} kind places text result units None value is_none fault = record {
  value = subst (λ (r : Result A DecimalFault). IfOk r (λ number. (units : ℤ) × (kind units ≡ Some number) × IsValue places text units)) (sym fault) tt;
  format = ((λ other. cc), (λ no. absurd (no value.decimal)));
  too_fine = ((λ other. cc), (λ no. absurd (no.1 units value)));
  too_large = ((λ _. (units, value, is_none)), (λ _. fault));
}
reads_units {A} kind places text result units (Some number) value is_some well = record {
  value = subst (λ (r : Result A DecimalFault). IfOk r (λ number. (units : ℤ) × (kind units ≡ Some number) × IsValue places text units)) (sym well) (units, is_some, value);
  format = ((λ other. cc), (λ no. absurd (no value.decimal)));
  too_fine = ((λ other. cc), (λ no. absurd (no.1 units value)));
  too_large = ((λ other. cc), (λ past. let same = IsValue-unique places text units past.0 value past.1 in let none = past.2 in cc));
}

pub reads_kind : {A : Type 0} (kind : ℤ → Option A) (places : ℕ) (text : List ℕ) (result : Result A DecimalFault) →
    result ≡ within kind (exact_of places text) → ReadsKind kind places text result
reads_kind {A} kind places text result is = elim (reads_as places text) [
  | no_decimal form exact ↦
      let fault : result ≡ Err Format = is ∙ ap (within kind) exact in
      record {
        value = subst (λ (r : Result A DecimalFault). IfOk r (λ number. (units : ℤ) × (kind units ≡ Some number) × IsValue places text units)) (sym fault) tt;
        format = ((λ _. λ yes. cc), (λ _. fault));
        too_fine = ((λ other. cc), (λ yes. let no = yes.0 in cc));
        too_large = ((λ other. cc), (λ yes. let no = yes.1.decimal in cc));
      }
  | no_units form none exact ↦
      let fault : result ≡ Err TooFine = is ∙ ap (within kind) exact in
      record {
        value = subst (λ (r : Result A DecimalFault). IfOk r (λ number. (units : ℤ) × (kind units ≡ Some number) × IsValue places text units)) (sym fault) tt;
        format = ((λ other. cc), (λ no. absurd (no form)));
        too_fine = ((λ _. (form, none)), (λ _. fault));
        too_large = ((λ other. cc), (λ yes. absurd (none yes.0 yes.1)));
      }
  | some_units units value exact ↦
      reads_units kind places text result units (kind units) value refl (is ∙ ap (within kind) exact)
]
