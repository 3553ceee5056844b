-- The cells after parts were put and taken.
use Rattle.std.proofs.Common.{◌≡◌, ℕ, ◌+◌, ◌*◌, ◌^◌, ◌<◌, ◌≤◌, pos, ◌+ℤ◌, ◌-ℤ◌, ◌≤ℤ◌, arith, Bool, true, false, List, refl, sym, ap, subst, ◌∙◌, ℤ, unsigned_abs, if◌then◌else◌}
use Rattle.std.proofs.lemmas.Int.{ints}
use Rattle.blot_decimal.specs.Sums.{FitsSum}
use Rattle.blot_types.specs.declared.part.Part.{Part}
use Rattle.blot_types.specs.Position.{is_at, IsSmall}
use Rattle.blot_position.specs.declared.sums.Sums.{Sums}
use Rattle.blot_position.specs.Positions.{Cells, sums_at, same_position, with_part, without_part}
use Rattle.blot_position.specs.Sums.{with_one, without_one, HasRoom, HasPart}
use Rattle.blot_position.proofs.PositionLemmas.{sums_at-with_part, sums_at-without_part, same_position-refl}
use Rattle.blot_position.specs.Carried.{amount_at, Carries}

-- ---- the sums of parts

abbrev pub Whole : Type 0
Whole = (Part → ℤ) → ℤ

-- one part more
abbrev pub more : Part → Whole → Whole
more part whole amount = whole amount +ℤ amount part

-- the same sums of all amounts
abbrev pub SameWhole : Whole → Whole → Type 0
SameWhole a b = (amount : Part → ℤ) → a amount ≡ b amount

-- the amounts that cells hold
abbrev pub one_at : List ℕ → List ℕ → Part → ℤ
one_at account symbol = amount_at (λ part. pos 1) account symbol

abbrev pub qty_at : List ℕ → List ℕ → Part → ℤ
qty_at account symbol = amount_at (λ part. part.qty) account symbol

abbrev pub value_at : List ℕ → List ℕ → Part → ℤ
value_at account symbol = amount_at (λ part. part.value) account symbol

pub Carries-same : (a b : Whole) (cells : Cells) → SameWhole a b → Carries a cells → Carries b cells
Carries-same a b cells same carried = record {
  parts = λ account symbol. carried.parts account symbol ∙ same (one_at account symbol);
  qty = λ account symbol. carried.qty account symbol ∙ same (qty_at account symbol);
  value = λ account symbol. carried.value account symbol ∙ same (value_at account symbol);
}

-- cells with the same sums carry the same
pub Carries-cells : (whole : Whole) (old new : Cells) → ((account symbol : List ℕ) → sums_at new account symbol ≡ sums_at old account symbol) → Carries whole old → Carries whole new
Carries-cells whole old new same carried = record {
  parts = λ account symbol. ap (λ (sums : Sums). pos sums.parts) (same account symbol) ∙ carried.parts account symbol;
  qty = λ account symbol. ap (λ (sums : Sums). sums.qty) (same account symbol) ∙ carried.qty account symbol;
  value = λ account symbol. ap (λ (sums : Sums). sums.value) (same account symbol) ∙ carried.value account symbol;
}

-- ---- one part more, one part less

with_parts : (test : Bool) (qty value : ℤ) (sums : Sums) → pos (if test then with_one qty value sums else sums).parts ≡ (pos sums.parts +ℤ (if test then pos 1 else pos 0))
with_parts true qty value sums = omega (arith, ints)
with_parts false qty value sums = omega (arith, ints)

with_qty : (test : Bool) (qty value : ℤ) (sums : Sums) → (if test then with_one qty value sums else sums).qty ≡ (sums.qty +ℤ (if test then qty else pos 0))
with_qty true qty value sums = refl
with_qty false qty value sums = omega (arith, ints)

with_value : (test : Bool) (qty value : ℤ) (sums : Sums) → (if test then with_one qty value sums else sums).value ≡ (sums.value +ℤ (if test then value else pos 0))
with_value true qty value sums = refl
with_value false qty value sums = omega (arith, ints)

pub Carries-put : (part : Part) (whole : Whole) (cells : Cells) → Carries whole cells → Carries (more part whole) (with_part part.account part.symbol part.qty part.value cells)
Carries-put part whole cells carried = record {
  parts = λ a s.
      ap (λ (sums : Sums). pos sums.parts) (sums_at-with_part part.account part.symbol a s part.qty part.value cells)
      ∙ with_parts (same_position part.account part.symbol a s) part.qty part.value (sums_at cells a s) ∙ ap (λ sum. sum +ℤ one_at a s part) (carried.parts a s);
  qty = λ a s.
      ap (λ (sums : Sums). sums.qty) (sums_at-with_part part.account part.symbol a s part.qty part.value cells)
      ∙ with_qty (same_position part.account part.symbol a s) part.qty part.value (sums_at cells a s) ∙ ap (λ sum. sum +ℤ qty_at a s part) (carried.qty a s);
  value = λ a s.
      ap (λ (sums : Sums). sums.value) (sums_at-with_part part.account part.symbol a s part.qty part.value cells)
      ∙ with_value (same_position part.account part.symbol a s) part.qty part.value (sums_at cells a s) ∙ ap (λ sum. sum +ℤ value_at a s part) (carried.value a s);
}

less_parts : (test : Bool) (qty value : ℤ) (sums : Sums) (rest : ℤ) → pos 0 ≤ℤ rest → pos sums.parts ≡ (rest +ℤ (if test then pos 1 else pos 0)) → pos (if test then without_one qty value sums else sums).parts ≡ rest
less_parts true qty value sums rest low is = omega (arith, ints, low, is)
less_parts false qty value sums rest low is = omega (arith, ints, is)

less_qty : (test : Bool) (qty value : ℤ) (sums : Sums) (rest : ℤ) → sums.qty ≡ (rest +ℤ (if test then qty else pos 0)) → (if test then without_one qty value sums else sums).qty ≡ rest
less_qty true qty value sums rest is = omega (arith, ints, is)
less_qty false qty value sums rest is = omega (arith, ints, is)

less_value : (test : Bool) (qty value : ℤ) (sums : Sums) (rest : ℤ) → sums.value ≡ (rest +ℤ (if test then value else pos 0)) → (if test then without_one qty value sums else sums).value ≡ rest
less_value true qty value sums rest is = omega (arith, ints, is)
less_value false qty value sums rest is = omega (arith, ints, is)

-- the count of parts is never below zero
abbrev pub IsCount : Whole → Type 0
IsCount whole = (account symbol : List ℕ) → pos 0 ≤ℤ whole (one_at account symbol)

pub Carries-take : (part : Part) (rest : Whole) (cells : Cells) → IsCount rest → Carries (more part rest) cells → Carries rest (without_part part.account part.symbol part.qty part.value cells)
Carries-take part rest cells count carried = record {
  parts = λ a s.
      ap (λ (sums : Sums). pos sums.parts) (sums_at-without_part part.account part.symbol a s part.qty part.value cells)
      ∙ less_parts (same_position part.account part.symbol a s) part.qty part.value (sums_at cells a s) (rest (one_at a s)) (count a s) (carried.parts a s);
  qty = λ a s.
      ap (λ (sums : Sums). sums.qty) (sums_at-without_part part.account part.symbol a s part.qty part.value cells)
      ∙ less_qty (same_position part.account part.symbol a s) part.qty part.value (sums_at cells a s) (rest (qty_at a s)) (carried.qty a s);
  value = λ a s.
      ap (λ (sums : Sums). sums.value) (sums_at-without_part part.account part.symbol a s part.qty part.value cells)
      ∙ less_value (same_position part.account part.symbol a s) part.qty part.value (sums_at cells a s) (rest (value_at a s)) (carried.value a s);
}

-- ---- how large the sums are

-- at most so many parts at each place, and so much quantity, each at a price of at most 10^16
pub record Light (count qty : ℕ) (whole : Whole) : Type 0 where
  pub some : IsCount whole
  pub few : (account symbol : List ℕ) → whole (one_at account symbol) ≤ℤ pos count
  pub qtys : (account symbol : List ℕ) → unsigned_abs (whole (qty_at account symbol)) ≤ qty
  pub values : (account symbol : List ℕ) → unsigned_abs (whole (value_at account symbol)) ≤ qty * 10 ^ 16

one_small : (test : Bool) → (pos 0 ≤ℤ (if test then pos 1 else pos 0)) × ((if test then pos 1 else pos 0) ≤ℤ pos 1)
one_small true = (omega (arith, ints), omega (arith, ints))
one_small false = (omega (arith, ints), omega (arith, ints))

at_small : (test : Bool) (amount : ℤ) (limit : ℕ) → unsigned_abs amount ≤ limit → unsigned_abs (if test then amount else pos 0) ≤ limit
at_small true amount limit small = small
at_small false amount limit small = omega (arith, ints)

abs_plus : (a b : ℤ) (m n : ℕ) → unsigned_abs a ≤ m → unsigned_abs b ≤ n → unsigned_abs (a +ℤ b) ≤ m + n
abs_plus a b m n left right = omega (arith, ints, left, right)

abs_less : (a b : ℤ) (m n : ℕ) → unsigned_abs (a +ℤ b) ≤ m → unsigned_abs b ≤ n → unsigned_abs a ≤ m + n
abs_less a b m n whole right = omega (arith, ints, whole, right)

pub Light-put : (part : Part) (whole : Whole) (count qty : ℕ) → IsSmall part → Light count qty whole → Light (count + 1) (qty + unsigned_abs part.qty) (more part whole)
Light-put part whole count qty small light = record {
  some = λ a s. let low = light.some a s in let one = one_small (is_at a s part) in omega (arith, ints, low, one.0);
  few = λ a s. let high = light.few a s in let one = one_small (is_at a s part) in omega (arith, ints, high, one.1);
  qtys = λ a s. abs_plus (whole (qty_at a s)) (qty_at a s part) qty (unsigned_abs part.qty) (light.qtys a s) (at_small (is_at a s part) part.qty (unsigned_abs part.qty) (omega arith));
  values = λ a s.
      let sum = abs_plus (whole (value_at a s)) (value_at a s part) (qty * 10 ^ 16) (unsigned_abs part.qty * 10 ^ 16) (light.values a s) (at_small (is_at a s part) part.value (unsigned_abs part.qty * 10 ^ 16) small.value) in
      omega (arith, sum);
}

pub Light-take : (part : Part) (rest : Whole) (count qty : ℕ) → IsSmall part → IsCount rest → Light count qty (more part rest) → Light (count + 1) (qty + unsigned_abs part.qty) rest
Light-take part rest count qty small some light = record {
  some = some;
  few = λ a s. let high = light.few a s in let one = one_small (is_at a s part) in omega (arith, ints, high, one.0);
  qtys = λ a s. abs_less (rest (qty_at a s)) (qty_at a s part) qty (unsigned_abs part.qty) (light.qtys a s) (at_small (is_at a s part) part.qty (unsigned_abs part.qty) (omega arith));
  values = λ a s.
      let sum = abs_less (rest (value_at a s)) (value_at a s part) (qty * 10 ^ 16) (unsigned_abs part.qty * 10 ^ 16) (light.values a s) (at_small (is_at a s part) part.value (unsigned_abs part.qty * 10 ^ 16) small.value) in
      omega (arith, sum);
}

pub Light-same : (a b : Whole) (count qty : ℕ) → SameWhole a b → Light count qty a → Light count qty b
Light-same a b count qty same light = record {
  some = λ x s. subst (λ sum. pos 0 ≤ℤ sum) (same (one_at x s)) (light.some x s);
  few = λ x s. subst (λ sum. sum ≤ℤ pos count) (same (one_at x s)) (light.few x s);
  qtys = λ x s. subst (λ sum. unsigned_abs sum ≤ qty) (same (qty_at x s)) (light.qtys x s);
  values = λ x s. subst (λ sum. unsigned_abs sum ≤ qty * 10 ^ 16) (same (value_at x s)) (light.values x s);
}

-- what is light enough leaves no 128 bits
pub record IsLightEnough (count qty : ℕ) : Type 0 where
  pub count_fits : count < 2 ^ 62
  pub qty_fits : qty ≤ 10 ^ 22

abs_fits : (a : ℤ) → unsigned_abs a ≤ 10 ^ 38 → FitsSum a
abs_fits a small = (omega (arith, ints, small), omega (arith, ints, small))

-- ---- one change

same_here : (part : Part) → is_at part.account part.symbol part ≡ true
same_here part = same_position-refl part.account part.symbol

-- there is room for one part more
pub has-room :
    (part : Part) (whole : Whole) (cells : Cells) (count qty : ℕ) → Carries whole cells → Light (count + 1) qty (more part whole) → IsLightEnough (count + 1) qty
    → HasRoom (sums_at cells part.account part.symbol) part.qty part.value
has-room part whole cells count qty carried light enough =
    let a = part.account in
    let s = part.symbol in
    let here : is_at a s part ≡ true = same_here part in
    let one : one_at a s part ≡ pos 1 = rw here refl in
    let own_qty : qty_at a s part ≡ part.qty = rw here refl in
    let own_value : value_at a s part ≡ part.value = rw here refl in
    let few = light.few a s in
    let qtys = light.qtys a s in
    let values = light.values a s in
    let limit : qty * 10 ^ 16 ≤ 10 ^ 38 = omega (arith, enough.qty_fits) in
    let parts = carried.parts a s in
    let sum_qty : ((sums_at cells a s).qty +ℤ part.qty) ≡ (whole (qty_at a s) +ℤ qty_at a s part) = ap (λ x. x +ℤ part.qty) (carried.qty a s) ∙ ap (λ x. whole (qty_at a s) +ℤ x) (sym own_qty) in
    let sum_value : ((sums_at cells a s).value +ℤ part.value) ≡ (whole (value_at a s) +ℤ value_at a s part) = ap (λ x. x +ℤ part.value) (carried.value a s) ∙ ap (λ x. whole (value_at a s) +ℤ x) (sym own_value) in
    record {
      fewer = omega (arith, ints, few, one, parts, enough.count_fits);
      fits_qty = abs_fits _ (subst (λ sum. unsigned_abs sum ≤ 10 ^ 38) (sym sum_qty) (omega (arith, qtys, enough.qty_fits)));
      fits_value = abs_fits _ (subst (λ sum. unsigned_abs sum ≤ 10 ^ 38) (sym sum_value) (omega (arith, values, limit)));
    }

-- there is a part to take
pub has-part :
    (part : Part) (rest : Whole) (cells : Cells) (count qty : ℕ) → Carries (more part rest) cells → Light count qty rest → IsLightEnough count qty
    → HasPart (sums_at cells part.account part.symbol) part.qty part.value
has-part part rest cells count qty carried light enough =
    let a = part.account in
    let s = part.symbol in
    let here : is_at a s part ≡ true = same_here part in
    let one : one_at a s part ≡ pos 1 = rw here refl in
    let own_qty : qty_at a s part ≡ part.qty = rw here refl in
    let own_value : value_at a s part ≡ part.value = rw here refl in
    let some = light.some a s in
    let qtys = light.qtys a s in
    let values = light.values a s in
    let limit : qty * 10 ^ 16 ≤ 10 ^ 38 = omega (arith, enough.qty_fits) in
    let parts = carried.parts a s in
    let sum_qty : ((sums_at cells a s).qty -ℤ part.qty) ≡ rest (qty_at a s) = (let is = carried.qty a s in omega (arith, ints, is, own_qty)) in
    let sum_value : ((sums_at cells a s).value -ℤ part.value) ≡ rest (value_at a s) = (let is = carried.value a s in omega (arith, ints, is, own_value)) in
    record {
      some = omega (arith, ints, some, one, parts);
      fits_qty = abs_fits _ (subst (λ sum. unsigned_abs sum ≤ 10 ^ 38) (sym sum_qty) (omega (arith, qtys, enough.qty_fits)));
      fits_value = abs_fits _ (subst (λ sum. unsigned_abs sum ≤ 10 ^ 38) (sym sum_value) (omega (arith, values, limit)));
    }
