-- The first item that passes a test. The items stand newest first, and their numbers fall.
use Rattle.std.proofs.Common.{◌≡◌, ℕ, ◌<◌, ◌≤◌, min, Bool, true, false, cond, ◌&&◌, ◌||◌, List, [], ◌∷◌, map, reverse, Option, Some, None, refl, sym, ap, subst, ◌∙◌, inl, inr, arith, All, find, nat_lt, option_map, lt-ltb, ltb-false, ltb-true}
use Rattle.std.specs.Option.{option_map_or, option_or}
use Rattle.std.proofs.lemmas.Bool.{and_parts, cases_Bool}
use Rattle.std.proofs.lemmas.List.{reverse-append}
use Rattle.std.proofs.lemmas.List.Elements.{All-cons, All-head, All-nil, All-tail, All-weaker}
use Rattle.std.proofs.lemmas.List.Folds.{find-append}
use Rattle.std.proofs.lemmas.Option.{same_Some}
use Rattle.blot_types.specs.Lesser.{lesser}
use Rattle.blot_types.proofs.ChainLemmas.{clash, differing}
use Rattle.blot_types.proofs.StayLemmas.{find-agree}
use Rattle.blot_types.proofs.GeneralLemmas.{and-false, none-both, all-reversed}
use Rattle.blot_places.specs.Slots.{is_above, numbers_fall}
use Rattle.blot_places.proofs.ShownLemmas.{falling-parts}

-- ---- one of two numbers

-- below a number, where there is one
abbrev pub is_under : ℕ → Option ℕ → Bool
is_under bound found = option_map_or (λ n. nat_lt n bound) found true

less-first : (a n : ℕ) → nat_lt a n ≡ true → a ≡ min a n
less-first a n under = let less : a < n = ltb-true _ _ under in omega (arith, less)

less-second : (b n : ℕ) → nat_lt b n ≡ true → b ≡ min n b
less-second b n under = let less : b < n = ltb-true _ _ under in omega (arith, less)

-- where what was found is below n, so is the lesser, and n adds nothing to it
pub one_of_two :
    (a b : Option ℕ) (p q : Bool) (n : ℕ) → is_under n a ≡ true → is_under n b ≡ true
    → option_or (lesser a b) (cond (p || q) (Some n) None) ≡ lesser (option_or a (cond p (Some n) None)) (option_or b (cond q (Some n) None))
one_of_two None None true true n under_a under_b = ap Some (omega arith)
one_of_two None None true false n under_a under_b = refl
one_of_two None None false q n under_a under_b = refl
one_of_two None (Some b) true q n under_a under_b = ap Some (less-second b n under_b)
one_of_two None (Some b) false q n under_a under_b = refl
one_of_two (Some a) None p true n under_a under_b = ap Some (less-first a n under_a)
one_of_two (Some a) None p false n under_a under_b = refl
one_of_two (Some a) (Some b) p q n under_a under_b = refl

-- ---- lists

pub All-zip : {T : Type 0} (P Q R : T → Type 0) → ((x : T) → P x → Q x → R x) → (items : List T) → All P items → All Q items → All R items
All-zip P Q R both [] all also = All-nil R
All-zip P Q R both (item ∷ earlier) all also =
    All-cons R item earlier (both item (All-head P item earlier all) (All-head Q item earlier also)) (All-zip P Q R both earlier (All-tail P item earlier all) (All-tail Q item earlier also))

-- ---- the first that passes

module _ {T : Type 0} (number_of : T → ℕ) where
  abbrev pub first_by : (T → Bool) → List T → Option ℕ
  first_by test items = option_map number_of (find test (reverse items))

  or-mapped : (a b : Option T) → option_map number_of (option_or a b) ≡ option_or (option_map number_of a) (option_map number_of b)
  or-mapped None b = refl
  or-mapped (Some x) b = refl

  cond-mapped : (b : Bool) (item : T) → option_map number_of (cond b (Some item) None) ≡ cond b (Some (number_of item)) None
  cond-mapped true item = refl
  cond-mapped false item = refl

  -- one item more
  pub first-more : (test : T → Bool) (item : T) (earlier : List T) → first_by test (item ∷ earlier) ≡ option_or (first_by test earlier) (cond (test item) (Some (number_of item)) None)
  first-more test item earlier =
      ap (λ items. option_map number_of (find test items)) (reverse-append (item ∷ []) earlier) ∙ ap (option_map number_of) (find-append test (reverse earlier) (item ∷ []))
      ∙ or-mapped (find test (reverse earlier)) (cond (test item) (Some item) None) ∙ ap (option_or (first_by test earlier)) (cond-mapped (test item) item)

  pub under-or : (bound n : ℕ) (found : Option ℕ) (b : Bool) → is_under bound found ≡ true → nat_lt n bound ≡ true → is_under bound (option_or found (cond b (Some n) None)) ≡ true
  under-or bound n None true under less = less
  under-or bound n None false under less = refl
  under-or bound n (Some m) b under less = under

  pub first-under : (bound : ℕ) (test : T → Bool) (items : List T) → is_above number_of bound items ≡ true → is_under bound (first_by test items) ≡ true
  first-under bound test [] above = refl
  first-under bound test (item ∷ earlier) above =
      let parts : (nat_lt (number_of item) bound ≡ true) × (is_above number_of bound earlier ≡ true) = and_parts _ _ above in
      ap (is_under bound) (first-more test item earlier)
      ∙ under-or bound (number_of item) (first_by test earlier) (test item) (first-under bound test earlier parts.1) parts.0

  -- the first that passes one of two tests is the lesser of the first that pass each
  pub first-either : (p q : T → Bool) (items : List T) → numbers_fall number_of items ≡ true → first_by (λ x. p x || q x) items ≡ lesser (first_by p items) (first_by q items)
  first-either p q [] fall = refl
  first-either p q (item ∷ earlier) fall =
      let falling = falling-parts number_of item earlier fall in
      let n = number_of item in
      first-more (λ x. p x || q x) item earlier ∙ ap (λ found. option_or found (cond (p item || q item) (Some n) None)) (first-either p q earlier falling.1)
      ∙ one_of_two (first_by p earlier) (first_by q earlier) (p item) (q item) n (first-under n p earlier falling.0) (first-under n q earlier falling.0)
      ∙ sym (λ i. lesser (first-more p item earlier i) (first-more q item earlier i))

  -- two tests that agree
  pub first-agree : (p q : T → Bool) (items : List T) → All (λ x. p x ≡ q x) items → first_by p items ≡ first_by q items
  first-agree p q items agree = ap (option_map number_of) (find-agree p q (reverse items) (all-reversed (λ x. p x ≡ q x) items agree))

  pub first-none : (test : T → Bool) (items : List T) → All (λ x. test x ≡ false) items → first_by test items ≡ None
  first-none test [] none = refl
  first-none test (item ∷ earlier) none =
      first-more test item earlier ∙ ap (λ b. option_or (first_by test earlier) (cond b (Some (number_of item)) None)) (All-head (λ x. test x ≡ false) item earlier none)
      ∙ ap (λ found. option_or found None) (first-none test earlier (All-tail (λ x. test x ≡ false) item earlier none))

  pub none-first : (test : T → Bool) (items : List T) → first_by test items ≡ None → All (λ x. test x ≡ false) items
  none-first test [] none = All-nil (λ x. test x ≡ false)
  none-first test (item ∷ earlier) none =
      let parts = none-both (first_by test earlier) (test item) (number_of item) (sym (first-more test item earlier) ∙ none) in
      All-cons (λ x. test x ≡ false) item earlier parts.1 (none-first test earlier parts.0)

  fails-too : (p q : T → Bool) (x : T) → (q x ≡ true → p x ≡ true) → p x ≡ false → q x ≡ false
  fails-too p q x weaker fails = elim (cases_Bool (q x)) [
    | inl passes ↦ absurd (differing (weaker passes) fails)
    | inr other ↦ other
  ]

  -- where none passes, none passes a stronger test
  pub nothing-stronger : (p q : T → Bool) (items : List T) → ((x : T) → q x ≡ true → p x ≡ true) → first_by p items ≡ None → first_by q items ≡ None
  nothing-stronger p q items weaker none =
      first-none q items (All-weaker (λ x. p x ≡ false) (λ x. q x ≡ false) (λ x fails. fails-too p q x (weaker x) fails) items (none-first p items none))

  -- what passes is numbered from the first on
  abbrev pub IsLeast : (T → Bool) → ℕ → List T → Type 0
  IsLeast test n items = All (λ x. test x ≡ true → n ≤ number_of x) items

  least-more :
      (test : T → Bool) (item : T) (earlier : List T) (n : ℕ) (found : Option ℕ) → first_by test earlier ≡ found → is_under (number_of item) found ≡ true
      → option_or found (cond (test item) (Some (number_of item)) None) ≡ Some n → ((m : ℕ) → found ≡ Some m → IsLeast test m earlier) → IsLeast test n (item ∷ earlier)
  least-more test item earlier n (Some m) found under is rest =
      let same : m ≡ n = same_Some m n is in
      let less : m < number_of item = ltb-true _ _ under in
      All-cons (λ x. test x ≡ true → n ≤ number_of x) item earlier (λ passes. omega (arith, same, less)) (subst (λ k. IsLeast test k earlier) same (rest m refl))
  least-more test item earlier n None found under is rest =
      All-cons (λ x. test x ≡ true → n ≤ number_of x) item earlier
      (λ passes. let same : number_of item ≡ n = same_Some (number_of item) n (sym (ap (λ b. cond b (Some (number_of item)) None) passes) ∙ is) in omega (arith, same))
      (All-weaker (λ x. test x ≡ false) (λ x. test x ≡ true → n ≤ number_of x) (λ x fails passes. absurd (differing passes fails)) earlier (none-first test earlier found))

  pub first-least : (test : T → Bool) (items : List T) (n : ℕ) → numbers_fall number_of items ≡ true → first_by test items ≡ Some n → IsLeast test n items
  first-least test [] n fall is = All-nil (λ x. test x ≡ true → n ≤ number_of x)
  first-least test (item ∷ earlier) n fall is =
      let falling = falling-parts number_of item earlier fall in
      least-more test item earlier n (first_by test earlier) refl (first-under (number_of item) test earlier falling.0) (sym (first-more test item earlier) ∙ is)
      (λ m found. first-least test earlier m falling.1 found)

  -- the first passes itself
  passes-more :
      (test : T → Bool) (item : T) (found : Option ℕ) (n : ℕ) → option_or found (cond (test item) (Some (number_of item)) None) ≡ Some n
      → ((m : ℕ) → found ≡ Some m → (x : T) × ((test x ≡ true) × (number_of x ≡ m))) → (x : T) × ((test x ≡ true) × (number_of x ≡ n))
  passes-more test item (Some m) n is rest = subst (λ k. (x : T) × ((test x ≡ true) × (number_of x ≡ k))) (same_Some m n is) (rest m refl)
  passes-more test item None n is rest = elim (cases_Bool (test item)) [
    | inl passes ↦ (item, (passes, same_Some (number_of item) n (sym (ap (λ b. cond b (Some (number_of item)) None) passes) ∙ is)))
    | inr fails ↦ absurd (clash (sym is ∙ ap (λ b. cond b (Some (number_of item)) None) fails))
  ]

  pub first-passes : (test : T → Bool) (items : List T) (n : ℕ) → first_by test items ≡ Some n → (x : T) × ((test x ≡ true) × (number_of x ≡ n))
  first-passes test [] n is = absurd (clash (sym is))
  first-passes test (item ∷ earlier) n is =
      passes-more test item (first_by test earlier) n (sym (first-more test item earlier) ∙ is) (λ m found. first-passes test earlier m found)

  -- the first above a number that passes a stronger test comes after the first that passes, where that one fails it
  abbrev above : ℕ → (T → Bool) → T → Bool
  above bound test x = nat_lt bound (number_of x) && test x

  agree-after :
      (bound n : ℕ) (p q : T → Bool) (x : T) → bound < n → ((x : T) → q x ≡ true → p x ≡ true) → (above bound p x ≡ true → n ≤ number_of x) → (number_of x ≡ n → q x ≡ false)
      → above bound q x ≡ above n q x
  agree-after bound n p q x less weaker least fails =
      elim (cases_Bool (q x)) [
        | inl passes ↦ elim (cases_Bool (nat_lt n (number_of x))) [
          | inl after ↦
              let over : n < number_of x = ltb-true _ _ after in
              ap (λ b. b && q x) (lt-ltb bound (number_of x) (omega (arith, less, over)) ∙ sym after)
          | inr before ↦ elim (cases_Bool (nat_lt bound (number_of x))) [
            | inl over ↦
                let up_to : number_of x ≤ n = ltb-false _ _ before in
                let from : n ≤ number_of x = least (ap (λ b. b && p x) over ∙ weaker x passes) in
                absurd (differing passes (fails (omega (arith, up_to, from))))
            | inr under ↦ ap (λ b. b && q x) (under ∙ sym before)
          ]
        ]
        | inr other ↦ ap (λ b. nat_lt bound (number_of x) && b) other ∙ and-false (nat_lt bound (number_of x)) ∙ sym (ap (λ b. nat_lt n (number_of x) && b) other ∙ and-false (nat_lt n (number_of x)))
      ]

  pub first-next :
      (bound n : ℕ) (p q : T → Bool) (items : List T) → numbers_fall number_of items ≡ true → ((x : T) → q x ≡ true → p x ≡ true)
      → first_by (above bound p) items ≡ Some n → All (λ x. number_of x ≡ n → q x ≡ false) items → first_by (above bound q) items ≡ first_by (above n q) items
  first-next bound n p q items fall weaker is fails =
      let one = first-passes (above bound p) items n is in
      let less : bound < number_of one.0 = ltb-true _ _ (and_parts (nat_lt bound (number_of one.0)) (p one.0) one.1.0).0 in
      let below : bound < n = subst (λ m. bound < m) one.1.1 less in
      first-agree (above bound q) (above n q) items
      (All-zip (λ x. above bound p x ≡ true → n ≤ number_of x) (λ x. number_of x ≡ n → q x ≡ false) (λ x. above bound q x ≡ above n q x)
      (λ x least fails. agree-after bound n p q x below weaker least fails) items (first-least (above bound p) items n fall is) fails)

  -- it is the first that passes a stronger test, where it passes that too
  stronger-more :
      (p q : T → Bool) (item : T) (earlier : List T) (n : ℕ) (found : Option ℕ) → ((x : T) → q x ≡ true → p x ≡ true) → first_by p earlier ≡ found
      → option_or found (cond (p item) (Some (number_of item)) None) ≡ Some n → ((m : ℕ) → found ≡ Some m → m ≡ n → first_by q earlier ≡ Some n) → (p item ≡ true → number_of item ≡ n → q item ≡ true)
      → first_by q (item ∷ earlier) ≡ Some n
  stronger-more p q item earlier n (Some m) weaker is_found is rest here =
      first-more q item earlier ∙ ap (λ found. option_or found (cond (q item) (Some (number_of item)) None)) (rest m refl (same_Some m n is))
  stronger-more p q item earlier n None weaker is_found is rest here = elim (cases_Bool (p item)) [
    | inl passes ↦
        let its : number_of item ≡ n = same_Some (number_of item) n (sym (ap (λ b. cond b (Some (number_of item)) None) passes) ∙ is) in
        first-more q item earlier ∙ ap (λ found. option_or found (cond (q item) (Some (number_of item)) None)) (nothing-stronger p q earlier weaker is_found)
        ∙ ap (λ b. cond b (Some (number_of item)) None) (here passes its) ∙ ap Some its
    | inr fails ↦ absurd (clash (sym is ∙ ap (λ b. cond b (Some (number_of item)) None) fails))
  ]

  pub first-stronger :
      (p q : T → Bool) (items : List T) (n : ℕ) → ((x : T) → q x ≡ true → p x ≡ true) → first_by p items ≡ Some n → ((x : T) → p x ≡ true → number_of x ≡ n → q x ≡ true)
      → first_by q items ≡ Some n
  first-stronger p q [] n weaker is here = absurd (clash (sym is))
  first-stronger p q (item ∷ earlier) n weaker is here =
      stronger-more p q item earlier n (first_by p earlier) weaker refl (sym (first-more p item earlier) ∙ is)
      (λ m found same. first-stronger p q earlier n weaker (found ∙ ap Some same) here) (here item)

-- through a change of the items that keeps their numbers
pub first-through : {T A : Type 0} (f : T → A) (number_of : A → ℕ) (test : A → Bool) (items : List T) → first_by number_of test (map f items) ≡ first_by (λ x. number_of (f x)) (λ x. test (f x)) items
first-through f number_of test [] = refl
first-through f number_of test (item ∷ earlier) =
    first-more number_of test (f item) (map f earlier) ∙ ap (λ found. option_or found (cond (test (f item)) (Some (number_of (f item))) None)) (first-through f number_of test earlier)
    ∙ sym (first-more (λ x. number_of (f x)) (λ x. test (f x)) item earlier)
