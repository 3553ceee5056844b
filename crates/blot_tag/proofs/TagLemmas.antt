-- Tags of one to three digits.
use Rattle.std.proofs.Common.{◌≡◌, ℕ, ◌+◌, ◌*◌, ◌-◌, ◌<◌, ◌≤◌, ◌==◌, true, false, List, [], ◌∷◌, length, take, Some, refl, sym, ap, ◌∙◌, arith, slice_index_or, option_and_then, position}
use Rattle.std.specs.Char.{is_ascii_digit}
use Rattle.std.specs.List.{position_or_len}
use Rattle.std.proofs.lemmas.Bool.Decides.{nat_tests}
use Rattle.blot_tag.specs.Bytes.{is_equals, tag_number}
use Rattle.blot_tag.specs.Fields.{first_tag}

is_digit : (byte : ℕ) → 48 ≤ byte → byte ≤ 57 → is_ascii_digit byte ≡ true
is_digit byte low high = grind (arith, nat_tests)

is_below : (byte other : ℕ) → byte < other → (byte == other) ≡ false
is_below byte other below = grind (arith, nat_tests)

is_above : (byte other : ℕ) → other < byte → (byte == other) ≡ false
is_above byte other above = grind (arith, nat_tests)

-- the tag before a first `=` that stands inside the text
tag_before : (text : List ℕ) (place tag : ℕ) → place < length text → position_or_len is_equals text ≡ place
    → tag_number (take place text) ≡ Some tag → Some tag ≡ first_tag text
tag_before text place tag inside first is =
    let found : position is_equals text ≡ Some place = grind (arith, nat_tests) in
    sym (ap (option_and_then (λ p. tag_number (take p text))) found ∙ is)

one_digit : (a : ℕ) → 49 ≤ a → a ≤ 57 → tag_number (a ∷ []) ≡ Some (a - 48)
unfolding tag_number
one_digit a low high = rw (is_digit a (omega arith) high) (rw (is_above a 48 low) (ap Some (omega arith)))

two_digits : (a b : ℕ) → 49 ≤ a → a ≤ 57 → 48 ≤ b → b ≤ 57 → tag_number (a ∷ b ∷ []) ≡ Some ((a - 48) * 10 + (b - 48))
unfolding tag_number
two_digits a b low high low2 high2 =
    rw (is_digit a (omega arith) high) (rw (is_digit b low2 high2) (rw (is_above a 48 low) (ap Some (omega arith))))

three_digits : (a b c : ℕ) → 49 ≤ a → a ≤ 57 → 48 ≤ b → b ≤ 57 → 48 ≤ c → c ≤ 57
    → tag_number (a ∷ b ∷ c ∷ []) ≡ Some (((a - 48) * 10 + (b - 48)) * 10 + (c - 48))
unfolding tag_number
three_digits a b c low high low2 high2 low3 high3 =
    rw (is_digit a (omega arith) high) (rw (is_digit b low2 high2) (rw (is_digit c low3 high3) (rw (is_above a 48 low) (ap Some (omega arith)))))

-- a digit and `=`
pub tag_of_one : (text : List ℕ) → 2 ≤ length text
    → 49 ≤ slice_index_or text 0 0 → slice_index_or text 0 0 ≤ 57 → slice_index_or text 1 0 ≡ 61
    → Some (slice_index_or text 0 0 - 48) ≡ first_tag text
tag_of_one [] long low high is = absurd (omega (arith, long))
tag_of_one (a ∷ []) long low high is = absurd (omega (arith, long))
tag_of_one (a ∷ e ∷ rest) long low high is =
    tag_before (a ∷ e ∷ rest) 1 _ (omega arith) (rw is (rw (is_below a 61 (omega (arith, high))) refl)) (one_digit a low high)

-- two digits and `=`
pub tag_of_two : (text : List ℕ) → 3 ≤ length text
    → 49 ≤ slice_index_or text 0 0 → slice_index_or text 0 0 ≤ 57
    → 48 ≤ slice_index_or text 1 0 → slice_index_or text 1 0 ≤ 57 → slice_index_or text 2 0 ≡ 61
    → Some ((slice_index_or text 0 0 - 48) * 10 + (slice_index_or text 1 0 - 48)) ≡ first_tag text
tag_of_two [] long low high low2 high2 is = absurd (omega (arith, long))
tag_of_two (a ∷ []) long low high low2 high2 is = absurd (omega (arith, long))
tag_of_two (a ∷ b ∷ []) long low high low2 high2 is = absurd (omega (arith, long))
tag_of_two (a ∷ b ∷ e ∷ rest) long low high low2 high2 is =
    tag_before (a ∷ b ∷ e ∷ rest) 2 _ (omega arith)
    (rw is (rw (is_below a 61 (omega (arith, high))) (rw (is_below b 61 (omega (arith, high2))) refl))) (two_digits a b low high low2 high2)

-- three digits and `=`
pub tag_of_three : (text : List ℕ) → 4 ≤ length text
    → 49 ≤ slice_index_or text 0 0 → slice_index_or text 0 0 ≤ 57
    → 48 ≤ slice_index_or text 1 0 → slice_index_or text 1 0 ≤ 57
    → 48 ≤ slice_index_or text 2 0 → slice_index_or text 2 0 ≤ 57 → slice_index_or text 3 0 ≡ 61
    → Some (((slice_index_or text 0 0 - 48) * 10 + (slice_index_or text 1 0 - 48)) * 10 + (slice_index_or text 2 0 - 48)) ≡ first_tag text
tag_of_three [] long low high low2 high2 low3 high3 is = absurd (omega (arith, long))
tag_of_three (a ∷ []) long low high low2 high2 low3 high3 is = absurd (omega (arith, long))
tag_of_three (a ∷ b ∷ []) long low high low2 high2 low3 high3 is = absurd (omega (arith, long))
tag_of_three (a ∷ b ∷ c ∷ []) long low high low2 high2 low3 high3 is = absurd (omega (arith, long))
tag_of_three (a ∷ b ∷ c ∷ e ∷ rest) long low high low2 high2 low3 high3 is =
    tag_before (a ∷ b ∷ c ∷ e ∷ rest) 3 _ (omega arith)
    (rw is (rw (is_below a 61 (omega (arith, high))) (rw (is_below b 61 (omega (arith, high2))) (rw (is_below c 61 (omega (arith, high3))) refl))))
    (three_digits a b c low high low2 high2 low3 high3)
