-- The order line as its fills come, one by one.
use Rattle.std.proofs.Common.{◌≡◌, ℕ, ◌+◌, ◌^◌, ◌≤◌, pos, ◌+ℤ◌, ◌-ℤ◌, ◌≤ℤ◌, arith, List, [], ◌∷◌, ◌++◌, Option, Some, true, false, refl, sym, ap, ◌∙◌, map, filter, if◌then◌else◌, append-nil}
use Rattle.std.specs.List.{last_or}
use Rattle.std.proofs.lemmas.Grind.{fold-append}
use Rattle.std.proofs.lemmas.Int.{ints}
use Rattle.std.proofs.lemmas.List.{map-append}
use Rattle.std.proofs.lemmas.List.Elements.{filter-append}
use Rattle.blot_types.specs.declared.{fill.Fill.Fill, lines.OrderLine.OrderLine, lines.Version.Version, keys.OrderKey.OrderKey}
use Rattle.blot_types.specs.Keys.{same_order}
use Rattle.blot_types.specs.Order.{line_of, with_fill, cum_before, value_before, IsWithin, fills_of}

-- the last of a list with one more element is that element
pub last_or-push : {A : Type 0} → (o : Option A) (xs : List A) (x : A) → last_or o (xs ++ x ∷ []) ≡ Some x
last_or-push o [] x = refl
last_or-push o (y ∷ ys) x = last_or-push (Some y) ys x

-- a list with an element has a last one
pub last_or-some : {A : Type 0} → (y : A) (ys : List A) → (z : A) × (last_or (Some y) ys ≡ Some z)
last_or-some y [] = (y, refl)
last_or-some y (x ∷ xs) = last_or-some x xs

-- the line with one more fill after the others
pub line_of-push : (fills : List Fill) (fill : Fill) → line_of (fills ++ fill ∷ []) ≡ Some (with_fill (line_of fills) fill)
line_of-push [] fill = refl
line_of-push (first ∷ fills) fill =
    let last = last_or-some first fills in
    rw (last_or-push, last.1) (simp fold-append)

-- a line of at most n fills, with one more fill, is one of at most n + 1
pub IsWithin-more :
    (n : ℕ) (line : Option OrderLine) (shown : OrderLine) → IsWithin n line
    → cum_before line ≤ℤ shown.cum → shown.cum ≤ℤ (cum_before line +ℤ pos (10 ^ 16))
    → (value_before line -ℤ pos (10 ^ 32)) ≤ℤ shown.value → shown.value ≤ℤ (value_before line +ℤ pos (10 ^ 32))
    → IsWithin (n + 1) (Some shown)
IsWithin-more n line shown within cum_low cum_high value_low value_high = record {
  cum_low = omega (arith, ints, within.cum_low);
  cum_high = omega (arith, ints, within.cum_high);
  value_low = omega (arith, ints, within.value_low);
  value_high = omega (arith, ints, within.value_high);
}

-- as many fills as there may be or more
pub IsWithin-weaker : (m n : ℕ) (line : Option OrderLine) → m ≤ n → IsWithin m line → IsWithin n line
IsWithin-weaker m n line more within = record {
  cum_low = within.cum_low;
  cum_high = omega (arith, ints, within.cum_high);
  value_low = omega (arith, ints, within.value_low);
  value_high = omega (arith, ints, within.value_high);
}

-- the fills of an order among versions with one more
pub fills_of-push :
    (versions : List Version) (version : Version) (order : OrderKey)
    → fills_of (map (λ (v : Version). v.fill) (versions ++ version ∷ [])) order
    ≡ fills_of (map (λ (v : Version). v.fill) versions) order ++ (if same_order version.fill.order order then version.fill ∷ [] else [])
fills_of-push versions version order =
    ap (filter (λ fill. same_order fill.order order)) (map-append (λ v. v.fill) versions (version ∷ []))
    ∙ filter-append (λ fill. same_order fill.order order) (map (λ v. v.fill) versions) (version.fill ∷ [])

-- the line of an order where the next version is one of its fills, and where it isn't
pub line_of-taken :
    (versions : List Version) (version : Version) (order : OrderKey) (line : Option OrderLine)
    → line ≡ line_of (fills_of (map (λ (v : Version). v.fill) versions) order) → same_order version.fill.order order ≡ true
    → Some (with_fill line version.fill) ≡ line_of (fills_of (map (λ (v : Version). v.fill) (versions ++ version ∷ [])) order)
line_of-taken versions version order line is same =
    rw (is, fills_of-push, same) (sym (line_of-push (fills_of (map (λ (v : Version). v.fill) versions) order) version.fill))

pub line_of-passed :
    (versions : List Version) (version : Version) (order : OrderKey) (line : Option OrderLine)
    → line ≡ line_of (fills_of (map (λ (v : Version). v.fill) versions) order) → same_order version.fill.order order ≡ false
    → line ≡ line_of (fills_of (map (λ (v : Version). v.fill) (versions ++ version ∷ [])) order)
line_of-passed versions version order line is other =
    rw (is, fills_of-push, other) (ap line_of (sym (append-nil (fills_of (map (λ (v : Version). v.fill) versions) order))))
