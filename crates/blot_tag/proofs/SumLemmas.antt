-- A stretch of a text is the stretch up to a place in it and the one behind that.
use Rattle.std.proofs.Common.{◌≡◌, ℕ, ◌+◌, ◌-◌, ◌≤◌, List, ◌++◌, take, drop, take-append-drop, sum, sym, ap, ◌∙◌, arith, drop-drop, take-take}
use Rattle.std.proofs.lemmas.List.{drop-take}
use Rattle.std.proofs.lemmas.List.Sums.{sum_by-append}
use Rattle.blot_tag.specs.Sums.{sum_between}

-- a stretch, cut in two
pub take_joined : (text : List ℕ) (a b c : ℕ) → a ≤ b → b ≤ c → take (b - a) (drop a text) ++ take (c - b) (drop b text) ≡ take (c - a) (drop a text)
take_joined text a b c first second =
    let front : take (b - a) (take (c - a) (drop a text)) ≡ take (b - a) (drop a text) = take-take (b - a) (c - a) (drop a text) (omega arith) in
    let sizes : (b - a) + (c - b) ≡ c - a = omega arith in
    let places : a + (b - a) ≡ b = omega arith in
    let back : drop (b - a) (take (c - a) (drop a text)) ≡ take (c - b) (drop b text) =
    ap (λ n. drop (b - a) (take n (drop a text))) (sym sizes) ∙ drop-take (b - a) (c - b) (drop a text)
    ∙ ap (take (c - b)) (drop-drop (b - a) a text ∙ ap (λ n. drop n text) places) in
    ap (λ xs. xs ++ take (c - b) (drop b text)) (sym front) ∙ ap (λ ys. take (b - a) (take (c - a) (drop a text)) ++ ys) (sym back)
    ∙ take-append-drop (b - a) (take (c - a) (drop a text))

-- and its sum
pub sum_joined : (text : List ℕ) (a b c : ℕ) → a ≤ b → b ≤ c → sum_between text a b + sum_between text b c ≡ sum_between text a c
sum_joined text a b c first second =
    sym (sum_by-append (λ x. x) (take (b - a) (drop a text)) (take (c - b) (drop b text))) ∙ ap sum (take_joined text a b c first second)
