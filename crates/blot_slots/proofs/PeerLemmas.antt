-- Lists of peers that differ, taken from the front.
use Rattle.std.proofs.Common.{◌≡◌, ◌↔◌, ℕ, ◌+◌, ◌<◌, Bool, true, false, List, [], ◌∷◌, length, get_or, drop, refl, ap, sym, ◌∙◌}
use Rattle.std.specs.List.{AllByRecursion, IsDistinct, list_any}
use Rattle.std.proofs.lemmas.Bool.{both_ways, or_from, or_parts}
use Rattle.std.proofs.lemmas.List.{drop_more}
use Rattle.std.proofs.lemmas.Map.Keys.{IsDistinct-cons, IsDistinct-head, IsDistinct-tail}
use Rattle.blot_types.specs.Keys.{same_text}

none_pass : {X : Type 0} (p : X → Bool) → (xs : List X) → list_any p xs ≡ false → AllByRecursion (λ x. p x ≡ false) xs
none_pass p [] none = tt
none_pass p (x ∷ xs) none = ((or_parts (p x) _ none).0, none_pass p xs (or_parts (p x) _ none).1)

none_found : {X : Type 0} (p : X → Bool) → (xs : List X) → AllByRecursion (λ x. p x ≡ false) xs → list_any p xs ≡ false
none_found p [] fail = refl
none_found p (x ∷ xs) fail = or_from (p x) _ fail.0 (none_found p xs fail.1)

-- where the next peer isn't met again, the peers that are left differ exactly if those after it differ
pub distinct_step :
    (peers : List (List ℕ)) (index : ℕ) (peer : List ℕ) → index < length peers → peer ≡ get_or peers index peer
    → list_any (λ other. same_text peer other) (drop (index + 1) peers) ≡ false
    → IsDistinct same_text peers ↔ IsDistinct same_text (drop index peers)
    → IsDistinct same_text peers ↔ IsDistinct same_text (drop (index + 1) peers)
distinct_step peers index peer within is alone so_far =
    let next : drop index peers ≡ peer ∷ drop (index + 1) peers = drop_more peers index peer within ∙ ap (λ first. first ∷ drop (index + 1) peers) (sym is) in
    let rest = drop (index + 1) peers in (
      (λ all. IsDistinct-tail same_text peer rest (rw (← next) (so_far.0 all))),
      (λ behind. so_far.1 (rw next (IsDistinct-cons same_text peer rest (none_pass _ rest alone) behind))),
    )

-- where it is met again, the peers don't differ
pub distinct_stop :
    (peers : List (List ℕ)) (index : ℕ) (peer : List ℕ) → index < length peers → peer ≡ get_or peers index peer
    → list_any (λ other. same_text peer other) (drop (index + 1) peers) ≡ true
    → IsDistinct same_text peers ↔ IsDistinct same_text (drop index peers)
    → IsDistinct same_text peers → ⊥
distinct_stop peers index peer within is again so_far all =
    let next : drop index peers ≡ peer ∷ drop (index + 1) peers = drop_more peers index peer within ∙ ap (λ first. first ∷ drop (index + 1) peers) (sym is) in
    let rest = drop (index + 1) peers in
    both_ways _ (none_found _ rest (IsDistinct-head same_text peer rest (rw (← next) (so_far.0 all)))) again
