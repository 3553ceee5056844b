-- An item put back at the place where one was taken out.
use Rattle.std.proofs.Common.{◌≡◌, ℕ, ◌<◌, ◌+◌, ◌-◌, List, [], ◌∷◌, ◌++◌, length, take, get_or, set, sym, ap, subst, ◌∙◌, inl, inr, arith, swap, swap_remove, length-set, length-take-le, get_or-set_same, get_or-set_other, set-set, take_all}
use Rattle.std.proofs.lemmas.Bool.{cases_lt}
use Rattle.std.proofs.lemmas.List.{length_push, get_or_push, get_or_append_left, set-get_or, set_at, set-append_left, take-set-le, take_more, take_more_set}
use Rattle.std.proofs.lemmas.List.Edits.{swap_is}
use Rattle.std.proofs.Math.Seq.{take-set-lt}

-- the last one was taken out: the new one stands there
at_end : {X : Type 0} (before : List X) (last : ℕ) (other item : X) → last + 1 ≡ length before → swap (take last (set before last other) ++ item ∷ []) last last ≡ set before last item
at_end {X = X} before last other item is_last =
    let ys : List X = take last before ++ item ∷ [] in
    let long : length ys ≡ length before = omega (arith, length_push (take last before) item, length-take-le last before (omega arith)) in
    ap (λ short. swap (short ++ item ∷ []) last last) (take-set-le last before last other (omega arith))
    ∙ sym (swap_is ys last last item (omega arith) (omega arith))
    ∙ ap (λ zs. set zs last (get_or ys last item)) (set-get_or ys last item)
    ∙ set-get_or ys last item
    ∙ sym (take_more_set before last item (omega arith))
    ∙ take_all (last + 1) (set before last item) (omega (arith, length-set before last item))

-- an earlier one was taken out, for which the last one stood in
in_front : {X : Type 0} (before : List X) (place last : ℕ) (taken item : X) → place < last → last + 1 ≡ length before
    → swap (take last (set before place (get_or before last taken)) ++ item ∷ []) place last ≡ set before place item
in_front {X = X} before place last taken item earlier is_last =
    let other : X = get_or before last taken in
    let whole : List X = set before place item in
    let short : List X = set (take last before) place other in
    let ys : List X = short ++ item ∷ [] in
    let front : length (take last before) ≡ last = length-take-le last before (omega arith) in
    let long : length short ≡ last = length-set (take last before) place other ∙ front in
    let pushed : length ys ≡ last + 1 = omega (arith, length_push short item, long) in
    let at_last : get_or ys last item ≡ item = get_or_push short item item last long in
    let at_place : get_or ys place item ≡ other = get_or_append_left short (item ∷ []) item place (omega (arith, long)) ∙ get_or-set_same (take last before) place other item (omega (arith, front)) in
    let put : set ys place item ≡ take last whole ++ item ∷ [] =
    set-append_left short (item ∷ []) place item (omega (arith, long))
    ∙ ap (λ zs. zs ++ item ∷ []) (set-set (take last before) place other item ∙ sym (take-set-lt last before place item earlier)) in
    let length_whole : length whole ≡ length before = length-set before place item in
    let front_whole : length (take last whole) ≡ last = length-take-le last whole (omega arith) in
    let stays : get_or whole last taken ≡ other = get_or-set_other before place last item taken (omega arith) in
    ap (λ zs. swap (zs ++ item ∷ []) place last) (take-set-lt last before place other earlier)
    ∙ sym (swap_is ys place last item (omega arith) (omega arith))
    ∙ ap (λ x. set (set ys place x) last (get_or ys place item)) at_last
    ∙ ap (λ x. set (set ys place item) last x) at_place
    ∙ ap (λ zs. set zs last other) put
    ∙ set_at (take last whole) item [] other last front_whole
    ∙ ap (λ x. take last whole ++ x ∷ []) (sym stays)
    ∙ sym (take_more whole last taken (omega arith))
    ∙ take_all (last + 1) whole (omega arith)

-- taken out by `swap_remove`, pushed to the end and swapped with the one that stands in its place
pub put_back_is : {X : Type 0} (before after : List X) (place last : ℕ) (taken item : X) → place < length before → after ≡ swap_remove before place taken → last ≡ length after
    → swap (after ++ item ∷ []) place last ≡ set before place item
put_back_is {X = X} before after place last taken item within is end =
    let moved : List X = set before place (get_or before (length before - 1) taken) in
    let is_last : last ≡ length before - 1 =
    end ∙ ap length is ∙ length-take-le (length before - 1) moved (omega (arith, length-set before place (get_or before (length before - 1) taken))) in
    ap (λ xs. swap (xs ++ item ∷ []) place last) is ∙ subst (λ n. swap (take n (set before place (get_or before n taken)) ++ item ∷ []) place last ≡ set before place item) is_last
    (elim (cases_lt place last) [
      | inl earlier ↦ in_front before place last taken item earlier (omega arith)
      | inr later ↦
          let same : last ≡ place = omega arith in
          subst (λ p. swap (take last (set before p (get_or before last taken)) ++ item ∷ []) p last ≡ set before p item) same (at_end before last (get_or before last taken) item (omega arith))
    ])
