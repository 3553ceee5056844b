use Rattle.std.proofs.Common.{◌≡◌, ℕ, ◌+◌, ◌-◌, ◌<◌, ◌≤◌, drop, false, eqb, not, List, map, length, w8, refl, sym, ap, ◌∙◌, inl, inr, arith, zero-add, get_or-drop, length-drop}
use Rattle.std.proofs.lemmas.Bool.{cases_eq, cases_lt}
use Rattle.std.proofs.lemmas.List.Sums.{position_or_len_is, fails_before_first, passes_at_first, prefix_len-le-length}
use Rattle.std.proofs.lemmas.Simd.{length-chunk, bitmask_splat, none_from_empty_mask, trailing_mask_l, run_in_chunk_fails, run_in_chunk_stops}
use Rattle.std.specs.List.{position_or_len, prefix_len}
use lib.Count.{count_trailing_zeros}
use lib.ListN.{get_or}
use lib.Lanes.{chunk, mask_l}
use Rattle.blot_tag.specs.Bytes.{is_soh}
use Rattle.blot_tag.proofs.lanes.place_in_lanes.Goals as goal

-- zero has no bit set
no_bit : count_trailing_zeros 64 0 ≡ 64
unfolding count_trailing_zeros
no_bit = refl

-- the lowest bit of the mask is the first SOH
lowest : (text : List ℕ) (mask place : ℕ) → 16 ≤ length text → mask ≡ mask_l (map is_soh (chunk 0 16 text)) → place ≡ count_trailing_zeros 64 mask
    → place < 16 → place ≡ position_or_len is_soh text
lowest text mask place long is found low =
    elim (cases_eq mask 0) [
      | inl none ↦ absurd (let none_found : place ≡ 64 = found ∙ ap (count_trailing_zeros 64) none ∙ no_bit in omega (arith, none_found))
      | inr some ↦
          let v = chunk 0 16 text in
          let counted : place ≡ prefix_len (λ byte. not (is_soh byte)) v =
          found ∙ ap (count_trailing_zeros 64) is ∙ trailing_mask_l is_soh 64 v (omega (arith, length-chunk 0 16 text long)) (omega (arith, is, some)) in
          sym (position_or_len_is is_soh text place 0 (omega arith)
          (λ k before. run_in_chunk_fails is_soh text 0 16 place 0 long counted k (omega arith) (omega arith))
          (λ inside. ap (λ k. is_soh (get_or text k 0)) (sym (zero-add place)) ∙ run_in_chunk_stops is_soh text 0 16 place 0 long counted low))
    ]

-- without a bit there is no SOH among them
none_there : (text : List ℕ) (mask place : ℕ) → 16 ≤ length text → mask ≡ mask_l (map is_soh (chunk 0 16 text)) → place ≡ count_trailing_zeros 64 mask
    → 16 ≤ place → (k : ℕ) → k < 16 → is_soh (get_or text k 0) ≡ false
none_there text mask place long is found high k before =
    elim (cases_eq mask 0) [
      | inl none ↦ none_from_empty_mask is_soh text 0 16 0 (omega arith) (sym is ∙ none) k (omega arith) (omega arith)
      | inr some ↦
          let v = chunk 0 16 text in
          let counted : place ≡ prefix_len (λ byte. not (is_soh byte)) v =
          found ∙ ap (count_trailing_zeros 64) is ∙ trailing_mask_l is_soh 64 v (omega (arith, length-chunk 0 16 text long)) (omega (arith, is, some)) in
          run_in_chunk_fails is_soh text 0 16 place 0 long counted k (omega arith) (omega arith)
    ]

-- so the first place is that behind them
behind : (text : List ℕ) → 16 ≤ length text → ((k : ℕ) → k < 16 → is_soh (get_or text k 0) ≡ false)
    → position_or_len is_soh text ≡ 16 + position_or_len is_soh (drop 16 text)
behind text long none =
    let rest = drop 16 text in
    let place = position_or_len is_soh rest in
    let size : length rest ≡ length text - 16 = length-drop 16 text in
    let low : place ≤ length rest = prefix_len-le-length (λ byte. not (is_soh byte)) rest in
    position_or_len_is is_soh text (16 + place) 0 (omega (arith, size, low))
    (λ k before. elim (cases_lt k 16) [
      | inl early ↦ none k early
      | inr late ↦
          let at : get_or rest (k - 16) 0 ≡ get_or text k 0 = get_or-drop 16 text (k - 16) 0 ∙ ap (λ i. get_or text i 0) (omega arith) in
          ap is_soh (sym at) ∙ fails_before_first is_soh rest (k - 16) 0 (omega arith)
    ])
    (λ inside. ap is_soh (sym (get_or-drop 16 text place 0)) ∙ passes_at_first is_soh rest 0 (omega (arith, size)))

pub returns-clause-first : goal.returns-clause-first
returns-clause-first c =
    let text = c.args.text.now in
    lowest text _ _ c.requires (bitmask_splat w8 eqb (chunk 0 16 text) 16 1 (length-chunk 0 16 text c.requires) (omega arith)) refl

pub returns-clause-none : goal.returns-clause-none
returns-clause-none c =
    let text = c.args.text.now in
    λ high. behind text c.requires
    (none_there text _ _ c.requires (bitmask_splat w8 eqb (chunk 0 16 text) 16 1 (length-chunk 0 16 text c.requires) (omega arith)) refl high)
