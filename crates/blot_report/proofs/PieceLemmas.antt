-- What is made of the pieces of a list is what is made of the list.
use Rattle.std.proofs.Common.{◌≡◌, ℕ, ◌<◌, List, [], ◌∷◌, ◌++◌, map, map-id, Option, Result, Ok, Vec, refl, sym, ap, subst, ◌∙◌, IfOk, Bor, filter_map, flat_map}
use Rattle.std.specs.List.{AllZip}
use Rattle.std.proofs.lemmas.List.{map-append}
use Rattle.std.proofs.lemmas.List.Elements.{filter_map-append}
use Rattle.std.proofs.lemmas.List.Folds.{flat_map-map}
use Rattle.rayon.specs.Lists.{chunks_of}
use Rattle.rayon.proofs.ToStd.{chunks_of-concat}
use Rattle.blot_report.specs.Pieces.{JoinsPieces}
use Rattle.blot_report.proofs.ListLemmas.{if_ok}

-- what was made of chunks
pub chunks-joined :
    {K T A E : Type 0} (made : Bor (List K) → Result (Vec T A) E → Type 0) (list : List K) (size : ℕ) (chunks : List (Bor (List K))) (results : List (Result (Vec T A) E))
    (found : List (Vec T A)) (items : List T)
    → map (λ (chunk : Bor (List K)). chunk.now) chunks ≡ chunks_of size list → 0 < size → AllZip made chunks results → results ≡ map Ok found
    → items ≡ flat_map (λ (piece : Vec T A). piece.items) found → JoinsPieces made list items
chunks-joined {K} made list size chunks results found items cut some each oks is = record {
  pieces = chunks;
  found = found;
  whole = sym (flat_map-map (λ (l : List K). l) (λ (chunk : Bor (List K)). chunk.now) chunks) ∙ ap (flat_map (λ (l : List K). l)) cut ∙ chunks_of-concat size list some;
  each = subst (AllZip made chunks) oks each;
  joined = is;
}

pieces-found :
    {K T V A E : Type 0} (view : T → V) (g : K → Option V) (made : Bor (List K) → Result (Vec T A) E → Type 0) (pieces : List (Bor (List K))) (found : List (Vec T A))
    → ((piece : Bor (List K)) (result : Result (Vec T A) E) → made piece result → IfOk result (λ v. map view v.items ≡ filter_map g piece.now)) → AllZip made pieces (map Ok found)
    → map view (flat_map (λ (v : Vec T A). v.items) found) ≡ filter_map g (flat_map (λ (piece : Bor (List K)). piece.now) pieces)
pieces-found view g made [] [] told each = refl
pieces-found view g made [] (v ∷ found) told each = absurd each
pieces-found view g made (piece ∷ pieces) [] told each = absurd each
pieces-found {K} {T} {V} {A} view g made (piece ∷ pieces) (v ∷ found) told each =
    map-append view v.items (flat_map (λ (w : Vec T A). w.items) found)
    ∙ (λ i. told piece (Ok v) each.0 i ++ pieces-found view g made pieces found told each.1 i)
    ∙ sym (filter_map-append g piece.now (flat_map (λ (other : Bor (List K)). other.now) pieces))

-- what each piece comes to, all come to
pub joined-found :
    {K T V A E : Type 0} (view : T → V) (g : K → Option V) (made : Bor (List K) → Result (Vec T A) E → Type 0) (list : List K) (items : List T)
    → ((piece : Bor (List K)) (result : Result (Vec T A) E) → made piece result → IfOk result (λ v. map view v.items ≡ filter_map g piece.now)) → JoinsPieces made list items
    → map view items ≡ filter_map g list
joined-found view g made list items told joins =
    ap (map view) joins.joined ∙ pieces-found view g made joins.pieces joins.found told joins.each ∙ ap (filter_map g) joins.whole

-- likewise of items as they are
pub rows-joined :
    {K T A E : Type 0} (g : K → Option T) (made : Bor (List K) → Result (Vec T A) E → Type 0) (list : List K) (items : List T)
    → ((piece : Bor (List K)) (result : Result (Vec T A) E) → made piece result → IfOk result (λ v. v.items ≡ filter_map g piece.now)) → JoinsPieces made list items
    → items ≡ filter_map g list
rows-joined {K} {T} {A} g made list items told joins =
    sym (map-id items)
    ∙ joined-found (λ (x : T). x) g made list items (λ piece result own. if_ok result _ _ (λ (v : Vec T A) is. map-id v.items ∙ is) (told piece result own)) joins
