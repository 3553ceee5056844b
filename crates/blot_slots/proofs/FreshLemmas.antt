-- New slots, made one after the other.
use Rattle.std.proofs.Common.{◌≡◌, ℕ, ◌+◌, ◌<◌, false, List, [], ◌∷◌, ◌++◌, None, Some, if◌then◌else◌, length, get_or, take, drop, refl, sym, ap, subst, ◌∙◌, take-append-drop}
use Rattle.std.specs.List.{AllByRecursion, IsDistinct, list_any}
use Rattle.std.specs.Map.{lookup}
use Rattle.std.proofs.lemmas.Bool.{or_from}
use Rattle.std.proofs.lemmas.List.{drop_more, map-append, take_more}
use Rattle.std.proofs.lemmas.Map.Keys.{IsDistinct-head, IsDistinct-tail}
use Rattle.blot_types.specs.Keys.{same_text}
use Rattle.blot_session.specs.States.{fresh}
use Rattle.blot_slots.proofs.SlotLemmas.{slot_of-all_in}
use Rattle.blot_slots.specs.Slots.{fresh_slots}

-- what holds of each item of a list holds of one in its middle
in_midst : {X : Type 0} (P : X → Type 0) (xs ys : List X) (y : X) → AllByRecursion P (xs ++ y ∷ ys) → P y
in_midst P [] ys y all = all.0
in_midst P (x ∷ xs) ys y all = in_midst P xs ys y all.1

-- one of peers that differ isn't among those before it
none_before : (before behind : List (List ℕ)) (peer : List ℕ) → IsDistinct same_text (before ++ peer ∷ behind) → list_any (λ listed. same_text listed peer) before ≡ false
none_before [] behind peer all = refl
none_before (listed ∷ before) behind peer all =
    or_from (same_text listed peer) _
    (in_midst (λ other. same_text listed other ≡ false) before behind peer (IsDistinct-head same_text listed (before ++ peer ∷ behind) all))
    (none_before before behind peer (IsDistinct-tail same_text listed (before ++ peer ∷ behind) all))

-- the next of peers that differ has no slot yet
pub fresh-absent :
    (own : List ℕ) (peers : List (List ℕ)) (index : ℕ) (peer : List ℕ) → index < length peers → peer ≡ get_or peers index peer
    → IsDistinct same_text peers → lookup (same_text peer) (fresh_slots own (take index peers)) ≡ None
fresh-absent own peers index peer within is all =
    let parts : take index peers ++ peer ∷ drop (index + 1) peers ≡ peers =
    ap (λ rest. take index peers ++ rest) (sym (drop_more peers index peer within ∙ ap (λ first. first ∷ drop (index + 1) peers) (sym is))) ∙ take-append-drop index peers in
    let alone = none_before (take index peers) (drop (index + 1) peers) peer (subst (IsDistinct same_text) (sym parts) all) in
    slot_of-all_in own peer (take index peers) ∙ ap (λ found. if found then Some (Some (fresh own peer)) else None) alone

-- and gets one after the others
pub fresh-more :
    (own : List ℕ) (peers : List (List ℕ)) (index : ℕ) (peer : List ℕ) → index < length peers → peer ≡ get_or peers index peer
    → fresh_slots own (take index peers) ++ (peer, Some (fresh own peer)) ∷ [] ≡ fresh_slots own (take (index + 1) peers)
fresh-more own peers index peer within is =
    sym (map-append (λ listed. (listed, Some (fresh own listed))) (take index peers) (peer ∷ []))
    ∙ ap (fresh_slots own) (ap (λ last. take index peers ++ last ∷ []) is ∙ sym (take_more peers index peer within))
