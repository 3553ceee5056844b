-- Listed peers, taken from the front.
use Rattle.std.proofs.Common.{◌≡◌, ◌↔◌, ℕ, ◌+◌, ◌<◌, Bool, true, false, is_some, IsSomeAnd, List, [], ◌∷◌, ◌++◌, Some, length, get_or, take, drop, cond, Option, if◌then◌else◌, refl, ap, sym, subst, ◌∙◌, append_assoc, take-append-drop}
use Rattle.std.specs.Cmp.Lexicographic.{nat_list_eq_equiv}
use Rattle.std.specs.List.{AllByRecursion, IsDistinct, list_any}
use Rattle.std.specs.Map.{lookup, set_value}
use Rattle.std.proofs.lemmas.Bool.{both_ways, or_from, or_parts}
use Rattle.std.proofs.lemmas.List.{drop_more, map-append, take_more}
use Rattle.std.proofs.lemmas.Map.Keys.{IsDistinct-cons, IsDistinct-head, IsDistinct-tail}
use Rattle.blot_types.specs.Keys.{same_text}
use Rattle.blot_session.specs.declared.state.State.{State}
use Rattle.blot_session.specs.States.{fresh, resumed}
use Rattle.blot_slots.specs.Slots.{Slots, fresh_slots, slot_of, with_slot}
use Rattle.blot_lanes.specs.Listing.{Listed, peers_of, resumed_slots}

-- the next of them, and those after it
pub next-of : (listed : List Listed) (index : ℕ) (it : Listed) → index < length listed → it ≡ get_or listed index it → drop index listed ≡ it ∷ drop (index + 1) listed
next-of listed index it within is = drop_more listed index it within ∙ ap (λ first. first ∷ drop (index + 1) listed) (sym is)

-- those up to it
pub up-to : (listed : List Listed) (index : ℕ) (it : Listed) → index < length listed → it ≡ get_or listed index it → take (index + 1) listed ≡ take index listed ++ it ∷ []
up-to listed index it within is = take_more listed index it within ∙ ap (λ last. take index listed ++ last ∷ []) (sym is)

-- ---- who they are

none_pass : {X : Type 0} (p : X → Bool) (xs : List X) → list_any p xs ≡ false → AllByRecursion (λ x. p x ≡ false) xs
none_pass p [] none = tt
none_pass p (x ∷ xs) none = ((or_parts (p x) _ none).0, none_pass p xs (or_parts (p x) _ none).1)

none_found : {X : Type 0} (p : X → Bool) (xs : List X) → AllByRecursion (λ x. p x ≡ false) xs → list_any p xs ≡ false
none_found p [] fail = refl
none_found p (x ∷ xs) fail = or_from (p x) _ fail.0 (none_found p xs fail.1)

-- where the next peer isn't met again, those that are left differ exactly if those after it differ
pub distinct-step : (listed : List Listed) (index : ℕ) (it : Listed) → index < length listed → it ≡ get_or listed index it
    → list_any (same_text it.peer) (peers_of (drop (index + 1) listed)) ≡ false
    → IsDistinct same_text (peers_of listed) ↔ IsDistinct same_text (peers_of (drop index listed))
    → IsDistinct same_text (peers_of listed) ↔ IsDistinct same_text (peers_of (drop (index + 1) listed))
distinct-step listed index it within is alone so_far =
    let next = ap peers_of (next-of listed index it within is) in
    let rest = peers_of (drop (index + 1) listed) in (
      (λ all. IsDistinct-tail same_text it.peer rest (subst (IsDistinct same_text) next (so_far.0 all))),
      (λ behind. so_far.1 (subst (IsDistinct same_text) (sym next) (IsDistinct-cons same_text it.peer rest (none_pass _ rest alone) behind))),
    )

-- where it is met again, they don't differ
pub distinct-stop : (listed : List Listed) (index : ℕ) (it : Listed) → index < length listed → it ≡ get_or listed index it
    → list_any (same_text it.peer) (peers_of (drop (index + 1) listed)) ≡ true
    → IsDistinct same_text (peers_of listed) ↔ IsDistinct same_text (peers_of (drop index listed))
    → IsDistinct same_text (peers_of listed) → ⊥
distinct-stop listed index it within is again so_far all =
    let next = ap peers_of (next-of listed index it within is) in
    let rest = peers_of (drop (index + 1) listed) in
    both_ways _ (none_found _ rest (IsDistinct-head same_text it.peer rest (subst (IsDistinct same_text) next (so_far.0 all)))) again

-- ---- their sessions

-- those of the first are resumed, the others new
abbrev pub part_slots : List ℕ → List Listed → List Listed → List (List ℕ × Option State)
part_slots own before behind = resumed_slots own before ++ fresh_slots own (peers_of behind)

-- one of peers that differ isn't one before it
in_midst : (P : List ℕ → Type 0) (before : List Listed) (it : Listed) (behind : List Listed) → AllByRecursion P (peers_of (before ++ it ∷ behind)) → P it.peer
in_midst P [] it behind all = all.0
in_midst P (first ∷ before) it behind all = in_midst P before it behind all.1

apart : (first : Listed) (before : List Listed) (it : Listed) (behind : List Listed) → IsDistinct same_text (peers_of (first ∷ before ++ it ∷ behind))
    → same_text it.peer first.peer ≡ false
apart first before it behind all =
    nat_list_eq_equiv.symm it.peer first.peer
    ∙ in_midst (λ other. same_text first.peer other ≡ false) before it behind (IsDistinct-head same_text first.peer (peers_of (before ++ it ∷ behind)) all)

-- the slot of a peer that isn't among those before it
pub slot-midst : (own : List ℕ) (before : List Listed) (it : Listed) (behind : List Listed) → IsDistinct same_text (peers_of (before ++ it ∷ behind))
    → lookup (same_text it.peer) (part_slots own before (it ∷ behind)) ≡ Some (Some (fresh own it.peer))
slot-midst own [] it behind all = ap (λ same. if same then Some (Some (fresh own it.peer)) else lookup (same_text it.peer) (fresh_slots own (peers_of behind))) (nat_list_eq_equiv.refl it.peer)
slot-midst own (first ∷ before) it behind all =
    ap (λ same. if same then Some (Some (resumed own first.peer first.expected first.next)) else lookup (same_text it.peer) (part_slots own before (it ∷ behind))) (apart first before it behind all)
    ∙ slot-midst own before it behind (IsDistinct-tail same_text first.peer (peers_of (before ++ it ∷ behind)) all)

-- it is set to another session
pub set-midst : (own : List ℕ) (before : List Listed) (it : Listed) (behind : List Listed) (session : Option State) → IsDistinct same_text (peers_of (before ++ it ∷ behind))
    → set_value (same_text it.peer) (part_slots own before (it ∷ behind)) session ≡ resumed_slots own before ++ (it.peer, session) ∷ fresh_slots own (peers_of behind)
set-midst own [] it behind session all =
    let slot : List ℕ × Option State = (it.peer, Some (fresh own it.peer)) in
    let set : List ℕ × Option State = (it.peer, session) in
    let rest = fresh_slots own (peers_of behind) in
    ap (λ same. cond same (set ∷ rest) (slot ∷ set_value (same_text it.peer) rest session)) (nat_list_eq_equiv.refl it.peer)
set-midst own (first ∷ before) it behind session all =
    let slot : List ℕ × Option State = (first.peer, Some (resumed own first.peer first.expected first.next)) in
    let rest = part_slots own before (it ∷ behind) in
    let set : List ℕ × Option State = (first.peer, session) in
    ap (λ same. cond same (set ∷ rest) (slot ∷ set_value (same_text it.peer) rest session)) (apart first before it behind all)
    ∙ ap (λ slots. slot ∷ slots) (set-midst own before it behind session (IsDistinct-tail same_text first.peer (peers_of (before ++ it ∷ behind)) all))

-- the table of which the first are resumed
abbrev pub table : List ℕ → List (List ℕ × Option State) → Slots
table own slots = record { own = own; slots = slots }

abbrev pub part_resumed : List ℕ → List Listed → ℕ → Slots
part_resumed own listed index = table own (part_slots own (take index listed) (drop index listed))

pub resumed-next : (own : List ℕ) (listed : List Listed) (index : ℕ) (it : Listed) (old new : Slots) → index < length listed → it ≡ get_or listed index it
    → IsDistinct same_text (peers_of listed) → old ≡ part_resumed own listed index
    → (IsSomeAnd (slot_of old it.peer) (λ slot. is_some slot ≡ true) → new ≡ with_slot it.peer (Some (resumed own it.peer it.expected it.next)) old)
    → new ≡ part_resumed own listed (index + 1)
resumed-next own listed index it old new within is all was gives =
    let before = take index listed in
    let behind = drop (index + 1) listed in
    let session : Option State = Some (resumed own it.peer it.expected it.next) in
    let slot : List ℕ × Option State = (it.peer, session) in
    let next = next-of listed index it within is in
    let whole : before ++ it ∷ behind ≡ listed = ap (λ rest. before ++ rest) (sym next) ∙ take-append-drop index listed in
    let differ : IsDistinct same_text (peers_of (before ++ it ∷ behind)) = subst (λ listed. IsDistinct same_text (peers_of listed)) (sym whole) all in
    let is_part : old ≡ table own (part_slots own before (it ∷ behind)) = was ∙ ap (λ rest. table own (part_slots own before rest)) next in
    let found : slot_of old it.peer ≡ Some (Some (fresh own it.peer)) = ap (λ slots. slot_of slots it.peer) is_part ∙ slot-midst own before it behind differ in
    let more : resumed_slots own (take (index + 1) listed) ≡ resumed_slots own before ++ slot ∷ [] =
    ap (resumed_slots own) (up-to listed index it within is) ∙ map-append (λ it. (it.peer, Some (resumed own it.peer it.expected it.next))) before (it ∷ []) in
    gives (subst (λ slot. IsSomeAnd slot (λ slot. is_some slot ≡ true)) (sym found) refl)
    ∙ ap (λ slots. with_slot it.peer session slots) is_part
    ∙ ap (table own) (set-midst own before it behind session differ)
    ∙ ap (table own) (sym (ap (λ front. front ++ fresh_slots own (peers_of behind)) more ∙ append_assoc (resumed_slots own before) (slot ∷ []) (fresh_slots own (peers_of behind))))
