-- The roots of the live links are those that all slots tell.
use Rattle.std.proofs.Common.{◌≡◌, true, List, [], ◌∷◌, Option, Some, None, refl, sym, ap, subst, ◌∙◌, inl, inr, find, option_and_then}
use Rattle.std.proofs.lemmas.Bool.{cases_Bool}
use Rattle.blot_types.specs.declared.{keys.ExecKey.ExecKey, link.Link.Link, link.Role.Role}
use Rattle.blot_types.specs.declared.link.Role.TheVariants.{Begins, Corrects, Busts}
use Rattle.blot_types.specs.Chains.{root_in, link_refusal, chain_refusal, is_chained}
use Rattle.blot_types.proofs.ChainLemmas.{accepted_key, clash}
use Rattle.blot_types.proofs.KeyLemmas.{same_exec-true}
use Rattle.blot_types.specs.StandingVersion.{chain_under}
use Rattle.blot_places.specs.declared.slots.Slot.{Slot}
use Rattle.blot_places.specs.Slots.{items, live}
use Rattle.blot_places.proofs.SlotLemmas.{find_here, find_on, live_here, live_on}
use Rattle.blot_chain.specs.declared.chain_link.ChainLink.{ChainLink}
use Rattle.blot_chain.specs.ChainLinks.{has_key, kept_root, links_in, slot_root, slot_chain, HaveRoots, NewestLive}
use Rattle.blot_chain.proofs.ChainLemmas.{AreRooted, find-root, chained-parts}

-- the live slot of a key is the newest of that key
pub find-newest : (slots : List (Slot ChainLink)) (key : ExecKey) (item : ChainLink) → NewestLive slots → find (has_key key) (live slots) ≡ Some item → find (has_key key) (items slots) ≡ Some item
find-newest [] key item newest found = found
find-newest (first ∷ earlier) key item newest found =
    elim (cases_Bool first.is_live) [
      | inl is ↦
          let all : find (has_key key) (first.item ∷ live earlier) ≡ Some item = ap (find (has_key key)) (sym (live_here first earlier is)) ∙ found in
          elim (cases_Bool (has_key key first.item)) [
            | inl same ↦ find_here (has_key key) first.item (items earlier) same ∙ sym (find_here (has_key key) first.item (live earlier) same) ∙ all
            | inr other ↦
                find_on (has_key key) first.item (items earlier) other
                ∙ find-newest earlier key item newest.1 (sym (find_on (has_key key) first.item (live earlier) other) ∙ all)
          ]
      | inr not ↦
          let behind : find (has_key key) (live earlier) ≡ Some item = ap (find (has_key key)) (sym (live_on first earlier not)) ∙ found in
          elim (cases_Bool (has_key key first.item)) [
            | inl same ↦
                let none : find (has_key key) (live earlier) ≡ None = subst (λ k. find (has_key k) (live earlier) ≡ None) (same_exec-true first.item.link.key key same) newest.0 in
                absurd (clash (sym behind ∙ none))
            | inr other ↦ find_on (has_key key) first.item (items earlier) other ∙ find-newest earlier key item newest.1 behind
          ]
    ]

some-found : (found : Option ChainLink) (root : ExecKey) → option_and_then kept_root found ≡ Some root → (item : ChainLink) × (found ≡ Some item)
some-found None root is = cc
some-found (Some item) root is = (item, refl)

-- a root that the live slots tell is told by all slots
pub root-newest :
    (slots : List (Slot ChainLink)) (key root : ExecKey) → NewestLive slots → AreRooted (live slots) → root_in (links_in (live slots)) key ≡ Some root
    → slot_root slots key ≡ Some root
root-newest slots key root newest rooted is =
    let told : option_and_then kept_root (find (has_key key) (live slots)) ≡ Some root = find-root (live slots) key rooted ∙ is in
    let found = some-found (find (has_key key) (live slots)) root told in
    ap (option_and_then kept_root) (find-newest slots key found.0 newest found.1 ∙ sym found.1) ∙ told

found_root : (links : List Link) (reference : ExecKey) (found : Option ExecKey) → chain_refusal links reference found ≡ None → (root : ExecKey) × (found ≡ Some root)
found_root links reference None none = cc
found_root links reference (Some root) none = (root, refl)

-- where a reference is accepted, the live slots tell the root that all slots tell
told-chain :
    (earlier : List (Slot ChainLink)) (key : ExecKey) (role : Role) (root : ExecKey) → NewestLive earlier → AreRooted (live earlier)
    → link_refusal (links_in (live earlier)) key role ≡ None → slot_chain earlier key role ≡ Some root
    → chain_under (links_in (live earlier)) key role ≡ Some root
told-chain earlier key Begins root newest rooted accepted is = is
told-chain earlier key (Corrects reference) root newest rooted accepted is =
    let links : List Link = links_in (live earlier) in
    let found = found_root links reference (root_in links reference) (accepted_key links key (Corrects reference) accepted).1 in
    found.1 ∙ sym (root-newest earlier reference found.0 newest rooted found.1) ∙ is
told-chain earlier key (Busts reference) root newest rooted accepted is =
    let links : List Link = links_in (live earlier) in
    let found = found_root links reference (root_in links reference) (accepted_key links key (Busts reference) accepted).1 in
    found.1 ∙ sym (root-newest earlier reference found.0 newest rooted found.1) ∙ is

-- the other way round
pub chain-told :
    (earlier : List (Slot ChainLink)) (key : ExecKey) (role : Role) (root : ExecKey) → NewestLive earlier → AreRooted (live earlier)
    → chain_under (links_in (live earlier)) key role ≡ Some root → slot_chain earlier key role ≡ Some root
chain-told earlier key Begins root newest rooted is = is
chain-told earlier key (Corrects reference) root newest rooted is = root-newest earlier reference root newest rooted is
chain-told earlier key (Busts reference) root newest rooted is = root-newest earlier reference root newest rooted is

-- beside each live slot stands the root of its chain
pub live-rooted : (slots : List (Slot ChainLink)) → HaveRoots slots → NewestLive slots → is_chained (links_in (live slots)) ≡ true → AreRooted (live slots)
live-rooted [] roots newest chained = tt
live-rooted (slot ∷ earlier) roots newest chained =
    elim (cases_Bool slot.is_live) [
      | inl is ↦
          let all : is_chained (slot.item.link ∷ links_in (live earlier)) ≡ true = ap (λ slots. is_chained (links_in slots)) (sym (live_here slot earlier is)) ∙ chained in
          let parts = chained-parts slot.item.link (links_in (live earlier)) all in
          let rest = live-rooted earlier roots.1 newest.1 parts.1 in
          subst AreRooted (sym (live_here slot earlier is)) (told-chain earlier slot.item.link.key slot.item.link.role slot.item.root newest.1 rest parts.0 roots.0, rest)
      | inr not ↦
          subst AreRooted (sym (live_on slot earlier not))
          (live-rooted earlier roots.1 newest.1 (ap (λ slots. is_chained (links_in slots)) (sym (live_on slot earlier not)) ∙ chained))
    ]
