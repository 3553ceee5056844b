-- What the chains keep with one link more, and one less; and what their look-ups find.
use Rattle.std.proofs.Common.{◌≡◌, ℕ, ◌<◌, true, List, [], ◌∷◌, ◌++◌, reverse, Option, Some, None, refl, sym, ap, subst, ◌∙◌, inl, inr, arith, IfSome, find, is_none, option_map, option_and_then, ltb-true}
use Rattle.std.proofs.lemmas.Bool.{cases_Bool, and_from, and_parts}
use Rattle.std.proofs.lemmas.List.{reverse-append}
use Rattle.blot_types.specs.declared.{keys.ExecKey.ExecKey, link.Link.Link, link.Role.Role}
use Rattle.blot_types.specs.Chains.{taker_in, root_in, current_in, bust_in, link_refusal, is_chained, is_above_links}
use Rattle.blot_types.specs.Keys.{same_exec}
use Rattle.blot_types.proofs.ChainLemmas.{accepted_key}
use Rattle.blot_types.proofs.KeyLemmas.{same_exec-true}
use Rattle.blot_types.proofs.SurvivorLemmas.{find-passes}
use Rattle.blot_types.specs.StandingVersion.{chain_under}
use Rattle.blot_places.specs.declared.slots.Slot.{Slot}
use Rattle.blot_places.specs.Shown.{Shown}
use Rattle.blot_places.specs.Slots.{is_above, items, lifted, live, newest_live, numbers_fall}
use Rattle.blot_places.proofs.MarkLemmas.{above-both, above-side}
use Rattle.blot_places.proofs.ShownLemmas.{above-through, falling-parts}
use Rattle.blot_places.proofs.SlotLemmas.{lifted_here, lifted_on, live_here, live_on, newest_live-find}
use Rattle.blot_chain.specs.declared.{index.Index.Index, chain_link.ChainLink.ChainLink}
use Rattle.blot_chain.specs.Cells.{busts_in, takers_in, versions_in}
use Rattle.blot_chain.specs.Holds.{HoldsChains, shown_of}
use Rattle.blot_chain.specs.Index.{IsIndexed}
use Rattle.blot_chain.specs.Steps.{AddsOne, IsNewest, number_of}
use Rattle.blot_chain.specs.ChainLinks.{has_key, is_version_of, is_bust_of, kept_root, link_number, links_in}
use Rattle.blot_chain.proofs.ChainLemmas.{AreRooted, chained-parts, find-root, find-current, find-bust, find-taker}
use Rattle.blot_chain.proofs.RootedLemmas.{chain-told, live-rooted}

-- ---- the look-ups

pub rooted-live : (index : Index) (slots : List (Slot ChainLink)) → HoldsChains index slots → AreRooted (live slots)
rooted-live index slots holds = live-rooted slots holds.roots holds.newest holds.chained

pub root-held :
    (index : Index) (slots : List (Slot ChainLink)) (key : ExecKey) → HoldsChains index (reverse slots)
    → option_and_then kept_root (newest_live slots (takers_in same_exec index.cells key)) ≡ root_in (links_in (live (reverse slots))) key
root-held index slots key holds =
    ap (λ places. option_and_then kept_root (newest_live slots places)) (holds.indexed.takers key)
    ∙ ap (option_and_then kept_root) (newest_live-find (has_key key) slots)
    ∙ find-root (live (reverse slots)) key (rooted-live index (reverse slots) holds)

pub current-held :
    (index : Index) (slots : List (Slot ChainLink)) (root : ExecKey) → HoldsChains index (reverse slots)
    → option_map (λ item. item.link.number) (newest_live slots (versions_in same_exec index.cells root)) ≡ current_in (links_in (live (reverse slots))) root
current-held index slots root holds =
    ap (λ places. option_map (λ (item : ChainLink). item.link.number) (newest_live slots places)) (holds.indexed.versions root)
    ∙ ap (option_map (λ (item : ChainLink). item.link.number)) (newest_live-find (is_version_of root) slots)
    ∙ find-current (live (reverse slots)) root (rooted-live index (reverse slots) holds)

pub bust-held :
    (index : Index) (slots : List (Slot ChainLink)) (root : ExecKey) → HoldsChains index (reverse slots)
    → option_map (λ item. item.link.number) (newest_live slots (busts_in same_exec index.cells root)) ≡ bust_in (links_in (live (reverse slots))) root
bust-held index slots root holds =
    ap (λ places. option_map (λ (item : ChainLink). item.link.number) (newest_live slots places)) (holds.indexed.busts root)
    ∙ ap (option_map (λ (item : ChainLink). item.link.number)) (newest_live-find (is_bust_of root) slots)
    ∙ find-bust (live (reverse slots)) root (rooted-live index (reverse slots) holds)

pub taker-held :
    (index : Index) (slots : List (Slot ChainLink)) (key : ExecKey) → HoldsChains index (reverse slots)
    → option_map (λ item. item.link.number) (newest_live slots (takers_in same_exec index.cells key)) ≡ taker_in (links_in (live (reverse slots))) key
taker-held index slots key holds =
    ap (λ places. option_map (λ (item : ChainLink). item.link.number) (newest_live slots places)) (holds.indexed.takers key)
    ∙ ap (option_map (λ (item : ChainLink). item.link.number)) (newest_live-find (has_key key) slots)
    ∙ find-taker (live (reverse slots)) key

-- what is found under a key has that key
pub taker-key :
    (index : Index) (slots : List (Slot ChainLink)) (key : ExecKey) → HoldsChains index (reverse slots) → (item : ChainLink)
    → newest_live slots (takers_in same_exec index.cells key) ≡ Some item → key ≡ item.link.key
taker-key index slots key holds item newest =
    let found : find (has_key key) (live (reverse slots)) ≡ Some item =
    sym (newest_live-find (has_key key) slots) ∙ ap (newest_live slots) (sym (holds.indexed.takers key)) ∙ newest in
    sym (same_exec-true item.link.key key (find-passes (has_key key) (live (reverse slots)) item found))

pub taker-keyed :
    (index : Index) (slots : List (Slot ChainLink)) (key : ExecKey) → HoldsChains index (reverse slots)
    → IfSome (newest_live slots (takers_in same_exec index.cells key)) (λ item. key ≡ item.link.key)
taker-keyed index slots key holds = by (newest_live slots (takers_in same_exec index.cells key)) (taker-key index slots key holds)
  where
    by : (found : Option ChainLink) → ((item : ChainLink) → found ≡ Some item → key ≡ item.link.key) → IfSome found (λ item. key ≡ item.link.key)
    by None keyed = tt
    by (Some item) keyed = keyed item refl

-- another index of the same slots
pub held-index : (index new : Index) (slots : List (Slot ChainLink)) → HoldsChains index slots → IsIndexed new slots → HoldsChains new slots
held-index index new slots holds indexed =
    record { fall = holds.fall; roots = holds.roots; indexed = indexed; chained = holds.chained; newest = holds.newest }

-- ---- a number above links, and above what slots hold

pub above-links : (n : ℕ) (rooted : List ChainLink) → is_above_links n (links_in rooted) ≡ is_above link_number n rooted
above-links n rooted = above-through (λ (item : ChainLink). item.link) number_of n rooted

-- ---- one link more

pub none-found : (found : Option ChainLink) → option_map (λ item. item.link.number) found ≡ None → found ≡ None
none-found None none = refl
none-found (Some item) none = cc

pub vacant : (rooted : List ChainLink) (key : ExecKey) → taker_in (links_in rooted) key ≡ None → find (has_key key) rooted ≡ None
vacant rooted key free = none-found (find (has_key key) rooted) (find-taker rooted key ∙ free)

pub held-push :
    (index new : Index) (slots written : List (Slot ChainLink)) (link : Link) (root : ExecKey) (place : ℕ)
    → HoldsChains index (reverse slots) → written ≡ slots ++ record { item = record { link = link; root = root; place = place }; is_live = true } ∷ []
    → IsIndexed new (record { item = record { link = link; root = root; place = place }; is_live = true } ∷ reverse slots)
    → link_refusal (shown_of (reverse slots)).list link.key link.role ≡ None
    → is_above_links link.number (shown_of (reverse slots)).list ≡ true → is_above_links link.number (shown_of (reverse slots)).kept ≡ true
    → chain_under (shown_of (reverse slots)).list link.key link.role ≡ Some root
    → HoldsChains new (reverse written)
held-push index new slots written link root place holds is indexed accepted above above_kept rooted =
    let slot : Slot ChainLink = record { item = record { link = link; root = root; place = place }; is_live = true } in
    let earlier : List (Slot ChainLink) = reverse slots in
    let all : HoldsChains new (slot ∷ earlier) = record {
      fall = and_from _ _
          (above-both link_number link.number earlier (sym (above-links link.number (live earlier)) ∙ above) (sym (above-links link.number (lifted earlier)) ∙ above_kept))
          holds.fall;
      roots = (chain-told earlier link.key link.role root holds.newest (rooted-live index earlier holds) rooted, holds.roots);
      indexed = indexed;
      chained = and_from _ _ (ap is_none accepted) holds.chained;
      newest = (vacant (live earlier) link.key (accepted_key (links_in (live earlier)) link.key link.role accepted).0, holds.newest);
    } in
    subst (HoldsChains new) (sym (ap reverse is ∙ reverse-append slots (slot ∷ []))) all

-- ---- one link less

pub record PopsLink (key : ExecKey) (role : Role) (slot : Slot ChainLink) (earlier : List (Slot ChainLink)) (shown : Shown Link) : Type 0 where
  pub lives : slot.is_live ≡ true
  pub keyed : key ≡ slot.item.link.key
  pub adds : AddsOne key role (shown_of earlier) shown
  pub kept : (shown_of earlier).kept ≡ shown.kept

first_link : (a b : Link) (xs ys : List Link) → a ∷ xs ≡ b ∷ ys → a ≡ b
first_link a b xs ys is = cc

-- a newest link above those that are kept stands in the newest slot
newest-lives :
    (key : ExecKey) (role : Role) (slot : Slot ChainLink) (earlier : List (Slot ChainLink)) → numbers_fall link_number (items (slot ∷ earlier)) ≡ true
    → IsNewest key role (shown_of (slot ∷ earlier)) → slot.is_live ≡ true
newest-lives key role slot earlier fall newest =
    elim (cases_Bool slot.is_live) [
      | inl is ↦ is
      | inr off ↦
          let n : ℕ = newest.0 in
          let own : ℕ = slot.item.link.number in
          let link : Link = record { number = n; key = key; role = role } in
          let kept : is_above link_number n (slot.item ∷ lifted earlier) ≡ true =
          ap (is_above link_number n) (sym (lifted_here slot earlier off)) ∙ sym (above-links n (lifted (slot ∷ earlier))) ∙ newest.3 in
          let below : own < n = ltb-true _ _ (and_parts _ _ kept).0 in
          let lists : links_in (live earlier) ≡ link ∷ newest.1 = ap links_in (sym (live_on slot earlier off)) ∙ newest.2 in
          let above : is_above_links own (link ∷ newest.1) ≡ true =
          ap (is_above_links own) (sym lists) ∙ above-links own (live earlier) ∙ above-side link_number own true earlier (falling-parts link_number slot.item (items earlier) fall).0 in
          let less : n < own = ltb-true _ _ (and_parts _ _ above).0 in
          absurd (omega (arith, below, less))
    ]

pops-link :
    (key : ExecKey) (role : Role) (slot : Slot ChainLink) (earlier : List (Slot ChainLink)) → numbers_fall link_number (items (slot ∷ earlier)) ≡ true
    → IsNewest key role (shown_of (slot ∷ earlier)) → PopsLink key role slot earlier (shown_of (slot ∷ earlier))
pops-link key role slot earlier fall newest =
    let is : slot.is_live ≡ true = newest-lives key role slot earlier fall newest in
    let link : Link = record { number = newest.0; key = key; role = role } in
    let lists : slot.item.link ∷ links_in (live earlier) ≡ link ∷ newest.1 = ap links_in (sym (live_here slot earlier is)) ∙ newest.2 in
    let same : slot.item.link ≡ link = first_link slot.item.link link (links_in (live earlier)) newest.1 lists in
    record {
      lives = is;
      keyed = sym (ap (λ (link : Link). link.key) same);
      adds = (newest.0, ap links_in (live_here slot earlier is) ∙ ap (λ first. first ∷ links_in (live earlier)) same);
      kept = sym (ap links_in (lifted_on slot earlier is));
    }

held-pop :
    (index new : Index) (slot : Slot ChainLink) (earlier : List (Slot ChainLink)) → HoldsChains index (slot ∷ earlier) → slot.is_live ≡ true
    → IsIndexed new earlier → HoldsChains new earlier
held-pop index new slot earlier holds is indexed = record {
  fall = (falling-parts link_number slot.item (items earlier) holds.fall).1;
  roots = holds.roots.1;
  indexed = indexed;
  chained = (chained-parts slot.item.link (links_in (live earlier)) (ap (λ slots. is_chained (links_in slots)) (sym (live_here slot earlier is)) ∙ holds.chained)).1;
  newest = holds.newest.1;
}

-- the last of the slots goes, where they show a newest link of this key and role
module _ (index : Index) (key : ExecKey) (role : Role) (slots rest : List (Slot ChainLink)) (slot : Slot ChainLink) (is : slots ≡ rest ++ slot ∷ []) where
  reversed : reverse slots ≡ slot ∷ reverse rest
  reversed = ap reverse is ∙ reverse-append rest (slot ∷ [])

  pub pops-last : (shown : Shown Link) → HoldsChains index (reverse slots) → shown_of (reverse slots) ≡ shown → IsNewest key role shown → PopsLink key role slot (reverse rest) shown
  pops-last shown holds is_shown newest =
      let whole : shown_of (slot ∷ reverse rest) ≡ shown = ap shown_of (sym reversed) ∙ is_shown in
      subst (PopsLink key role slot (reverse rest)) whole
      (pops-link key role slot (reverse rest) (subst (HoldsChains index) reversed holds).fall (subst (IsNewest key role) (sym whole) newest))

  pub held-last :
      (new : Index) (shown : Shown Link) → HoldsChains index (reverse slots) → shown_of (reverse slots) ≡ shown → IsNewest key role shown
      → (IsIndexed index (slot ∷ reverse rest) → IsIndexed new (reverse rest)) → HoldsChains new (reverse rest)
  held-last new shown holds is_shown newest fewer =
      let all = subst (HoldsChains index) reversed holds in
      held-pop index new slot (reverse rest) all (pops-last shown holds is_shown newest).lives (fewer all.indexed)
