-- What the chains keep where a link is lifted out, or put back.
use Rattle.std.proofs.Common.{option_map, option_and_then, All, IsSome, find, not, nat_eq, nat_lt, ◌&&◌, ◌≡◌, ℕ, ◌<◌, Bool, true, false, List, [], ◌∷◌, Option, Some, None, refl, sym, ap, subst, ◌∙◌, inl, inr, arith, eqb-true, le-ltb, ltb-false, ltb-true}
use Rattle.std.specs.List.{list_all}
use Rattle.std.proofs.lemmas.Bool.{cases_Bool, and_from, and_parts}
use Rattle.std.proofs.lemmas.List.Folds.{list_all-map}
use Rattle.blot_types.specs.declared.{keys.ExecKey.ExecKey, link.Link.Link, link.Role.Role}
use Rattle.blot_types.specs.declared.link.Role.TheVariants.{Begins, Corrects, Busts}
use Rattle.blot_types.specs.Chains.{is_chained}
use Rattle.blot_types.specs.Keys.{same_exec}
use Rattle.blot_types.proofs.ChainLemmas.{accepted_key, clash, differing}
use Rattle.blot_types.proofs.KeyLemmas.{same_exec-sym}
use Rattle.blot_types.proofs.GeneralLemmas.{and-not}
use Rattle.blot_places.specs.declared.slots.Slot.{Slot}
use Rattle.blot_places.specs.Shown.{item_at, lifted_out as item_lifted_out, shown_of as items_shown}
use Rattle.blot_places.specs.Slots.{is_above, items, lifted, live, mark, marked, numbers_fall}
use Rattle.blot_places.proofs.MarkLemmas.{all-side, at-all, at-apart, falling-side, items-marked, mark-at, mark-item, mark-off, marked-below, marked-into, marked-out, places-marked, shown-lifted, shown-put_back}
use Rattle.blot_places.proofs.ShownLemmas.{above-more, at-below, at-lifted, at-on, at-through, falling-parts, lifted-through, none-at, none-with_some, none-without, put_back-lifted, put_back-through, through}
use Rattle.blot_places.proofs.SlotLemmas.{lifted_here, lifted_on, live_here, live_on}
use Rattle.blot_chain.specs.declared.{index.Index.Index, chain_link.ChainLink.ChainLink}
use Rattle.blot_chain.specs.Holds.{HoldsChains, shown_of}
use Rattle.blot_chain.specs.Index.{IsIndexed, IsPlaced}
use Rattle.blot_chain.specs.ChainLinks.{HaveRoots, NewestLive, has_key, is_bust_of, is_version_of, kept_root, link_number, links_in, slot_chain}
use Rattle.blot_chain.specs.Steps.{CanReturn, is_untaken_above, lifted_out, link_at, number_of, put_back}
use Rattle.blot_chain.proofs.ChainLemmas.{chained-parts}
use Rattle.blot_chain.proofs.HoldsLemmas.{vacant}

abbrev link_of : ChainLink → Link
link_of item = item.link

-- ---- what reads the links and roots alone stays

module _ (n : ℕ) (b : Bool) where
  indexed-marked : (index : Index) (slots : List (Slot ChainLink)) → IsIndexed index slots → IsIndexed index (marked link_number n b slots)
  indexed-marked index slots indexed = record {
    takers = λ key. indexed.takers key ∙ sym (places-marked link_number n b (has_key key) slots);
    versions = λ root. indexed.versions root ∙ sym (places-marked link_number n b (is_version_of root) slots);
    busts = λ root. indexed.busts root ∙ sym (places-marked link_number n b (is_bust_of root) slots);
    placed = subst (All (IsPlaced index.cells)) (sym (items-marked link_number n b slots)) indexed.placed;
  }

  root-marked : (slots : List (Slot ChainLink)) (key : ExecKey) → option_and_then kept_root (find (has_key key) (items (marked link_number n b slots))) ≡ option_and_then kept_root (find (has_key key) (items slots))
  root-marked slots key = ap (λ rooted. option_and_then kept_root (find (has_key key) rooted)) (items-marked link_number n b slots)

  chain-marked : (earlier : List (Slot ChainLink)) (key : ExecKey) (role : Role) → slot_chain (marked link_number n b earlier) key role ≡ slot_chain earlier key role
  chain-marked earlier key Begins = refl
  chain-marked earlier key (Corrects reference) = root-marked earlier reference
  chain-marked earlier key (Busts reference) = root-marked earlier reference

  roots-marked : (slots : List (Slot ChainLink)) → HaveRoots slots → HaveRoots (marked link_number n b slots)
  roots-marked [] roots = tt
  roots-marked (slot ∷ earlier) roots = (
    subst (λ (item : ChainLink). slot_chain (marked link_number n b earlier) item.link.key item.link.role ≡ Some item.root) (sym (mark-item link_number n b slot))
        (chain-marked earlier slot.item.link.key slot.item.link.role ∙ roots.0),
    roots-marked earlier roots.1,
  )

-- ---- of the slots of a key none but the newest is live

newest-lifted : (n : ℕ) (slots : List (Slot ChainLink)) → NewestLive slots → NewestLive (marked link_number n false slots)
newest-lifted n [] newest = tt
newest-lifted n (slot ∷ earlier) newest = (
  subst (λ (item : ChainLink). find (has_key item.link.key) (live (marked link_number n false earlier)) ≡ None) (sym (mark-item link_number n false slot))
      (ap (find (has_key slot.item.link.key)) (marked-out link_number n false earlier) ∙ none-without (has_key slot.item.link.key) link_number n (live earlier) newest.0),
  newest-lifted n earlier newest.1,
)

-- what is of a number has this key
abbrev HasKeyAt : ℕ → ExecKey → List (Slot ChainLink) → Type 0
HasKeyAt n key slots = (item : ChainLink) → item_at link_number n (items slots) ≡ Some item → item.link.key ≡ key

key-rest : (n : ℕ) (key : ExecKey) (slot : Slot ChainLink) (earlier : List (Slot ChainLink)) → numbers_fall link_number (items (slot ∷ earlier)) ≡ true → HasKeyAt n key (slot ∷ earlier) → HasKeyAt n key earlier
key-rest n key slot earlier fall keys item found =
    elim (cases_Bool (nat_eq (link_number slot.item) n)) [
      | inl is ↦
          let below = subst (λ k. is_above link_number k (items earlier) ≡ true) (eqb-true _ _ is) (falling-parts link_number slot.item (items earlier) fall).0 in
          absurd (clash (sym found ∙ at-below link_number n (items earlier) below))
      | inr other ↦ keys item (at-on link_number n slot.item (items earlier) other ∙ found)
    ]

untaken-rest : (n : ℕ) (key : ExecKey) (slot : Slot ChainLink) (earlier : List (Slot ChainLink)) → is_untaken_above n key (links_in (lifted (slot ∷ earlier))) ≡ true → is_untaken_above n key (links_in (lifted earlier)) ≡ true
untaken-rest n key slot earlier untaken =
    elim (cases_Bool slot.is_live) [
      | inl is ↦ ap (λ rooted. is_untaken_above n key (links_in rooted)) (sym (lifted_on slot earlier is)) ∙ untaken
      | inr off ↦ (and_parts _ _ (ap (λ rooted. is_untaken_above n key (links_in rooted)) (sym (lifted_here slot earlier off)) ∙ untaken)).1
    ]

unmarked-number : (n : ℕ) (slot : Slot ChainLink) → (mark link_number n true slot).is_live ≡ false → nat_eq (link_number slot.item) n ≡ false
unmarked-number n slot off = elim (cases_Bool (nat_eq (link_number slot.item) n)) [
  | inl it ↦ absurd (differing (mark-at link_number n true slot it) off)
  | inr not_it ↦ not_it
]

-- where a link comes back, a lifted slot's key stays vacant before it
vacant-put_back :
    (n : ℕ) (key : ExecKey) (slot : Slot ChainLink) (earlier : List (Slot ChainLink)) → numbers_fall link_number (items (slot ∷ earlier)) ≡ true
    → find (has_key slot.item.link.key) (live earlier) ≡ None → HasKeyAt n key earlier → is_untaken_above n key (links_in (lifted (slot ∷ earlier))) ≡ true
    → slot.is_live ≡ false → find (has_key slot.item.link.key) (live (marked link_number n true earlier)) ≡ None
vacant-put_back n key slot earlier fall none keys untaken off =
    let falling = falling-parts link_number slot.item (items earlier) fall in
    let own : ExecKey = slot.item.link.key in
    elim (cases_Bool (nat_lt n slot.item.link.number)) [
      | inl less ↦
          let all : is_untaken_above n key (slot.item.link ∷ links_in (lifted earlier)) ≡ true =
          ap (λ rooted. is_untaken_above n key (links_in rooted)) (sym (lifted_here slot earlier off)) ∙ untaken in
          let parts : (not (nat_lt n slot.item.link.number && same_exec own key) ≡ true) × (is_untaken_above n key (links_in (lifted earlier)) ≡ true) = and_parts _ _ all in
          let apart : same_exec key own ≡ false = same_exec-sym key own ∙ and-not _ _ less parts.0 in
          ap (find (has_key own)) (marked-into link_number n true earlier falling.1)
          ∙ none-with_some (has_key own) link_number (item_at link_number n (lifted earlier)) (live earlier) none
          (λ item found. ap (λ k. same_exec k own) (keys item (at-all link_number n false earlier item falling.1 found)) ∙ apart)
      | inr more ↦
          let below = above-more link_number slot.item.link.number n (items earlier) (ltb-false _ _ more) falling.0 in
          ap (λ slots. find (has_key own) (live slots)) (marked-below link_number n true earlier below) ∙ none
    ]

newest-put_back :
    (n : ℕ) (key : ExecKey) (slots : List (Slot ChainLink)) → numbers_fall link_number (items slots) ≡ true → NewestLive slots → HasKeyAt n key slots
    → is_untaken_above n key (links_in (lifted slots)) ≡ true → is_chained (links_in (live (marked link_number n true slots))) ≡ true
    → NewestLive (marked link_number n true slots)
newest-put_back n key [] fall newest keys untaken chained = tt
newest-put_back n key (slot ∷ earlier) fall newest keys untaken chained =
    let gone : List (Slot ChainLink) = marked link_number n true earlier in
    let first : Slot ChainLink = mark link_number n true slot in
    let falling = falling-parts link_number slot.item (items earlier) fall in
    let others = key-rest n key slot earlier fall keys in
    let rest = λ (legal : is_chained (links_in (live gone)) ≡ true). newest-put_back n key earlier falling.1 newest.1 others (untaken-rest n key slot earlier untaken) legal in
    elim (cases_Bool first.is_live) [
      | inl is ↦
          let all : is_chained (first.item.link ∷ links_in (live gone)) ≡ true = ap (λ rooted. is_chained (links_in rooted)) (sym (live_here first gone is)) ∙ chained in
          let parts = chained-parts first.item.link (links_in (live gone)) all in
          (vacant (live gone) first.item.link.key (accepted_key (links_in (live gone)) first.item.link.key first.item.link.role parts.0).0, rest parts.1)
      | inr off ↦
          let was : slot.is_live ≡ false = sym (mark-off link_number n true slot (unmarked-number n slot off)) ∙ off in (
            subst (λ (item : ChainLink). find (has_key item.link.key) (live gone) ≡ None) (sym (mark-item link_number n true slot)) (vacant-put_back n key slot earlier fall newest.0 others untaken was),
            rest (ap (λ rooted. is_chained (links_in rooted)) (sym (live_on first gone off)) ∙ chained),
          )
    ]

-- ---- no kept link above a lifted one takes up its key

abbrev is_untaken : ℕ → ExecKey → ChainLink → Bool
is_untaken n key item = not (nat_lt n item.link.number && same_exec item.link.key key)

untaken-apart : (above same : Bool) → same ≡ false → not (above && same) ≡ true
untaken-apart true false is = refl
untaken-apart false false is = refl
untaken-apart above true is = cc

untaken-low : (above same : Bool) → above ≡ false → not (above && same) ≡ true
untaken-low false same is = refl
untaken-low true same is = cc

untaken-below : (n : ℕ) (key : ExecKey) (rooted : List ChainLink) → is_above link_number n rooted ≡ true → list_all (is_untaken n key) rooted ≡ true
untaken-below n key [] below = refl
untaken-below n key (item ∷ rooted) below =
    let parts : (nat_lt item.link.number n ≡ true) × (is_above link_number n rooted ≡ true) = and_parts _ _ below in
    let less : item.link.number < n = ltb-true _ _ parts.0 in
    and_from _ _ (untaken-low (nat_lt n item.link.number) (same_exec item.link.key key) (le-ltb n item.link.number (omega arith))) (untaken-below n key rooted parts.1)

all-untaken :
    (n : ℕ) (item : ChainLink) (slots : List (Slot ChainLink)) → numbers_fall link_number (items slots) ≡ true → NewestLive slots → item_at link_number n (live slots) ≡ Some item
    → list_all (is_untaken n item.link.key) (items slots) ≡ true
all-untaken n item [] fall newest found = refl
all-untaken n item (slot ∷ earlier) fall newest found =
    let falling = falling-parts link_number slot.item (items earlier) fall in
    elim (cases_Bool (nat_eq (link_number slot.item) n)) [
      | inl it ↦
          let its : slot.item.link.number ≡ n = eqb-true _ _ it in
          let below : is_above link_number n (items earlier) ≡ true = subst (λ k. is_above link_number k (items earlier) ≡ true) its falling.0 in
          and_from _ _ (untaken-low (nat_lt n slot.item.link.number) (same_exec slot.item.link.key item.link.key) (le-ltb n slot.item.link.number (omega (arith, its))))
          (untaken-below n item.link.key (items earlier) below)
      | inr other ↦
          let behind : item_at link_number n (live earlier) ≡ Some item = elim (cases_Bool slot.is_live) [
            | inl is ↦ sym (ap (item_at link_number n) (live_here slot earlier is) ∙ at-on link_number n slot.item (live earlier) other) ∙ found
            | inr off ↦ sym (ap (item_at link_number n) (live_on slot earlier off)) ∙ found
          ] in
          let apart : same_exec slot.item.link.key item.link.key ≡ false =
          same_exec-sym slot.item.link.key item.link.key ∙ none-at (has_key slot.item.link.key) link_number n (live earlier) item newest.0 behind in
          and_from _ _ (untaken-apart (nat_lt n slot.item.link.number) (same_exec slot.item.link.key item.link.key) apart) (all-untaken n item earlier falling.1 newest.1 behind)
    ]

-- ---- the calls

some-item : (found : Option ChainLink) → IsSome (option_map link_of found) → (item : ChainLink) × (found ≡ Some item)
some-item None some = cc
some-item (Some item) some = (item, refl)

its-link : (found : Option ChainLink) (link : Link) → option_map link_of found ≡ Some link → (item : ChainLink) × (found ≡ Some item) × (item.link ≡ link)
its-link None link is = cc
its-link (Some item) link is = (item, refl, cc)

-- a listed link stands in a live slot
listed-item : (n : ℕ) (slots : List (Slot ChainLink)) → IsSome (link_at n (shown_of slots).list) → (item : ChainLink) × (item_at link_number n (live slots) ≡ Some item)
listed-item n slots some = some-item (item_at link_number n (live slots)) (subst IsSome (at-through link_of number_of n (live slots)) some)

pub shown-lift : (n : ℕ) (slots : List (Slot ChainLink)) → numbers_fall link_number (items slots) ≡ true → shown_of (marked link_number n false slots) ≡ lifted_out n (shown_of slots)
shown-lift n slots fall = ap (through link_of number_of) (shown-lifted link_number n slots fall) ∙ lifted-through link_of number_of n (items_shown slots)

pub shown-return : (n : ℕ) (slots : List (Slot ChainLink)) → numbers_fall link_number (items slots) ≡ true → shown_of (marked link_number n true slots) ≡ put_back n (shown_of slots)
shown-return n slots fall = ap (through link_of number_of) (shown-put_back link_number n slots fall) ∙ put_back-through link_of number_of n (items_shown slots)

-- put back, a lifted link stands where it stood
pub lift-back : (n : ℕ) (slots : List (Slot ChainLink)) → numbers_fall link_number (items slots) ≡ true → IsSome (link_at n (shown_of slots).list) → put_back n (lifted_out n (shown_of slots)) ≡ shown_of slots
lift-back n slots fall some =
    let found = listed-item n slots some in
    ap (put_back n) (sym (lifted-through link_of number_of n (items_shown slots)))
    ∙ sym (put_back-through link_of number_of n (item_lifted_out link_number n (items_shown slots)))
    ∙ ap (through link_of number_of)
    (put_back-lifted link_number n (items_shown slots) found.0 (falling-side link_number true slots fall) found.1 (at-apart link_number n true slots found.0 fall found.1))

pub lift-kept :
    (n : ℕ) (slots : List (Slot ChainLink)) → numbers_fall link_number (items slots) ≡ true → NewestLive slots → IsSome (link_at n (shown_of slots).list)
    → CanReturn n (shown_of (marked link_number n false slots))
lift-kept n slots fall newest some =
    let found = listed-item n slots some in
    let item : ChainLink = found.0 in
    let gone : List (Slot ChainLink) = marked link_number n false slots in
    let kept : item_at link_number n (lifted gone) ≡ Some item =
    ap (λ shown. item_at link_number n shown.kept) (shown-lifted link_number n slots fall)
    ∙ at-lifted link_number n (items_shown slots) item found.1 (at-apart link_number n true slots item fall found.1) in
    let untaken : list_all (is_untaken n item.link.key) (items gone) ≡ true =
    ap (list_all (is_untaken n item.link.key)) (items-marked link_number n false slots) ∙ all-untaken n item slots fall newest found.1 in
    record {
      link = item.link;
      kept = at-through link_of number_of n (lifted gone) ∙ ap (option_map link_of) kept;
      untaken = list_all-map (λ (link : Link). not (nat_lt n link.number && same_exec link.key item.link.key)) link_of (lifted gone)
          ∙ all-side (is_untaken n item.link.key) false gone untaken;
    }

pub held-lift :
    (index : Index) (slots : List (Slot ChainLink)) (n : ℕ) → HoldsChains index slots → is_chained (lifted_out n (shown_of slots)).list ≡ true
    → HoldsChains index (marked link_number n false slots)
held-lift index slots n holds legal = record {
  fall = ap (numbers_fall link_number) (items-marked link_number n false slots) ∙ holds.fall;
  roots = roots-marked n false slots holds.roots;
  indexed = indexed-marked n false index slots holds.indexed;
  chained = ap (λ shown. is_chained shown.list) (shown-lift n slots holds.fall) ∙ legal;
  newest = newest-lifted n slots holds.newest;
}

kept-key : (n : ℕ) (slots : List (Slot ChainLink)) → numbers_fall link_number (items slots) ≡ true → (kept : CanReturn n (shown_of slots)) → HasKeyAt n kept.link.key slots
kept-key n slots fall kept item found =
    let own = its-link (item_at link_number n (lifted slots)) kept.link (sym (at-through link_of number_of n (lifted slots)) ∙ kept.kept) in
    let same = same_item item own.0 (sym found ∙ at-all link_number n false slots own.0 fall own.1) in
    ap (λ (item : ChainLink). item.link.key) same ∙ ap (λ (link : Link). link.key) own.2
  where
    same_item : (a b : ChainLink) → Some a ≡ Some b → a ≡ b
    same_item a b same = cc

pub held-return :
    (index : Index) (slots : List (Slot ChainLink)) (n : ℕ) → HoldsChains index slots → CanReturn n (shown_of slots) → is_chained (put_back n (shown_of slots)).list ≡ true
    → HoldsChains index (marked link_number n true slots)
held-return index slots n holds kept legal =
    let chained = ap (λ shown. is_chained shown.list) (shown-return n slots holds.fall) ∙ legal in
    record {
      fall = ap (numbers_fall link_number) (items-marked link_number n true slots) ∙ holds.fall;
      roots = roots-marked n true slots holds.roots;
      indexed = indexed-marked n true index slots holds.indexed;
      chained = chained;
      newest = newest-put_back n kept.link.key slots holds.fall holds.newest (kept-key n slots holds.fall kept) kept.untaken chained;
    }
