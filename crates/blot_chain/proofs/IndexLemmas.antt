-- What is named where the places of one link come and go, and the stack that stands under a key.
use Rattle.std.proofs.Common.{◌≡◌, ℕ, Bool, true, false, ◌&&◌, List, Option, Some, None, reverse, refl, sym, ap, subst, ◌∙◌, All, ◌∷◌, length, if◌then◌else◌, IsSomeAnd}
use Rattle.std.proofs.lemmas.List.{reverse-reverse}
use Rattle.std.proofs.lemmas.List.Elements.{All-cons, All-tail, All-weaker}
use Rattle.blot_types.specs.declared.{keys.ExecKey.ExecKey, link.Role.Role}
use Rattle.blot_types.specs.declared.link.Role.TheVariants.{Begins, Corrects, Busts}
use Rattle.blot_types.specs.Keys.{same_exec}
use Rattle.blot_types.specs.Chains.{brings_version}
use Rattle.blot_types.proofs.KeyLemmas.{same_exec-true}
use Rattle.blot_places.specs.declared.slots.Slot.{Slot}
use Rattle.blot_places.specs.Indexed.{NamesOneLess, NamesOneMore, NamesSame}
use Rattle.blot_places.specs.Slots.{items, places_by}
use Rattle.blot_chain.specs.declared.cell.Relation.TheVariants.{First, Taker}
use Rattle.blot_chain.specs.declared.{index.Index.Index, chain_link.ChainLink.ChainLink}
use Rattle.blot_chain.specs.Cells.{CellsByKey, KeepsPlaces, PutsAt, PutsUnder, SameUnder, TakesUnder, busts_in, has_bust, has_taker, has_version, key_at, one_less, one_more, relation_in_chain, takers_in, versions_in}
use Rattle.blot_chain.specs.Index.{IsIndexed, IsPlaced}
use Rattle.blot_chain.specs.ChainLinks.{has_key, is_bust, is_bust_of, is_version_of}
use Rattle.blot_chain.specs.RootedLink.{begun}

-- ---- a stack that stands newest first elsewhere

pub turned : (stack places : List ℕ) → reverse stack ≡ places → stack ≡ reverse places
turned stack places is = sym (reverse-reverse stack) ∙ ap reverse is

-- ---- where a link stands to the key of its root

pub taker-in_chain : (role : Role) → has_taker (relation_in_chain role) ≡ false
taker-in_chain Begins = refl
taker-in_chain (Corrects reference) = refl
taker-in_chain (Busts reference) = refl

version-in_chain : (role : Role) → has_version (relation_in_chain role) ≡ brings_version role
version-in_chain Begins = refl
version-in_chain (Corrects reference) = refl
version-in_chain (Busts reference) = refl

bust-in_chain : (role : Role) → has_bust (relation_in_chain role) ≡ is_bust role
bust-in_chain Begins = refl
bust-in_chain (Corrects reference) = refl
bust-in_chain (Busts reference) = refl

-- ---- the place of a key's cell

pub reached-key : (found : Option ExecKey) (key : ExecKey) → IsSomeAnd found (λ there. same_exec key there ≡ true) → found ≡ Some key
reached-key None key is = absurd is
reached-key (Some there) key is = ap Some (sym (same_exec-true key there is))

all-placed : (old new : CellsByKey ExecKey) (linked : List ChainLink) → KeepsPlaces old new → All (IsPlaced old) linked → All (IsPlaced new) linked
all-placed old new linked keeps placed = All-weaker (IsPlaced old) (IsPlaced new) (λ item is. keeps item.place item.link.key is) linked placed

-- ---- the same places

-- the cells have the places that they had, and stand where they stood
pub record Stays (old new : Index) : Type 0 where
  pub same : SameUnder same_exec old.cells new.cells
  pub keeps : KeepsPlaces old.cells new.cells

pub stays-then : (old mid new : Index) → Stays old mid → Stays mid new → Stays old new
stays-then old mid new first second = record {
  same = record {
    takers = λ key. second.same.takers key ∙ first.same.takers key;
    versions = λ root. second.same.versions root ∙ first.same.versions root;
    busts = λ root. second.same.busts root ∙ first.same.busts root;
  };
  keeps = λ place key is. second.keeps place key (first.keeps place key is);
}

pub same-indexed : (old new : Index) → Stays old new → NamesSame IsIndexed old new
same-indexed old new stays = λ slots indexed. record {
  takers = λ key. stays.same.takers key ∙ indexed.takers key;
  versions = λ root. stays.same.versions root ∙ indexed.versions root;
  busts = λ root. stays.same.busts root ∙ indexed.busts root;
  placed = all-placed old.cells new.cells (items slots) stays.keeps indexed.placed;
}

-- ---- one more

record OneMore (item : ChainLink) (place : ℕ) (old new : Index) : Type 0 where
  takers : (key : ExecKey) → takers_in same_exec new.cells key ≡ one_more (has_key key item) place (takers_in same_exec old.cells key)
  versions : (root : ExecKey) → versions_in same_exec new.cells root ≡ one_more (is_version_of root item) place (versions_in same_exec old.cells root)
  busts : (root : ExecKey) → busts_in same_exec new.cells root ≡ one_more (is_bust_of root item) place (busts_in same_exec old.cells root)

named-more :
    (slot : Slot ChainLink) (place : ℕ) (old new : Index) → OneMore slot.item place old new → KeepsPlaces old.cells new.cells → IsPlaced old.cells slot.item
    → NamesOneMore IsIndexed slot place old new
named-more slot place old new more keeps is = λ slots indexed at. record {
  takers = λ key. more.takers key ∙ (λ i. one_more (has_key key slot.item) (at i) (indexed.takers key i));
  versions = λ root. more.versions root ∙ (λ i. one_more (is_version_of root slot.item) (at i) (indexed.versions root i));
  busts = λ root. more.busts root ∙ (λ i. one_more (is_bust_of root slot.item) (at i) (indexed.busts root i));
  placed = All-cons (IsPlaced new.cells) slot.item (items slots) (keeps slot.item.place slot.item.link.key is)
      (all-placed old.cells new.cells (items slots) keeps indexed.placed);
}

-- a Trade's, in the cell of its key
first-more :
    (number : ℕ) (key : ExecKey) (at : ℕ) (item : ChainLink) (place : ℕ) (old new : Index) → item ≡ begun number key at
    → PutsUnder same_exec First key place old.cells new.cells → OneMore item place old new
first-more number key at item place old new is puts =
    subst (λ (item : ChainLink). OneMore item place old new) (sym is) (record { takers = puts.takers; versions = puts.versions; busts = puts.busts })

pub first-named :
    (slot : Slot ChainLink) (place : ℕ) (old new : Index) → slot.item ≡ begun slot.item.link.number slot.item.link.key slot.item.place
    → PutsAt same_exec First slot.item.place place old.cells new.cells → KeepsPlaces old.cells new.cells → IsPlaced old.cells slot.item
    → NamesOneMore IsIndexed slot place old new
first-named slot place old new begins puts keeps is =
    let item = slot.item in
    named-more slot place old new (first-more item.link.number item.link.key item.place item place old new begins (puts item.link.key is)) keeps is

-- another link's, in the cell of its root and in that of its key
pub chain-named :
    (slot : Slot ChainLink) (place chain : ℕ) (old roomy rooted new : Index)
    → Stays old roomy → IsPlaced old.cells slot.item → key_at roomy.cells chain ≡ Some slot.item.root
    → PutsAt same_exec (relation_in_chain slot.item.link.role) chain place roomy.cells rooted.cells → KeepsPlaces roomy.cells rooted.cells
    → PutsAt same_exec Taker slot.item.place place rooted.cells new.cells → KeepsPlaces rooted.cells new.cells
    → NamesOneMore IsIndexed slot place old new
chain-named slot place chain old roomy rooted new stays is at puts_chain keeps_chain puts_taker keeps_taker =
    let item = slot.item in
    let own = keeps_chain item.place item.link.key (stays.keeps item.place item.link.key is) in
    let versioned = puts_chain item.root at in
    let taker = puts_taker item.link.key own in
    let more : OneMore item place old new = record {
      takers = λ key.
          taker.takers key
          ∙ ap (one_more (has_key key item) place)
          (versioned.takers key ∙ ap (λ b. one_more (b && same_exec item.root key) place (takers_in same_exec roomy.cells key)) (taker-in_chain item.link.role)
          ∙ stays.same.takers key);
      versions = λ root.
          taker.versions root ∙ versioned.versions root
          ∙ (λ i. one_more (version-in_chain item.link.role i && same_exec item.root root) place (stays.same.versions root i));
      busts = λ root.
          taker.busts root ∙ versioned.busts root
          ∙ (λ i. one_more (bust-in_chain item.link.role i && same_exec item.root root) place (stays.same.busts root i));
    } in
    named-more slot place old new more
    (λ other key there. keeps_taker other key (keeps_chain other key (stays.keeps other key there))) is

-- ---- one less

record OneLess (item : ChainLink) (old new : Index) : Type 0 where
  takers : (key : ExecKey) → takers_in same_exec new.cells key ≡ one_less (has_key key item) (takers_in same_exec old.cells key)
  versions : (root : ExecKey) → versions_in same_exec new.cells root ≡ one_less (is_version_of root item) (versions_in same_exec old.cells root)
  busts : (root : ExecKey) → busts_in same_exec new.cells root ≡ one_less (is_bust_of root item) (busts_in same_exec old.cells root)

less-more : (wanted : Bool) (place : ℕ) (places : List ℕ) → one_less wanted (if wanted then place ∷ places else places) ≡ places
less-more true place places = refl
less-more false place places = refl

named-less : (slot : Slot ChainLink) (old new : Index) → OneLess slot.item old new → KeepsPlaces old.cells new.cells → NamesOneLess IsIndexed slot old new
named-less slot old new less keeps = λ slots indexed. record {
  takers = λ key.
      less.takers key ∙ ap (one_less (has_key key slot.item)) (indexed.takers key) ∙ less-more (has_key key slot.item) (length slots) (places_by (has_key key) slots);
  versions = λ root.
      less.versions root ∙ ap (one_less (is_version_of root slot.item)) (indexed.versions root)
      ∙ less-more (is_version_of root slot.item) (length slots) (places_by (is_version_of root) slots);
  busts = λ root.
      less.busts root ∙ ap (one_less (is_bust_of root slot.item)) (indexed.busts root)
      ∙ less-more (is_bust_of root slot.item) (length slots) (places_by (is_bust_of root) slots);
  placed = all-placed old.cells new.cells (items slots) keeps (All-tail (IsPlaced old.cells) slot.item (items slots) indexed.placed);
}

-- a Trade's
first-less :
    (number : ℕ) (key : ExecKey) (at : ℕ) (item : ChainLink) (old new : Index) → item ≡ begun number key at
    → TakesUnder same_exec First key old.cells new.cells → OneLess item old new
first-less number key at item old new is takes =
    subst (λ (item : ChainLink). OneLess item old new) (sym is) (record { takers = takes.takers; versions = takes.versions; busts = takes.busts })

pub first-taken :
    (slot : Slot ChainLink) (key : ExecKey) (old new : Index) → slot.item ≡ begun slot.item.link.number slot.item.link.key slot.item.place → key ≡ slot.item.link.key
    → TakesUnder same_exec First key old.cells new.cells → KeepsPlaces old.cells new.cells → NamesOneLess IsIndexed slot old new
first-taken slot key old new begins its takes keeps =
    let item = slot.item in
    let takes_own = subst (λ key. TakesUnder same_exec First key old.cells new.cells) its takes in
    named-less slot old new (first-less item.link.number item.link.key item.place item old new begins takes_own) keeps

-- another link's
pub chain-taken :
    (slot : Slot ChainLink) (key : ExecKey) (old mid new : Index) → key ≡ slot.item.link.key
    → TakesUnder same_exec Taker key old.cells mid.cells → KeepsPlaces old.cells mid.cells
    → TakesUnder same_exec (relation_in_chain slot.item.link.role) slot.item.root mid.cells new.cells → KeepsPlaces mid.cells new.cells
    → NamesOneLess IsIndexed slot old new
chain-taken slot key old mid new its taker keeps_taker chain keeps_chain =
    let item = slot.item in
    let own = subst (λ key. TakesUnder same_exec Taker key old.cells mid.cells) its taker in
    let less : OneLess item old new = record {
      takers = λ key.
          chain.takers key ∙ ap (λ b. one_less (b && same_exec item.root key) (takers_in same_exec mid.cells key)) (taker-in_chain item.link.role) ∙ own.takers key;
      versions = λ root. chain.versions root ∙ (λ i. one_less (version-in_chain item.link.role i && same_exec item.root root) (own.versions root i));
      busts = λ root. chain.busts root ∙ (λ i. one_less (bust-in_chain item.link.role i && same_exec item.root root) (own.busts root i));
    } in
    named-less slot old new less (λ place key there. keeps_chain place key (keeps_taker place key there))
