-- What the look-ups on either side of a number find.
use Rattle.std.proofs.Common.{◌≡◌, ℕ, ◌<◌, ◌≤◌, Bool, true, false, cond, ◌&&◌, ◌||◌, List, [], ◌∷◌, reverse, Option, Some, None, refl, sym, ap, subst, ◌∙◌, inl, inr, arith, All, filter, find, nat_eq, nat_lt, option_and_then, option_map, eqb-true, lt-ltb, ltb-true}
use Rattle.std.specs.List.{cons_option}
use Rattle.std.specs.Option.{option_or}
use Rattle.std.proofs.lemmas.Bool.{and_parts, cases_Bool}
use Rattle.std.proofs.lemmas.List.{reverse-reverse}
use Rattle.std.proofs.lemmas.List.Elements.{All-cons, All-nil, All-weaker}
use Rattle.std.proofs.lemmas.Option.{same_Some}
use Rattle.blot_types.specs.declared.{keys.ExecKey.ExecKey, link.Link.Link, link.Role.Role}
use Rattle.blot_types.specs.declared.link.Role.TheVariants.{Begins, Corrects, Busts}
use Rattle.blot_types.specs.Chains.{current_in, first_needing_link, first_referring, is_chained, own_root, refers_to, root_in, version_after_in, version_before_in, brings_version}
use Rattle.blot_types.specs.Keys.{same_exec}
use Rattle.blot_types.specs.Lesser.{lesser}
use Rattle.blot_types.specs.Refusals.{first_of}
use Rattle.blot_types.proofs.ChainLemmas.{accepted_key, clash}
use Rattle.blot_types.proofs.KeyLemmas.{same_exec-refl, same_exec-sym, same_exec-true}
use Rattle.blot_types.specs.StandingVersion.{chain_under}
use Rattle.blot_types.proofs.GeneralLemmas.{and-false, found-All, and-either}
use Rattle.blot_places.specs.declared.slots.Slot.{Slot}
use Rattle.blot_places.specs.Shown.{item_at}
use Rattle.blot_places.specs.Slots.{BelowFirst, UpToFirst, is_above, items, live, live_item, live_items, numbers_fall, oldest_above, places_above, places_by}
use Rattle.blot_places.proofs.AroundLemmas.{find-above, newest-below, oldest-above, parted-above, parted-below}
use Rattle.blot_places.proofs.FirstLemmas.{first-agree, first-either, first-more, first-through, first_by}
use Rattle.blot_places.proofs.MarkLemmas.{at-all, falling-side}
use Rattle.blot_places.proofs.ShownLemmas.{at-here, at-on, at-through, falling-parts, none-at}
use Rattle.blot_chain.specs.declared.{index.Index.Index, chain_link.ChainLink.ChainLink}
use Rattle.blot_chain.specs.Cells.{busts_in, versions_in}
use Rattle.blot_chain.specs.Holds.{HoldsChains}
use Rattle.blot_chain.specs.Index.{IsPlaced, newest_below, number_if_referring, referring_at}
use Rattle.blot_chain.specs.ChainLinks.{has_key, is_bust, is_bust_of, is_version_of, kept_root, link_number, links_in, refers}
use Rattle.blot_chain.specs.Steps.{number_of}
use Rattle.blot_chain.proofs.ChainLemmas.{AreRooted, chained-parts, find-current, kept_root-own, version-is_root}
use Rattle.blot_chain.proofs.HoldsLemmas.{rooted-live, vacant}

abbrev link_of : ChainLink → Link
link_of item = item.link

-- ---- the stacks

-- the places of the versions of a chain, and of its Busts, oldest first
abbrev pub versions_under : Index → ExecKey → List ℕ
versions_under index root = reverse (versions_in same_exec index.cells root)

abbrev pub busts_under : Index → ExecKey → List ℕ
busts_under index root = reverse (busts_in same_exec index.cells root)

stack_is : (places all : List ℕ) → places ≡ all → reverse (reverse places) ≡ all
stack_is places all is = reverse-reverse places ∙ is

module _ (index : Index) (slots : List (Slot ChainLink)) (root : ExecKey) (n : ℕ) (holds : HoldsChains index (reverse slots)) where
  abbrev versions : List ℕ
  versions = versions_under index root

  abbrev busts : List ℕ
  busts = busts_under index root

  versions_are : reverse versions ≡ places_by (is_version_of root) (reverse slots)
  versions_are = stack_is _ _ (holds.indexed.versions root)

  busts_are : reverse busts ≡ places_by (is_bust_of root) (reverse slots)
  busts_are = stack_is _ _ (holds.indexed.busts root)

  pub parted-versions : UpToFirst link_number n slots (versions_under index root)
  parted-versions = parted-above link_number n (is_version_of root) slots versions versions_are holds.fall

  pub parted-busts : UpToFirst link_number n slots (busts_under index root)
  parted-busts = parted-above link_number n (is_bust_of root) slots busts busts_are holds.fall

  pub parted-earlier : BelowFirst link_number n slots (versions_under index root)
  parted-earlier = parted-below link_number n (is_version_of root) slots versions versions_are holds.fall

-- ---- the last version below a number

module _ (n : ℕ) where
  abbrev under : ChainLink → Bool
  under item = nat_lt (link_number item) n

  all-under : (bound : ℕ) (rooted : List ChainLink) → bound ≤ n → is_above link_number bound rooted ≡ true → filter under rooted ≡ rooted
  all-under bound [] le above = refl
  all-under bound (item ∷ earlier) le above =
      let parts : (nat_lt (link_number item) bound ≡ true) × (is_above link_number bound earlier ≡ true) = and_parts _ _ above in
      let less : link_number item < bound = ltb-true _ _ parts.0 in
      let below : under item ≡ true = lt-ltb (link_number item) n (omega (arith, less, le)) in
      ap (λ b. cond b (item ∷ filter under earlier) (filter under earlier)) below ∙ ap (λ rest. item ∷ rest) (all-under bound earlier le parts.1)

  -- the links below have their roots too
  rooted-under : (rooted : List ChainLink) → AreRooted rooted → numbers_fall link_number rooted ≡ true → AreRooted (filter under rooted)
  rooted-under [] are fall = tt
  rooted-under (item ∷ earlier) are fall =
      let falling = falling-parts link_number item earlier fall in
      elim (cases_Bool (under item)) [
        | inl below ↦
            let less : link_number item < n = ltb-true _ _ below in
            let whole : filter under (item ∷ earlier) ≡ item ∷ earlier =
            ap (λ b. cond b (item ∷ filter under earlier) (filter under earlier)) below
            ∙ ap (λ rest. item ∷ rest) (all-under (link_number item) earlier (omega (arith, less)) falling.0) in
            subst AreRooted (sym whole) are
        | inr other ↦
            subst AreRooted (sym (ap (λ b. cond b (item ∷ filter under earlier) (filter under earlier)) other)) (rooted-under earlier are.1 falling.1)
      ]

  links-under : (rooted : List ChainLink) → links_in (filter under rooted) ≡ filter (λ (link : Link). nat_lt link.number n) (links_in rooted)
  links-under [] = refl
  links-under (item ∷ earlier) = elim (cases_Bool (under item)) [
    | inl below ↦ rw below (ap (λ rest. item.link ∷ rest) (links-under earlier))
    | inr other ↦ rw other (links-under earlier)
  ]

pub before-held :
    (index : Index) (slots : List (Slot ChainLink)) (root : ExecKey) (n : ℕ) → HoldsChains index (reverse slots)
    → option_map link_number (newest_below n slots (versions_under index root)) ≡ version_before_in (links_in (live (reverse slots))) n root
before-held index slots root n holds =
    let all = live (reverse slots) in
    ap (option_map link_number) (newest-below link_number n (is_version_of root) slots (versions_under index root) (versions_are index slots root n holds))
    ∙ find-current (filter (under n) all) root (rooted-under n all (rooted-live index (reverse slots) holds) (falling-side link_number true (reverse slots) holds.fall))
    ∙ ap (λ links. current_in links root) (links-under n all)

-- ---- the first version above a number

after-rooted :
    (n : ℕ) (root : ExecKey) (rooted : List ChainLink) → AreRooted rooted
    → first_by link_number (λ item. nat_lt n (link_number item) && is_version_of root item) rooted ≡ version_after_in (links_in rooted) n root
after-rooted n root [] are = refl
after-rooted n root (item ∷ earlier) are =
    let test = version-is_root (links_in earlier) item.link.key item.link.role item.root root are.0 in
    first-more link_number (λ item. nat_lt n (link_number item) && is_version_of root item) item earlier
    ∙ ap (λ found. option_or found (cond (nat_lt n (link_number item) && is_version_of root item) (Some (link_number item)) None)) (after-rooted n root earlier are.1)
    ∙ ap (λ b. option_or (version_after_in (links_in earlier) n root) (cond (nat_lt n (link_number item) && b) (Some (link_number item)) None)) test

pub after-held :
    (index : Index) (slots : List (Slot ChainLink)) (root : ExecKey) (n : ℕ) → HoldsChains index (reverse slots)
    → option_map link_number (oldest_above link_number n slots (versions_under index root)) ≡ version_after_in (links_in (live (reverse slots))) n root
after-held index slots root n holds =
    ap (option_map link_number) (oldest-above link_number n (is_version_of root) slots (versions_under index root) (versions_are index slots root n holds))
    ∙ after-rooted n root (live (reverse slots)) (rooted-live index (reverse slots) holds)

-- ---- the first link that refers to a key

found-more :
    (key : ExecKey) (found : Option ChainLink) (rest : List ChainLink) (first : Option ℕ) → first ≡ option_map link_number (find (refers key) rest)
    → option_or (option_and_then (λ item. cond (refers key item) (Some (link_number item)) None) found) first ≡ option_map link_number (find (refers key) (cons_option found rest))
found-more key None rest first is = is
found-more key (Some item) rest first is = elim (cases_Bool (refers key item)) [
  | inl refers_it ↦ rw refers_it refl
  | inr other ↦ rw other is
]

referring-found :
    (slots : List (Slot ChainLink)) (key : ExecKey) (places : List ℕ)
    → first_of (number_if_referring slots key) places ≡ option_map link_number (find (refers key) (live_items slots places))
referring-found slots key [] = refl
referring-found slots key (place ∷ places) =
    found-more key (live_item slots place) (live_items slots places) (first_of (number_if_referring slots key) places) (referring-found slots key places)

-- a link that refers to the key of another is of the other's chain

root-referred : (links : List Link) (own key root : ExecKey) (role : Role) → chain_under links own role ≡ Some root → refers_to key role ≡ true → root_in links key ≡ Some root
root-referred links own key root Begins is referring = cc
root-referred links own key root (Corrects reference) is referring = ap (root_in links) (sym (same_exec-true reference key referring)) ∙ is
root-referred links own key root (Busts reference) is referring = ap (root_in links) (sym (same_exec-true reference key referring)) ∙ is

-- the root of the key of a link that is there
root-at :
    (n : ℕ) (rooted : List ChainLink) (k : ChainLink) → AreRooted rooted → is_chained (links_in rooted) ≡ true → item_at link_number n rooted ≡ Some k
    → root_in (links_in rooted) k.link.key ≡ kept_root k
root-at n [] k are chained found = cc
root-at n (item ∷ earlier) k are chained found =
    let parts = chained-parts item.link (links_in earlier) chained in
    elim (cases_Bool (nat_eq (link_number item) n)) [
      | inl here ↦
          let same : item ≡ k = same_Some item k (sym (at-here link_number n item earlier here) ∙ found) in
          let own : root_in (item.link ∷ links_in earlier) item.link.key ≡ kept_root item =
          ap (λ b. cond b (own_root (root_in (links_in earlier)) item.link.key item.link.role) (root_in (links_in earlier) item.link.key)) (same_exec-refl item.link.key)
          ∙ sym (kept_root-own (links_in earlier) item.link.key item.link.role item.root are.0) in
          subst (λ (k : ChainLink). root_in (item.link ∷ links_in earlier) k.link.key ≡ kept_root k) same own
      | inr other ↦
          let behind : item_at link_number n earlier ≡ Some k = sym (at-on link_number n item earlier other) ∙ found in
          let free : find (has_key item.link.key) earlier ≡ None = vacant earlier item.link.key (accepted_key (links_in earlier) item.link.key item.link.role parts.0).0 in
          let apart : same_exec k.link.key item.link.key ≡ false = none-at (has_key item.link.key) link_number n earlier k free behind in
          ap (λ b. cond b (own_root (root_in (links_in earlier)) item.link.key item.link.role) (root_in (links_in earlier) k.link.key)) (same_exec-sym item.link.key k.link.key ∙ apart)
          ∙ root-at n earlier k are.1 parts.1 behind
    ]

kept-same : (version : Bool) (root other : ExecKey) → Some other ≡ cond version (Some root) None → other ≡ root
kept-same true root other is = same_Some other root is
kept-same false root other is = absurd (clash is)

-- an item above the number that refers to the key has the root
abbrev IsOfChain : ℕ → ExecKey → ExecKey → ChainLink → Type 0
IsOfChain n key root item = nat_lt n (link_number item) ≡ true → refers key item ≡ true → item.root ≡ root

none-above : (n : ℕ) (key root : ExecKey) (rooted : List ChainLink) → is_above link_number n rooted ≡ true → All (IsOfChain n key root) rooted
none-above n key root [] above = All-nil (IsOfChain n key root)
none-above n key root (item ∷ earlier) above =
    let parts : (nat_lt (link_number item) n ≡ true) × (is_above link_number n earlier ≡ true) = and_parts _ _ above in
    All-cons (IsOfChain n key root) item earlier
    (λ after referring. let less : link_number item < n = ltb-true _ _ parts.0 in let more : n < link_number item = ltb-true _ _ after in absurd (omega (arith, less, more)))
    (none-above n key root earlier parts.1)

of_chain :
    (n : ℕ) (rooted : List ChainLink) (k : ChainLink) → AreRooted rooted → is_chained (links_in rooted) ≡ true → numbers_fall link_number rooted ≡ true
    → item_at link_number n rooted ≡ Some k → All (IsOfChain n k.link.key k.root) rooted
of_chain n [] k are chained fall found = cc
of_chain n (item ∷ earlier) k are chained fall found =
    let parts = chained-parts item.link (links_in earlier) chained in
    let falling = falling-parts link_number item earlier fall in
    elim (cases_Bool (nat_eq (link_number item) n)) [
      | inl here ↦
          let its : link_number item ≡ n = eqb-true _ _ here in
          All-cons (IsOfChain n k.link.key k.root) item earlier
          (λ after referring. let more : n < link_number item = ltb-true _ _ after in absurd (omega (arith, its, more)))
          (none-above n k.link.key k.root earlier (subst (λ m. is_above link_number m earlier ≡ true) its falling.0))
      | inr other ↦
          let behind : item_at link_number n earlier ≡ Some k = sym (at-on link_number n item earlier other) ∙ found in
          All-cons (IsOfChain n k.link.key k.root) item earlier
          (λ after referring.
          kept-same (brings_version k.link.role) k.root item.root
          (sym (root-referred (links_in earlier) item.link.key k.link.key item.root item.link.role are.0 referring) ∙ root-at n earlier k are.1 parts.1 behind))
          (of_chain n earlier k are.1 parts.1 falling.1 behind)
    ]

-- so it stands on the stack of the versions, or on that of the Busts

or-none : (b : Bool) → b ≡ (b || false)
or-none true = refl
or-none false = refl

unreferred : (referring : Bool) → (referring ≡ true → false ≡ true) → referring ≡ false
unreferred true clashes = sym (clashes refl)
unreferred false clashes = refl

on_stack : (key : ExecKey) (role : Role) (same : Bool) → (refers_to key role ≡ true → same ≡ true)
    → refers_to key role ≡ (((brings_version role && same) && refers_to key role) || ((is_bust role && same) && refers_to key role))
on_stack key Begins same is = sym (ap (λ b. b || (false && false)) (and-false same))
on_stack key (Corrects reference) true is = or-none (same_exec reference key)
on_stack key (Corrects reference) false is = unreferred (same_exec reference key) is
on_stack key (Busts reference) true is = refl
on_stack key (Busts reference) false is = unreferred (same_exec reference key) is

on_stacks :
    (n : ℕ) (key root : ExecKey) (item : ChainLink) → IsOfChain n key root item
    → (nat_lt n (link_number item) && refers key item)
    ≡ ((nat_lt n (link_number item) && (is_version_of root item && refers key item)) || (nat_lt n (link_number item) && (is_bust_of root item && refers key item)))
on_stacks n key root item is =
    elim (cases_Bool (nat_lt n (link_number item))) [
      | inl after ↦
          ap (λ b. nat_lt n (link_number item) && b)
          (on_stack key item.link.role (same_exec item.root root) (λ referring. subst (λ k. same_exec item.root k ≡ true) (is after referring) (same_exec-refl item.root)))
          ∙ and-either (nat_lt n (link_number item)) (is_version_of root item && refers key item) (is_bust_of root item && refers key item)
      | inr before ↦
          ap (λ b. b && refers key item) before
          ∙ sym (ap (λ b. (b && (is_version_of root item && refers key item)) || (b && (is_bust_of root item && refers key item))) before)
    ]

-- where no link of the number is there, none refers to it
pub needing-none : (slots : List (Slot ChainLink)) (n : ℕ) → item_at link_number n (live (reverse slots)) ≡ None → first_needing_link (links_in (live (reverse slots))) n ≡ None
needing-none slots n none =
    let all = live (reverse slots) in
    ap (λ link. option_and_then (λ (link : Link). first_referring (links_in all) n link.key) link) (at-through link_of number_of n all ∙ ap (option_map link_of) none)

module _ (index : Index) (slots : List (Slot ChainLink)) (n : ℕ) (k : ChainLink) (holds : HoldsChains index (reverse slots)) (found : item_at link_number n (live (reverse slots)) ≡ Some k) where
  abbrev all : List ChainLink
  all = live (reverse slots)

  abbrev among : (ChainLink → Bool) → ChainLink → Bool
  among test item = nat_lt n (link_number item) && (test item && refers k.link.key item)

  falls : numbers_fall link_number all ≡ true
  falls = falling-side link_number true (reverse slots) holds.fall

  on-versions : first_of (number_if_referring slots k.link.key) (places_above link_number n slots (versions_under index k.root)) ≡ first_by link_number (among (is_version_of k.root)) all
  on-versions =
      referring-found slots k.link.key (places_above link_number n slots (versions_under index k.root))
      ∙ ap (option_map link_number)
      (find-above link_number n (is_version_of k.root) slots (versions_under index k.root) (versions_are index slots k.root n holds) (refers k.link.key))

  on-busts : first_of (number_if_referring slots k.link.key) (places_above link_number n slots (busts_under index k.root)) ≡ first_by link_number (among (is_bust_of k.root)) all
  on-busts =
      referring-found slots k.link.key (places_above link_number n slots (busts_under index k.root))
      ∙ ap (option_map link_number)
      (find-above link_number n (is_bust_of k.root) slots (busts_under index k.root) (busts_are index slots k.root n holds) (refers k.link.key))

  referring-all : first_referring (links_in all) n k.link.key ≡ lesser (first_by link_number (among (is_version_of k.root)) all) (first_by link_number (among (is_bust_of k.root)) all)
  referring-all =
      let key = k.link.key in
      first-through link_of number_of (λ link. nat_lt n link.number && refers_to key link.role) all
      ∙ first-agree link_number (λ item. nat_lt n (link_number item) && refers key item) (λ item. among (is_version_of k.root) item || among (is_bust_of k.root) item) all
      (All-weaker (IsOfChain n key k.root)
      (λ item. (nat_lt n (link_number item) && refers key item) ≡ (among (is_version_of k.root) item || among (is_bust_of k.root) item))
      (λ item is. on_stacks n key k.root item is) all
      (of_chain n all k (rooted-live index (reverse slots) holds) holds.chained falls found))
      ∙ first-either link_number (among (is_version_of k.root)) (among (is_bust_of k.root)) all falls

  pub needing-held :
      lesser (referring_at slots (versions_under index k.root) n k.link.key) (referring_at slots (busts_under index k.root) n k.link.key) ≡ first_needing_link (links_in all) n
  needing-held =
      (λ i. lesser (on-versions i) (on-busts i)) ∙ sym referring-all
      ∙ sym (ap (λ link. option_and_then (λ (link : Link). first_referring (links_in all) n link.key) link) (at-through link_of number_of n all ∙ ap (option_map link_of) found))

  -- the cell of its key is at its place
  pub needing-placed : IsPlaced index.cells k
  needing-placed =
      found-All (IsPlaced index.cells) (λ item. nat_eq (link_number item) n) (items (reverse slots)) k holds.indexed.placed
      (at-all link_number n true (reverse slots) k holds.fall found)
