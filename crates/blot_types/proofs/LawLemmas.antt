-- The laws of a legal list: one survivor for each chain that isn't busted, and Busts that leave the others.
use Rattle.std.proofs.Common.{◌≡◌, ℕ, ◌<◌, ◌==◌, Bool, true, false, ◌&&◌, List, [], ◌∷◌, ◌++◌, reverse, Option, Some, None, refl, sym, ap, subst, ◌∙◌, arith, inl, inr, is_none, not, find, filter, IsTrue, All, eqb-true, eq-eqb, append_assoc, append-nil}
use Rattle.std.specs.List.{cons_option}
use Rattle.std.specs.Option.{option_or}
use Rattle.std.proofs.lemmas.Bool.{cases_Bool, and_parts}
use Rattle.std.proofs.lemmas.List.{reverse-append, reverse-reverse}
use Rattle.std.proofs.lemmas.List.Elements.{All-nil, All-cons, All-head, All-tail, All-weaker, filter_map-append, filter-append}
use Rattle.std.proofs.lemmas.List.Folds.{find-append}
use Rattle.blot_types.specs.declared.{command.Bust.Bust, command.Command.TheVariants.Bust as BustCommand, command.Entry.Entry, keys.ExecKey.ExecKey, lines.Version.Version, link.Link.Link, link.Role.Role}
use Rattle.blot_types.specs.declared.link.Role.TheVariants.{Begins, Corrects, Busts}
use Rattle.blot_types.specs.Keys.{same_exec}
use Rattle.blot_types.specs.Chains.{takes_up, taker_in, own_root, root_in, is_root, busts, bust_in, current_in}
use Rattle.blot_types.specs.Survivors.{link_of, links_in, links_of, root_of, version_of, versions_of, is_number, stands_under, stands_in}
use Rattle.blot_types.specs.Legal.{is_above_entries, rises_in, numbers_rise, is_legal, is_book, entry_refusal}
use Rattle.blot_types.specs.Laws.{survivors_of_chain, survivors_beside, HasOneSurvivorEach, BustsLeaveOthers}
use Rattle.blot_types.proofs.KeyLemmas.{same_exec-true, same_exec-refl, same_exec-sym}
use Rattle.blot_types.proofs.ChainLemmas.{none_is, rootless, accepted_key, differing}
use Rattle.blot_types.proofs.LegalLemmas.{is_legal-front, is_legal-push}
use Rattle.blot_types.proofs.EntryLemmas.{version-number, refusal-link}
use Rattle.blot_types.proofs.StandLemmas.{stands-both}
use Rattle.blot_types.proofs.SurvivorLemmas.{IsKnown, IsCurrent, all_known, versions-cons, filter-agree, filter-and, find-below, find-passes, current-found}
use Rattle.blot_types.proofs.GeneralLemmas.{and-false, all-of}

-- ---- lists

pub filter-none : {X : Type 0} (p : X → Bool) (xs : List X) → All (λ x. p x ≡ false) xs → filter p xs ≡ []
filter-none p [] none = refl
filter-none p (x ∷ xs) none =
    rw (All-head (λ y. p y ≡ false) x xs none) (filter-none p xs (All-tail (λ y. p y ≡ false) x xs none))

-- one item at most, and it is found: then it is what a test leaves that it passes
filter-single :
    {X : Type 0} (p q : X → Bool) (o : Option X) (x : X) → p x ≡ true → find q (cons_option o []) ≡ Some x → filter p (cons_option o []) ≡ x ∷ []
filter-single p q None x kept found = cc
filter-single p q (Some y) x kept found =
    elim (cases_Bool (q y)) [
      | inl here ↦
          let is : Some y ≡ Some x = rw here at found in
          let one : y ≡ x = cc in
          rw (one, kept) refl
      | inr passed ↦
          let none : None ≡ Some x = rw passed at found in
          cc
    ]

-- ---- a chain that isn't busted

-- the chain of a root that a key has, has a last version
root-current : (links : List Link) (key root : ExecKey) → root_in links key ≡ Some root → (number : ℕ) × (current_in links root ≡ Some number)
root-current [] key root is = cc
root-current (link ∷ earlier) key root is =
    elim (cases_Bool (is_root root (own_root (root_in earlier) link.key link.role))) [
      | inl own ↦ (link.number, rw own refl)
      | inr other ↦
          elim (cases_Bool (takes_up key link)) [
            | inl here ↦
                let mine : own_root (root_in earlier) link.key link.role ≡ Some root = rw here at is in
                absurd (differing (ap (is_root root) mine ∙ same_exec-refl root) other)
            | inr passed ↦
                let before = root-current earlier key root (rw passed at is) in
                (before.0, rw other before.1)
          ]
    ]

-- what stands of a chain has the number of the chain's last version
pub stands-number :
    (links : List Link) (root : ExecKey) (n number : ℕ) (found : Option ExecKey) → current_in links root ≡ Some number
    → (stands_under links n found && is_root root found) ≡ true → n ≡ number
stands-number links root n number None current both = cc
stands-number links root n number (Some other) current both =
    let parts : (stands_under links n (Some other) ≡ true) × (same_exec other root ≡ true) = and_parts _ _ both in
    let stood : (is_none (bust_in links other) ≡ true) × (is_number n (current_in links other) ≡ true) = and_parts _ _ (sym (stands-both links n other) ∙ parts.0) in
    let one : other ≡ root = same_exec-true other root parts.1 in
    let here : is_number n (Some number) ≡ true = rw (one, current) at stood.1 in
    sym (eqb-true number n here)

-- what an entry brings has the entry's number
brought-one : (number : ℕ) (brought : Option Version) → ((version : Version) → brought ≡ Some version → version.number ≡ number) → All (λ version. version.number ≡ number) (cons_option brought [])
brought-one number None each = All-nil _
brought-one number (Some version) each = All-cons (λ v. v.number ≡ number) version [] (each version refl) (All-nil _)

brought-number : (entry : Entry) → All (λ version. version.number ≡ entry.number) (versions_of (entry ∷ []))
brought-number entry = brought-one entry.number (version_of entry) (version-number entry)

pub find-none : {X : Type 0} (p : X → Bool) (xs : List X) → All (λ x. p x ≡ false) xs → find p xs ≡ None
find-none p [] none = refl
find-none p (x ∷ xs) none =
    rw (All-head (λ y. p y ≡ false) x xs none) (find-none p xs (All-tail (λ y. p y ≡ false) x xs none))

-- a test that only one number passes fails at another
fails : (p : Version → Bool) (n : ℕ) → ((version : Version) → p version ≡ true → version.number ≡ n) → (version : Version) → (version.number ≡ n → ⊥) → p version ≡ false
fails p n only version other =
    elim (cases_Bool (p version)) [
      | inl passes ↦ absurd (other (only version passes))
      | inr not_passed ↦ not_passed
    ]

found_left : {X : Type 0} (a b : Option X) (x : X) → b ≡ None → option_or a b ≡ Some x → a ≡ Some x
found_left None b x none found = sym none ∙ found
found_left (Some y) b x none found = found

-- a test that only one number passes leaves one version: their numbers rise
pub alone :
    (p : Version → Bool) (n : ℕ) (entries : List Entry) (version : Version) → rises_in entries ≡ true → ((other : Version) → p other ≡ true → other.number ≡ n)
    → p version ≡ true → find (λ v. v.number == n) (versions_of (reverse entries)) ≡ Some version
    → filter p (versions_of (reverse entries)) ≡ version ∷ []
alone p n [] version rise only kept found = cc
alone p n (entry ∷ earlier) version rise only kept found =
    let rises : (is_above_entries entry.number earlier ≡ true) × (rises_in earlier ≡ true) = and_parts _ _ rise in
    let links = links_in earlier in
    let older = versions_of (reverse earlier) in
    let new = versions_of (entry ∷ []) in
    let known : All (IsKnown entry.number links) older = all_known entry.number earlier rises.0 in
    let split : filter p (versions_of (reverse (entry ∷ earlier))) ≡ filter p older ++ filter p new =
    ap (filter p) (versions-cons entry earlier) ∙ filter-append p older new in
    let found_split : option_or (find (λ v. v.number == n) older) (find (λ v. v.number == n) new) ≡ Some version =
    sym (ap (find (λ v. v.number == n)) (versions-cons entry earlier) ∙ find-append (λ v. v.number == n) older new) ∙ found in
    elim (cases_Bool (entry.number == n)) [
      | inl same ↦
          let is : entry.number ≡ n = eqb-true _ _ same in
          let none : filter p older ≡ [] =
          filter-none p older (All-weaker (IsKnown entry.number links) (λ v. p v ≡ false)
          (λ v seen. fails p n only v (λ equal. (let below : v.number < entry.number = seen.below in absurd (omega (arith, equal, is, below))))) older known) in
          let not_found : find (λ v. v.number == n) older ≡ None = subst (λ m. find (λ v. v.number == m) older ≡ None) is (find-below entry.number links older known) in
          let here : find (λ v. v.number == n) new ≡ Some version = rw not_found at found_split in
          split ∙ ap (λ front. front ++ filter p new) none ∙ filter-single p (λ v. v.number == n) (version_of entry) version kept here
      | inr other ↦
          let apart : entry.number ≡ n → ⊥ = λ equal. differing (ap (λ m. m == n) equal ∙ eq-eqb n n refl) other in
          let brought : All (λ v. v.number ≡ entry.number) new = brought-number entry in
          let none : filter p new ≡ [] =
          filter-none p new (All-weaker (λ v. v.number ≡ entry.number) (λ v. p v ≡ false) (λ v is. fails p n only v (λ equal. apart (sym is ∙ equal))) new brought) in
          let not_found : find (λ v. v.number == n) new ≡ None =
          find-none (λ v. v.number == n) new (All-weaker (λ v. v.number ≡ entry.number) (λ v. (v.number == n) ≡ false) (λ v is. rw is other) new brought) in
          let before : find (λ v. v.number == n) older ≡ Some version = found_left _ _ version not_found found_split in
          split ∙ ap (λ back. filter p older ++ back) none ∙ append-nil (filter p older) ∙ alone p n earlier version rises.1 only kept before
    ]

-- whether a version stands and is of a chain
abbrev pub stands_of : List Link → ExecKey → Version → Bool
stands_of links root version = stands_in links version && is_root root (root_in links version.key)

-- each chain that isn't busted has one survivor
live_one :
    (list : List Entry) → is_legal list ≡ true → numbers_rise list ≡ true → (key root : ExecKey) → root_of list key ≡ Some root
    → bust_in (links_of list) root ≡ None → (version : Version) × (survivors_of_chain list root ≡ version ∷ [])
live_one list legal rise key root is live =
    let links = links_of list in
    let current = root-current links key root is in
    let last = current-found (reverse list) root current.0 legal rise current.1 in
    let it : IsCurrent list root current.0 last.0 = subst (λ l. IsCurrent l root current.0 last.0) (reverse-reverse list) last.1 in
    let same : last.0.number ≡ current.0 = eqb-true _ _ (find-passes (λ v. v.number == current.0) (versions_of list) last.0 it.found) in
    let stands : stands_of links root last.0 ≡ true = rw (it.root_is, live, current.1, same_exec-refl root) (rw (eq-eqb current.0 last.0.number (sym same)) refl) in
    let only : (version : Version) → stands_of links root version ≡ true → version.number ≡ current.0 =
    λ version both. stands-number links root version.number current.0 (root_in links version.key) current.1 both in
    let found : find (λ v. v.number == current.0) (versions_of (reverse (reverse list))) ≡ Some last.0 = last.1.found in
    let one : filter (stands_of links root) (versions_of list) ≡ last.0 ∷ [] =
    ap (λ l. filter (stands_of links root) (versions_of l)) (sym (reverse-reverse list)) ∙ alone (stands_of links root) current.0 (reverse list) last.0 rise only stands found in
    (last.0, sym (filter-and (stands_in links) (λ version. is_root root (root_in links version.key)) (versions_of list)) ∙ one)

-- nothing of a busted chain stands
busted-passed :
    (links : List Link) (root : ExecKey) (n number : ℕ) (found : Option ExecKey) → bust_in links root ≡ Some number
    → (stands_under links n found && is_root root found) ≡ false
busted-passed links root n number None is = refl
busted-passed links root n number (Some other) is =
    elim (cases_Bool (same_exec other root)) [
      | inl same ↦
          let one : other ≡ root = same_exec-true other root same in
          rw (one, is) refl
      | inr apart ↦ rw apart (and-false (stands_under links n (Some other)))
    ]

pub busted_none : (list : List Entry) (root : ExecKey) (number : ℕ) → bust_in (links_of list) root ≡ Some number → survivors_of_chain list root ≡ []
busted_none list root number is =
    let links = links_of list in
    sym (filter-and (stands_in links) (λ version. is_root root (root_in links version.key)) (versions_of list))
    ∙ filter-none (stands_of links root) (versions_of list)
    (all-of (λ version. stands_of links root version ≡ false) (versions_of list) (λ version. busted-passed links root version.number number (root_in links version.key) is))

pub book_parts : (list : List Entry) → IsTrue (is_book list) → (numbers_rise list ≡ true) × (is_legal list ≡ true)
book_parts list book = grind (arith, book)

pub has_one_survivor_each : (list : List Entry) → IsTrue (is_book list) → HasOneSurvivorEach list
has_one_survivor_each list book =
    let parts = book_parts list book in
    record { live = live_one list parts.1 parts.0; busted = busted_none list }

-- ---- a Bust leaves the other chains

-- the link of a Bust whose key is new, and which busts the chain of this root
record EndsChain (earlier : List Link) (link : Link) (root : ExecKey) : Type 0 where
  pub reference : ExecKey
  pub role_is : link.role ≡ Busts reference
  pub root_is : root_in earlier reference ≡ Some root
  pub fresh : taker_in earlier link.key ≡ None

own_root-agree :
    (f g : ExecKey → Option ExecKey) (key : ExecKey) (role : Role) → ((other : ExecKey) → f other ≡ g other) → own_root f key role ≡ own_root g key role
own_root-agree f g key Begins same = refl
own_root-agree f g key (Corrects reference) same = same reference
own_root-agree f g key (Busts reference) same = refl

-- the roots are those without the Bust
root-without : (later earlier : List Link) (link : Link) (root key : ExecKey) → EndsChain earlier link root → root_in (later ++ link ∷ earlier) key ≡ root_in (later ++ earlier) key
root-without [] earlier link root key ends =
    elim (cases_Bool (takes_up key link)) [
      | inl here ↦
          let one : link.key ≡ key = same_exec-true link.key key here in
          let none : root_in earlier key ≡ None = subst (λ k. root_in earlier k ≡ None) one (rootless earlier link.key ends.fresh) in
          rw (here, ends.role_is) (sym none)
      | inr passed ↦ rw passed refl
    ]
root-without (first ∷ later) earlier link root key ends =
    rw (
      own_root-agree (root_in (later ++ link ∷ earlier)) (root_in (later ++ earlier)) first.key first.role (λ other. root-without later earlier link root other ends),
      root-without later earlier link root key ends,
    ) refl

-- so are the last versions of the chains
current-without : (later earlier : List Link) (link : Link) (root other : ExecKey) → EndsChain earlier link root → current_in (later ++ link ∷ earlier) other ≡ current_in (later ++ earlier) other
current-without [] earlier link root other ends = rw ends.role_is refl
current-without (first ∷ later) earlier link root other ends =
    rw (
      own_root-agree (root_in (later ++ link ∷ earlier)) (root_in (later ++ earlier)) first.key first.role (λ key. root-without later earlier link root key ends),
      current-without later earlier link root other ends,
    ) refl

busts-agree : (links others : List Link) (root : ExecKey) (role : Role) → ((key : ExecKey) → root_in links key ≡ root_in others key) → busts links root role ≡ busts others root role
busts-agree links others root Begins same = refl
busts-agree links others root (Corrects reference) same = refl
busts-agree links others root (Busts reference) same = ap (is_root root) (same reference)

-- and the Busts of the other chains
bust-without :
    (later earlier : List Link) (link : Link) (root other : ExecKey) → EndsChain earlier link root → same_exec root other ≡ false
    → bust_in (later ++ link ∷ earlier) other ≡ bust_in (later ++ earlier) other
bust-without [] earlier link root other ends apart = rw (ends.role_is, ends.root_is, apart) refl
bust-without (first ∷ later) earlier link root other ends apart =
    rw (
      busts-agree (later ++ link ∷ earlier) (later ++ earlier) other first.role (λ key. root-without later earlier link root key ends),
      bust-without later earlier link root other ends apart,
    ) refl

-- whether a version under this root stands, and isn't of the chain
abbrev stands_beside : List Link → ExecKey → ℕ → Option ExecKey → Bool
stands_beside links root number found = stands_under links number found && not (is_root root found)

-- a version of another chain stands with the Bust where it stands without
beside-same :
    (later earlier : List Link) (link : Link) (root : ExecKey) (number : ℕ) (found : Option ExecKey) → EndsChain earlier link root
    → stands_beside (later ++ link ∷ earlier) root number found ≡ stands_beside (later ++ earlier) root number found
beside-same later earlier link root number None ends = refl
beside-same later earlier link root number (Some other) ends =
    elim (cases_Bool (same_exec other root)) [
      | inl same ↦ rw same (and-false _ ∙ sym (and-false _))
      | inr apart ↦
          rw (bust-without later earlier link root other ends (same_exec-sym root other ∙ apart), current-without later earlier link root other ends) refl
    ]

-- the links of a list around one of its entries
pub links_of-around : (front back : List Entry) (entry : Entry) → links_of (front ++ entry ∷ back) ≡ links_of back ++ cons_option (link_of entry) (links_of front)
links_of-around front back entry =
    let turned : reverse (front ++ entry ∷ back) ≡ (reverse back ++ entry ∷ []) ++ reverse front =
    reverse-append front (entry ∷ back) ∙ ap (λ later. later ++ reverse front) (reverse-append (entry ∷ []) back) in
    ap links_in (turned ∙ append_assoc (reverse back) (entry ∷ []) (reverse front))
    ∙ filter_map-append link_of (reverse back) (entry ∷ reverse front)

links_of-append : (front back : List Entry) → links_of (front ++ back) ≡ links_of back ++ links_of front
links_of-append front back = ap links_in (reverse-append front back) ∙ filter_map-append link_of (reverse back) (reverse front)

-- a Bust under a number
abbrev pub bust_under : ℕ → Bust → Entry
bust_under number bust = record { number = number; command = BustCommand bust }

-- it brings no version
versions-around : (front back : List Entry) (number : ℕ) (bust : Bust) → versions_of (front ++ bust_under number bust ∷ back) ≡ versions_of (front ++ back)
versions-around front back number bust =
    filter_map-append version_of front (bust_under number bust ∷ back) ∙ sym (filter_map-append version_of front back)

-- the test that the survivors beside a chain pass, of the links alone
abbrev passes_beside : List Link → ExecKey → Version → Bool
passes_beside links root version = stands_beside links root version.number (root_in links version.key)

beside_by_links : (list : List Entry) (root : ExecKey) → survivors_beside list root ≡ filter (passes_beside (links_of list) root) (versions_of list)
beside_by_links list root =
    sym (filter-and (stands_in (links_of list)) (λ version. not (is_root root (root_in (links_of list) version.key))) (versions_of list))

-- the key of a Bust in a legal list is new to the entries before it
fresh-before :
    (front back : List Entry) (number : ℕ) (bust : Bust) → is_legal (front ++ bust_under number bust ∷ back) ≡ true → taker_in (links_of front) bust.key ≡ None
fresh-before front back number bust legal =
    let entry = bust_under number bust in
    let whole : (front ++ entry ∷ []) ++ back ≡ front ++ entry ∷ back = append_assoc front (entry ∷ []) back in
    let begun : is_legal (front ++ entry ∷ []) ≡ true = is_legal-front (front ++ entry ∷ []) back (ap is_legal whole ∙ legal) in
    let parts : (is_none (entry_refusal front entry.command) ≡ true) × (is_legal front ≡ true) = and_parts _ _ (sym (is_legal-push front entry) ∙ begun) in
    let accepted = none_is (entry_refusal front entry.command) parts.0 in
    (accepted_key (links_of front) bust.key (Busts bust.reference)
    (sym (refusal-link (reverse front) entry (record { number = number; key = bust.key; role = Busts bust.reference }) refl) ∙ accepted)).0

beside-around :
    (front back : List Entry) (number : ℕ) (bust : Bust) (root : ExecKey) → is_legal (front ++ bust_under number bust ∷ back) ≡ true
    → root_of front bust.reference ≡ Some root → survivors_beside (front ++ bust_under number bust ∷ back) root ≡ survivors_beside (front ++ back) root
beside-around front back number bust root legal root_is =
    let later = links_of back in
    let earlier = links_of front in
    let entry = bust_under number bust in
    let link : Link = record { number = number; key = bust.key; role = Busts bust.reference } in
    let ends : EndsChain earlier link root = record { reference = bust.reference; role_is = refl; root_is = root_is; fresh = fresh-before front back number bust legal } in
    let versions = versions_of (front ++ back) in
    let agree : (version : Version) → passes_beside (later ++ link ∷ earlier) root version ≡ passes_beside (later ++ earlier) root version =
    λ version. ap (stands_beside (later ++ link ∷ earlier) root version.number) (root-without later earlier link root version.key ends)
    ∙ beside-same later earlier link root version.number (root_in (later ++ earlier) version.key) ends in
    beside_by_links (front ++ entry ∷ back) root
    ∙ ap (λ links. filter (passes_beside links root) (versions_of (front ++ entry ∷ back))) (links_of-around front back entry)
    ∙ ap (filter (passes_beside (later ++ link ∷ earlier) root)) (versions-around front back number bust)
    ∙ filter-agree (passes_beside (later ++ link ∷ earlier) root) (passes_beside (later ++ earlier) root) versions (all-of _ versions agree)
    ∙ ap (λ links. filter (passes_beside links root) versions) (sym (links_of-append front back))
    ∙ sym (beside_by_links (front ++ back) root)

pub busts_leave_others : (list : List Entry) → IsTrue (is_book list) → BustsLeaveOthers list
busts_leave_others list book = record {
  others = λ front back number bust root is root_is.
      let legal : is_legal (front ++ bust_under number bust ∷ back) ≡ true = ap is_legal (sym is) ∙ (book_parts list book).1 in
      ap (λ l. survivors_beside l root) is ∙ beside-around front back number bust root legal root_is;
}
