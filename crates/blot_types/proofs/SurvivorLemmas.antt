-- The survivors of a list with one more entry, and the version whose place it takes.
use Rattle.std.proofs.Common.{◌≡◌, ℕ, ◌+◌, ◌<◌, ◌≤◌, ◌==◌, length, Bool, true, false, ◌&&◌, List, [], ◌∷◌, ◌++◌, reverse, Option, Some, None, refl, sym, ap, subst, ◌∙◌, arith, inl, inr, is_none, is_some, not, find, filter, nat_lt, All, filter_map, ltb-true, ne_eqb, eq-eqb, eqb-true, append-nil}
use Rattle.std.specs.List.{cons_option}
use Rattle.std.specs.Option.{option_or}
use Rattle.std.proofs.lemmas.Bool.{cases_Bool, and_parts}
use Rattle.std.proofs.lemmas.List.{reverse-append, reverse-reverse}
use Rattle.std.proofs.lemmas.List.Elements.{All-nil, All-cons, All-head, All-tail, All-append, All-weaker, filter_map-append, filter-append}
use Rattle.std.proofs.lemmas.List.Folds.{find-append}
use Rattle.blot_types.specs.declared.{command.Entry.Entry, keys.ExecKey.ExecKey, lines.Version.Version, link.Link.Link, link.Role.Role}
use Rattle.blot_types.specs.declared.link.Role.TheVariants.{Begins, Corrects, Busts}
use Rattle.blot_types.specs.Chains.{takes_up, taker_in, own_root, root_in, is_root, bust_in, current_in, link_refusal, reference_refusal, replaced_in, replaced_by, falls, brings_version}
use Rattle.blot_types.specs.Legal.{is_above_entries, rises_in, numbers_rise, legal_in, is_legal, refusal_in, entry_refusal}
use Rattle.blot_types.specs.Survivors.{link_of, links_in, links_of, version_of, versions_of, is_number, stands_in, survivors, version_numbered}
use Rattle.blot_types.proofs.KeyLemmas.{same_exec-true, same_exec-refl}
use Rattle.blot_types.proofs.ChainLemmas.{rootless, accepted_root, accepted_key, clash, none_is}
use Rattle.blot_types.proofs.EntryLemmas.{links_of-push, link-number, version-number, version-of_link, version-of_bust, version-unlinked, IsVersionOf, refusal-link, falls-links}
use Rattle.blot_types.proofs.StandLemmas.{stands-older, stands-new}
use Rattle.blot_types.proofs.GeneralLemmas.{or-none, length-filtered, found-stays}

-- ---- lists

pub filter-agree : {X : Type 0} (p q : X → Bool) (xs : List X) → All (λ x. p x ≡ q x) xs → filter p xs ≡ filter q xs
filter-agree p q [] agree = refl
filter-agree p q (x ∷ xs) agree =
    let rest : filter p xs ≡ filter q xs = filter-agree p q xs (All-tail (λ y. p y ≡ q y) x xs agree) in
    let here : p x ≡ q x = All-head (λ y. p y ≡ q y) x xs agree in
    rw (here, rest) refl

pub filter-and : {X : Type 0} (p q : X → Bool) (xs : List X) → filter (λ x. p x && q x) xs ≡ filter q (filter p xs)
filter-and p q [] = refl
filter-and p q (x ∷ xs) =
    elim (cases_Bool (p x)) [
      | inl yes_p ↦ rw (yes_p, filter-and p q xs) refl
      | inr no_p ↦ rw (no_p, filter-and p q xs) refl
    ]

-- ---- entries and their versions

reverse-cons : {X : Type 0} (x : X) (xs : List X) → reverse (x ∷ xs) ≡ reverse xs ++ x ∷ []
reverse-cons x xs = reverse-append (x ∷ []) xs

pub versions-cons : (entry : Entry) (earlier : List Entry) → versions_of (reverse (entry ∷ earlier)) ≡ versions_of (reverse earlier) ++ versions_of (entry ∷ [])
versions-cons entry earlier = ap versions_of (reverse-cons entry earlier) ∙ filter_map-append version_of (reverse earlier) (entry ∷ [])

-- a version whose key the links take up, under a number below this one
pub record IsKnown (number : ℕ) (links : List Link) (version : Version) : Type 0 where
  pub below : version.number < number
  pub taken : is_some (taker_in links version.key) ≡ true

taken-more : (link : Link) (links : List Link) (key : ExecKey) → is_some (taker_in links key) ≡ true → is_some (taker_in (link ∷ links) key) ≡ true
taken-more link links key taken =
    elim (cases_Bool (takes_up key link)) [
      | inl here ↦ rw here refl
      | inr passed ↦ rw passed taken
    ]

taken-here : (link : Link) (links : List Link) → is_some (taker_in (link ∷ links) link.key) ≡ true
taken-here link links = rw (same_exec-refl link.key) refl

-- links with one more, if it is one, take up what they took up
taken-option : (found : Option Link) (links : List Link) (key : ExecKey) → is_some (taker_in links key) ≡ true → is_some (taker_in (cons_option found links) key) ≡ true
taken-option None links key taken = taken
taken-option (Some link) links key taken = taken-more link links key taken

known-one :
    (n : ℕ) (links : List Link) (link : Link) (brought : Option Version) → link.number < n
    → ((version : Version) → brought ≡ Some version → IsVersionOf link version) → All (IsKnown n (link ∷ links)) (cons_option brought [])
known-one n links link None less of_link = All-nil (IsKnown n (link ∷ links))
known-one n links link (Some version) less of_link =
    let is = of_link version refl in
    All-cons (IsKnown n (link ∷ links)) version [] (record {
      below = omega (arith, is.number, less);
      taken = ap (λ key. is_some (taker_in (link ∷ links) key)) is.key ∙ taken-here link links;
    }) (All-nil (IsKnown n (link ∷ links)))

known-nothing : (n : ℕ) (links : List Link) (brought : Option Version) → brought ≡ None → All (IsKnown n links) (cons_option brought [])
known-nothing n links None none = All-nil (IsKnown n links)
known-nothing n links (Some version) none = cc

same_version : {a b : Version} → Some a ≡ Some b → a ≡ b
same_version e = cc

-- what an entry brings is the version of its link
pub of_its_link :
    (entry : Entry) (link : Link) → link_of entry ≡ Some link → (version : Version) → version_of entry ≡ Some version → IsVersionOf link version
of_its_link entry link is version brought =
    elim (cases_Bool (brings_version link.role)) [
      | inl one ↦
          let own = version-of_link entry link is one in
          subst (IsVersionOf link) (same_version (sym own.1 ∙ brought)) own.2
      | inr none ↦ absurd (clash (sym brought ∙ version-of_bust entry link is none))
    ]

last_known : (n : ℕ) (entry : Entry) (found : Option Link) (links : List Link) → link_of entry ≡ found → entry.number < n → All (IsKnown n (cons_option found links)) (versions_of (entry ∷ []))
last_known n entry None links is less = known-nothing n links (version_of entry) (version-unlinked entry is)
last_known n entry (Some link) links is less =
    known-one n links link (version_of entry) (omega (arith, link-number entry link is, less)) (of_its_link entry link is)

-- each version of a list is known to its links
pub all_known : (n : ℕ) (entries : List Entry) → is_above_entries n entries ≡ true → All (IsKnown n (links_in entries)) (versions_of (reverse entries))
all_known n [] above = All-nil _
all_known n (entry ∷ earlier) above =
    let parts : (nat_lt entry.number n ≡ true) × (is_above_entries n earlier ≡ true) = and_parts _ _ above in
    let links = links_in earlier in
    let more : All (IsKnown n (cons_option (link_of entry) links)) (versions_of (reverse earlier)) =
    All-weaker (IsKnown n links) (IsKnown n (cons_option (link_of entry) links))
    (λ version known. record { below = known.below; taken = taken-option (link_of entry) links version.key known.taken })
    (versions_of (reverse earlier)) (all_known n earlier parts.1) in
    subst (All (IsKnown n (cons_option (link_of entry) links))) (sym (versions-cons entry earlier))
    (All-append (IsKnown n (cons_option (link_of entry) links)) (versions_of (reverse earlier)) (versions_of (entry ∷ []))
    more (last_known n entry (link_of entry) links refl (ltb-true _ _ parts.0)))

pub versions-known : (n : ℕ) (list : List Entry) → is_above_entries n (reverse list) ≡ true → All (IsKnown n (links_of list)) (versions_of list)
versions-known n list above = subst (λ l. All (IsKnown n (links_of list)) (versions_of l)) (reverse-reverse list) (all_known n (reverse list) above)

-- ---- one more entry

-- the versions whose place isn't taken
abbrev pub without : Option ℕ → List Version → List Version
without replaced versions = filter (λ version. not (is_number version.number replaced)) versions

pub without-none : (versions : List Version) → without None versions ≡ versions
without-none [] = refl
without-none (version ∷ versions) = ap (λ rest. version ∷ rest) (without-none versions)

-- the version that the last entry brings stands
one-stands : (stands : Version → Bool) (brought : Option Version) → ((version : Version) → brought ≡ Some version → stands version ≡ true) → filter stands (cons_option brought []) ≡ cons_option brought []
one-stands stands None each = refl
one-stands stands (Some version) each = rw (each version refl) refl

last_stands :
    (links : List Link) (entry : Entry) (link : Link) → link_of entry ≡ Some link → link_refusal links link.key link.role ≡ None
    → filter (stands_in (link ∷ links)) (versions_of (entry ∷ [])) ≡ versions_of (entry ∷ [])
last_stands links entry link is accepted =
    one-stands (stands_in (link ∷ links)) (version_of entry) (λ version brought.
    let own = of_its_link entry link is version brought in
    elim (cases_Bool (brings_version link.role)) [
      | inl one ↦ stands-new links link version accepted one own.number own.key
      | inr none ↦ absurd (clash (sym brought ∙ version-of_bust entry link is none))
    ])

-- the survivors with one more link: the version whose place it takes is gone, and its own is there
push-link :
    (list : List Entry) (entry : Entry) (link : Link) → link_of entry ≡ Some link → numbers_rise list ≡ true → is_above_entries entry.number (reverse list) ≡ true
    → link_refusal (links_of list) link.key link.role ≡ None
    → survivors (list ++ entry ∷ []) ≡ without (replaced_in (links_of list) link.role) (survivors list) ++ versions_of (entry ∷ [])
push-link list entry link is rise above accepted =
    let links = links_of list in
    let fall : falls links ≡ true = falls-links (reverse list) rise in
    let stands : Version → Bool = stands_in (link ∷ links) in
    let stays : Version → Bool = λ version. not (is_number version.number (replaced_in links link.role)) in
    let number : link.number ≡ entry.number = link-number entry link is in
    let agree : All (λ version. stands version ≡ (stands_in links version && stays version)) (versions_of list) =
    All-weaker (IsKnown entry.number links) (λ version. stands version ≡ (stands_in links version && stays version))
    (λ version known. stands-older links link version fall accepted (let below : version.number < entry.number = known.below in omega (arith, below, number)) known.taken)
    (versions_of list) (versions-known entry.number list above) in
    let older : filter stands (versions_of list) ≡ filter stays (survivors list) =
    filter-agree stands (λ version. stands_in links version && stays version) (versions_of list) agree ∙ filter-and (stands_in links) stays (versions_of list) in
    let split : filter stands (versions_of (list ++ entry ∷ [])) ≡ filter stands (versions_of list) ++ filter stands (versions_of (entry ∷ [])) =
    ap (filter stands) (filter_map-append version_of list (entry ∷ [])) ∙ filter-append stands (versions_of list) (versions_of (entry ∷ [])) in
    let last : filter stands (versions_of (entry ∷ [])) ≡ versions_of (entry ∷ []) = last_stands links entry link is accepted in
    ap (λ all. filter (stands_in all) (versions_of (list ++ entry ∷ []))) (links_of-push list entry ∙ ap (λ found. cons_option found links) is)
    ∙ split ∙ ap (λ front. front ++ filter stands (versions_of (entry ∷ []))) older ∙ ap (λ back. filter stays (survivors list) ++ back) last

-- an entry that is no link changes no survivor
nothing-brought : (brought : Option Version) → brought ≡ None → cons_option brought [] ≡ []
nothing-brought None none = refl
nothing-brought (Some version) none = cc

push-unlinked : (list : List Entry) (entry : Entry) → link_of entry ≡ None → survivors (list ++ entry ∷ []) ≡ survivors list
push-unlinked list entry is =
    let nothing : versions_of (entry ∷ []) ≡ [] = nothing-brought (version_of entry) (version-unlinked entry is) in
    ap (λ all. filter (stands_in all) (versions_of (list ++ entry ∷ []))) (links_of-push list entry ∙ ap (λ found. cons_option found (links_of list)) is)
    ∙ ap (filter (stands_in (links_of list))) (filter_map-append version_of list (entry ∷ []) ∙ ap (λ back. versions_of list ++ back) nothing ∙ append-nil (versions_of list))

push-found :
    (list : List Entry) (entry : Entry) (found : Option Link) → link_of entry ≡ found → numbers_rise list ≡ true → is_above_entries entry.number (reverse list) ≡ true
    → entry_refusal list entry.command ≡ None
    → survivors (list ++ entry ∷ []) ≡ without (replaced_by (links_of list) found) (survivors list) ++ versions_of (entry ∷ [])
push-found list entry None is rise above accepted =
    push-unlinked list entry is ∙ sym (without-none (survivors list)) ∙ sym (append-nil (without None (survivors list)))
    ∙ ap (λ back. without None (survivors list) ++ back) (sym (nothing-brought (version_of entry) (version-unlinked entry is)))
push-found list entry (Some link) is rise above accepted =
    push-link list entry link is rise above (sym (refusal-link (reverse list) entry link is) ∙ accepted)

-- the survivors with one more entry
pub survivors-push :
    (list : List Entry) (entry : Entry) → numbers_rise list ≡ true → is_above_entries entry.number (reverse list) ≡ true → entry_refusal list entry.command ≡ None
    → survivors (list ++ entry ∷ []) ≡ without (replaced_by (links_of list) (link_of entry)) (survivors list) ++ versions_of (entry ∷ [])
survivors-push list entry rise above accepted = push-found list entry (link_of entry) refl rise above accepted

-- ---- the version whose place is taken

-- the last version of a chain, among the versions of a list
pub record IsCurrent (list : List Entry) (root : ExecKey) (number : ℕ) (version : Version) : Type 0 where
  pub found : find (λ v. v.number == number) (versions_of list) ≡ Some version
  pub root_is : root_in (links_of list) version.key ≡ Some root

pub is_root-some : (root : ExecKey) (found : Option ExecKey) → is_root root found ≡ true → found ≡ Some root
is_root-some root None is = cc
is_root-some root (Some other) is = ap Some (same_exec-true other root is)

pub find-below : (n : ℕ) (links : List Link) (versions : List Version) → All (IsKnown n links) versions → find (λ v. v.number == n) versions ≡ None
find-below n links [] known = refl
find-below n links (version ∷ versions) known =
    let less = (All-head (IsKnown n links) version versions known).below in
    rw (ne_eqb version.number n (λ same. absurd (omega (arith, same, less)))) (find-below n links versions (All-tail (IsKnown n links) version versions known))

same_number : {m n : ℕ} → Some m ≡ Some n → m ≡ n
same_number e = cc

not_taken : (links : List Link) (link : Link) (key root : ExecKey) → taker_in links link.key ≡ None → root_in links key ≡ Some root → takes_up key link ≡ false
not_taken links link key root fresh is =
    elim (cases_Bool (takes_up key link)) [
      | inl same ↦
          let none : root_in links key ≡ None = subst (λ k. root_in links k ≡ None) (same_exec-true link.key key same) (rootless links link.key fresh) in
          absurd (clash (sym is ∙ none))
      | inr passed ↦ passed
    ]

-- what a Trade or a Correct begins or continues is the chain of a root
brings-root : (root : ExecKey) (roots : ExecKey → Option ExecKey) (key : ExecKey) (role : Role) → is_root root (own_root roots key role) ≡ true → brings_version role ≡ true
brings-root root roots key Begins own = refl
brings-root root roots key (Corrects reference) own = refl
brings-root root roots key (Busts reference) own = cc

found-split :
    (entry : Entry) (earlier : List Entry) (number : ℕ)
    → find (λ v. v.number == number) (versions_of (reverse (entry ∷ earlier)))
    ≡ option_or (find (λ v. v.number == number) (versions_of (reverse earlier))) (find (λ v. v.number == number) (versions_of (entry ∷ [])))
found-split entry earlier number =
    ap (find (λ v. v.number == number)) (versions-cons entry earlier) ∙ find-append (λ v. v.number == number) (versions_of (reverse earlier)) (versions_of (entry ∷ []))

links-turned : (entries : List Entry) → links_of (reverse entries) ≡ links_in entries
links-turned entries = ap links_in (reverse-reverse entries)

-- the last version of a chain, where the newest entry is a link
current-link :
    (entry : Entry) (earlier : List Entry) (link : Link) (root : ExecKey) (number : ℕ) → link_of entry ≡ Some link → is_above_entries entry.number earlier ≡ true
    → taker_in (links_in earlier) link.key ≡ None
    → (current_in (links_in earlier) root ≡ Some number → (version : Version) × IsCurrent (reverse earlier) root number version)
    → current_in (link ∷ links_in earlier) root ≡ Some number → (version : Version) × IsCurrent (reverse (entry ∷ earlier)) root number version
current-link entry earlier link root number is above fresh before current =
    let links = links_in earlier in
    let seen : links_of (reverse (entry ∷ earlier)) ≡ link ∷ links = links-turned (entry ∷ earlier) ∙ ap (λ found. cons_option found links) is in
    let split = found-split entry earlier number in
    elim (cases_Bool (is_root root (own_root (root_in links) link.key link.role))) [
      | inl own ↦
          let linked : link.number ≡ number = same_number (rw own at current) in
          let same : entry.number ≡ number = sym (link-number entry link is) ∙ linked in
          let version = version-of_link entry link is (brings-root root (root_in links) link.key link.role own) in
          let none : find (λ v. v.number == number) (versions_of (reverse earlier)) ≡ None =
          subst (λ n. find (λ v. v.number == n) (versions_of (reverse earlier)) ≡ None) same (find-below entry.number links (versions_of (reverse earlier)) (all_known entry.number earlier above)) in
          let here : find (λ v. v.number == number) (versions_of (entry ∷ [])) ≡ Some version.0 =
          ap (λ brought. find (λ v. v.number == number) (cons_option brought [])) version.1 ∙ rw (eq-eqb version.0.number number (version.2.number ∙ linked)) refl in
          let rooted : root_in (link ∷ links) link.key ≡ Some root =
          rw (same_exec-refl link.key) (is_root-some root (own_root (root_in links) link.key link.role) own) in (
            version.0,
            record {
              found = split ∙ rw (none, here) refl;
              root_is = ap (λ all. root_in all version.0.key) seen ∙ ap (root_in (link ∷ links)) version.2.key ∙ rooted;
            },
          )
      | inr other ↦
          let older = before (rw other at current) in
          let stood : root_in links older.0.key ≡ Some root = ap (λ all. root_in all older.0.key) (sym (links-turned earlier)) ∙ older.1.root_is in
          let passed : takes_up older.0.key link ≡ false = not_taken links link older.0.key root fresh stood in (
            older.0,
            record {
              found = split ∙ rw older.1.found refl;
              root_is = ap (λ all. root_in all older.0.key) seen ∙ rw passed stood;
            },
          )
    ]

-- and where it is none
current-unlinked :
    (entry : Entry) (earlier : List Entry) (root : ExecKey) (number : ℕ) → link_of entry ≡ None
    → ((version : Version) × IsCurrent (reverse earlier) root number version) → (version : Version) × IsCurrent (reverse (entry ∷ earlier)) root number version
current-unlinked entry earlier root number is older = (
  older.0,
  record {
    found = found-split entry earlier number ∙ rw older.1.found refl;
    root_is =
        ap (λ all. root_in all older.0.key) (links-turned (entry ∷ earlier) ∙ ap (λ found. cons_option found (links_in earlier)) is ∙ sym (links-turned earlier))
        ∙ older.1.root_is;
  },
)

current-entry :
    (entry : Entry) (earlier : List Entry) (found : Option Link) (root : ExecKey) (number : ℕ) → link_of entry ≡ found → is_above_entries entry.number earlier ≡ true
    → refusal_in earlier entry.command ≡ None
    → (current_in (links_in earlier) root ≡ Some number → (version : Version) × IsCurrent (reverse earlier) root number version)
    → current_in (cons_option found (links_in earlier)) root ≡ Some number → (version : Version) × IsCurrent (reverse (entry ∷ earlier)) root number version
current-entry entry earlier None root number is above accepted before current = current-unlinked entry earlier root number is (before current)
current-entry entry earlier (Some link) root number is above accepted before current =
    let free = accepted_key (links_in earlier) link.key link.role (sym (refusal-link earlier entry link is) ∙ accepted) in
    current-link entry earlier link root number is above free.0 before current

pub current-found :
    (entries : List Entry) (root : ExecKey) (number : ℕ) → legal_in entries ≡ true → rises_in entries ≡ true
    → current_in (links_in entries) root ≡ Some number → (version : Version) × IsCurrent (reverse entries) root number version
current-found [] root number legal rise current = cc
current-found (entry ∷ earlier) root number legal rise current =
    let rises : (is_above_entries entry.number earlier ≡ true) × (rises_in earlier ≡ true) = and_parts _ _ rise in
    let legals : (is_none (refusal_in earlier entry.command) ≡ true) × (legal_in earlier ≡ true) = and_parts _ _ legal in
    current-entry entry earlier (link_of entry) root number refl rises.0 (none_is (refusal_in earlier entry.command) legals.0)
    (current-found earlier root number legals.1 rises.1) current

pub find-passes : {X : Type 0} (p : X → Bool) (xs : List X) (x : X) → find p xs ≡ Some x → p x ≡ true
find-passes p [] x found = cc
find-passes p (y ∷ ys) x found =
    elim (cases_Bool (p y)) [
      | inl here ↦ (let same : Some y ≡ Some x = rw here at found in let one : y ≡ x = cc in ap p (sym one) ∙ here)
      | inr passed ↦ find-passes p ys x (rw passed at found)
    ]

-- the last version of a chain that isn't busted is found among the survivors
pub current-stands :
    (list : List Entry) (root : ExecKey) (number : ℕ) → is_legal list ≡ true → numbers_rise list ≡ true → bust_in (links_of list) root ≡ None
    → current_in (links_of list) root ≡ Some number
    → (version : Version) × (find (λ v. v.number == number) (versions_of list) ≡ Some version) × (find (λ v. v.number == number) (survivors list) ≡ Some version)
current-stands list root number legal rise live current =
    let links = links_of list in
    let version = current-found (reverse list) root number legal rise current in
    let is : IsCurrent list root number version.0 = subst (λ l. IsCurrent l root number version.0) (reverse-reverse list) version.1 in
    let same : version.0.number ≡ number = eqb-true _ _ (find-passes (λ v. v.number == number) (versions_of list) version.0 is.found) in
    let stands : stands_in links version.0 ≡ true = rw (is.root_is, live, current) (eq-eqb number version.0.number (sym same)) in
    (version.0, is.found, found-stays (λ v. v.number == number) (stands_in links) (versions_of list) version.0 is.found stands)

-- the version whose place a command takes is a survivor
pub replaced-found :
    (list : List Entry) (role : Role) (number : ℕ) → is_legal list ≡ true → numbers_rise list ≡ true → reference_refusal (links_of list) role ≡ None
    → replaced_in (links_of list) role ≡ Some number
    → (version : Version) × (find (λ v. v.number == number) (versions_of list) ≡ Some version) × (find (λ v. v.number == number) (survivors list) ≡ Some version)
replaced-found list Begins number legal rise accepted replaced = cc
replaced-found list (Corrects reference) number legal rise accepted replaced =
    let chain = accepted_root (links_of list) reference (root_in (links_of list) reference) accepted in
    current-stands list chain.0 number legal rise chain.1.not_busted (rw chain.1.root_is at replaced)
replaced-found list (Busts reference) number legal rise accepted replaced =
    let chain = accepted_root (links_of list) reference (root_in (links_of list) reference) accepted in
    current-stands list chain.0 number legal rise chain.1.not_busted (rw chain.1.root_is at replaced)

-- the version whose place an entry takes is a survivor
replaced-link :
    (list : List Entry) (entry : Entry) (found : Option Link) (number : ℕ) → link_of entry ≡ found → is_legal list ≡ true → numbers_rise list ≡ true
    → entry_refusal list entry.command ≡ None → replaced_by (links_of list) found ≡ Some number
    → (version : Version) × (find (λ v. v.number == number) (versions_of list) ≡ Some version) × (find (λ v. v.number == number) (survivors list) ≡ Some version)
replaced-link list entry None number is legal rise accepted replaced = cc
replaced-link list entry (Some link) number is legal rise accepted replaced =
    let parts = accepted_key (links_of list) link.key link.role (sym (refusal-link (reverse list) entry link is) ∙ accepted) in
    replaced-found list link.role number legal rise parts.1 replaced

pub replaced-by_entry :
    (list : List Entry) (entry : Entry) (number : ℕ) → is_legal list ≡ true → numbers_rise list ≡ true → entry_refusal list entry.command ≡ None
    → replaced_by (links_of list) (link_of entry) ≡ Some number
    → (version : Version) × (find (λ v. v.number == number) (versions_of list) ≡ Some version) × (find (λ v. v.number == number) (survivors list) ≡ Some version)
replaced-by_entry list entry number legal rise accepted replaced = replaced-link list entry (link_of entry) number refl legal rise accepted replaced

-- no more executions stand than there are entries
pub length-option : {X : Type 0} (o : Option X) (xs : List X) (n : ℕ) → length xs ≤ n → length (cons_option o xs) ≤ n + 1
length-option None xs n short = omega (arith, short)
length-option (Some x) xs n short = omega (arith, short)

length-versions : (list : List Entry) → length (versions_of list) ≤ length list
length-versions [] = omega arith
length-versions (entry ∷ list) = omega (arith, length-option (version_of entry) (versions_of list) (length list) (length-versions list))

pub length-survivors : (list : List Entry) → length (survivors list) ≤ length list
length-survivors list = omega (arith, length-filtered (stands_in (links_of list)) (versions_of list), length-versions list)

-- ---- the version of a number, newest first

version-step :
    (entry : Entry) (earlier : List Entry) (number : ℕ) (brought : Option Version) → version_of entry ≡ brought → is_above_entries entry.number earlier ≡ true
    → version_numbered earlier number ≡ find (λ v. v.number == number) (versions_of (reverse earlier))
    → find (λ v. v.number == number) (cons_option brought (filter_map version_of earlier))
    ≡ option_or (find (λ v. v.number == number) (versions_of (reverse earlier))) (find (λ v. v.number == number) (cons_option brought []))
version-step entry earlier number None is above before = before ∙ sym (or-none (find (λ v. v.number == number) (versions_of (reverse earlier))))
version-step entry earlier number (Some version) is above before =
    elim (cases_Bool (version.number == number)) [
      | inl here ↦
          let same : entry.number ≡ number = sym (version-number entry version is) ∙ eqb-true version.number number here in
          let none : find (λ v. v.number == number) (versions_of (reverse earlier)) ≡ None =
          subst (λ n. find (λ v. v.number == n) (versions_of (reverse earlier)) ≡ None) same
          (find-below entry.number (links_in earlier) (versions_of (reverse earlier)) (all_known entry.number earlier above)) in
          rw (here, none) refl
      | inr other ↦ rw other (before ∙ sym (or-none (find (λ v. v.number == number) (versions_of (reverse earlier)))))
    ]

-- among entries whose numbers rise it is the version that is found in list order
pub version_numbered-rising :
    (entries : List Entry) (number : ℕ) → rises_in entries ≡ true → version_numbered entries number ≡ find (λ v. v.number == number) (versions_of (reverse entries))
version_numbered-rising [] number rise = refl
version_numbered-rising (entry ∷ earlier) number rise =
    let parts : (is_above_entries entry.number earlier ≡ true) × (rises_in earlier ≡ true) = and_parts _ _ rise in
    version-step entry earlier number (version_of entry) refl parts.0 (version_numbered-rising earlier number parts.1) ∙ sym (found-split entry earlier number)
