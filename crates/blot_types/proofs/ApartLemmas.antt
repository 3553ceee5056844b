-- A book with an entry of an execution in the middle, and the book without it: beside the version that stands of the
-- entry's chain, the same versions stand in both.
use Rattle.std.proofs.Common.{◌≡◌, ℕ, ◌+◌, ◌==◌, Bool, true, false, ◌&&◌, List, [], ◌∷◌, ◌++◌, reverse, Option, Some, None, refl, sym, ap, subst, ◌∙◌, inl, inr, is_none, is_some, not, find, filter, All, IfSome, if◌then◌else◌, filter_map, option_map, option_and_then, eqb-true}
use Rattle.std.specs.List.{cons_option}
use Rattle.std.specs.Option.{option_map_or}
use Rattle.std.proofs.lemmas.Bool.{cases_Bool, and_parts}
use Rattle.std.proofs.lemmas.List.{reverse-reverse, reverse-append}
use Rattle.std.proofs.lemmas.List.Elements.{All-weaker, All-filter, filter_passes, filter_map-append, filter-append}
use Rattle.std.proofs.lemmas.Option.{IfSome_then}
use Rattle.blot_types.specs.declared.{command.Entry.Entry, keys.ExecKey.ExecKey, lines.Version.Version, link.Link.Link, link.Role.Role, TheConstants.EVENTS_MAX}
use Rattle.blot_types.specs.declared.link.Role.TheVariants.{Begins, Corrects, Busts}
use Rattle.blot_types.specs.Allocations.{allocation_of, instructions_in, instructions_of, live_allocations}
use Rattle.blot_types.specs.Chains.{takes_up, taker_in, own_root, root_in, is_root, busts, bust_in, current_in, link_refusal, reference_refusal, is_chained, falls, brings_version, standing_version_in}
use Rattle.blot_types.specs.Instructions.{ended_in, named_in}
use Rattle.blot_types.specs.Keys.{same_exec, is_among}
use Rattle.blot_types.specs.Laws.{is_of_chain, survivors_beside}
use Rattle.blot_types.specs.Legal.{is_above_entries, rises_in, numbers_rise, legal_in, is_legal, is_book}
use Rattle.blot_types.specs.Position.{is_named}
use Rattle.blot_types.specs.StandingVersion.{standing, chain_under, chain_of, stood}
use Rattle.blot_types.specs.Survivors.{is_number, link_of, links_in, links_of, root_of, stands_under, stands_in, version_of, versions_of, survivors, version_numbered}
use Rattle.blot_types.proofs.BustLemmas.{reverse-middle}
use Rattle.blot_types.proofs.ChainLemmas.{clash, none_is, accepted_key, accepted_root, current-apart}
use Rattle.blot_types.proofs.ChainOutLemmas.{untaken, key-out, rooted-other, root-out, current-beside, root-older}
use Rattle.blot_types.proofs.ChangeLemmas.{allocations_in, link_alone}
use Rattle.blot_types.proofs.CorrectLemmas.{front-legal}
use Rattle.blot_types.proofs.EntryLemmas.{falls-links, refusal-link, version-of_bust}
use Rattle.blot_types.proofs.KeyLemmas.{same_exec-true, same_exec-refl, same_exec-sym}
use Rattle.blot_types.proofs.LinkOutLemmas.{GoneLink, links-whole, links-rest, chained-whole, chained-rest, instructions-gone}
use Rattle.blot_types.proofs.StandLemmas.{stands-both, taken_other}
use Rattle.blot_types.proofs.SurvivorLemmas.{filter-agree, filter-and, without, IsKnown, versions-known, of_its_link, IsCurrent, current-found, find-passes, current-stands}
use Rattle.blot_types.proofs.UnbustLemmas.{bust-beside}
use Rattle.blot_types.proofs.GeneralLemmas.{and-false}

-- ---- a book, and the version that stands of a chain

-- the numbers of a book rise up to the greatest, and it is legal
pub record IsBook (list : List Entry) : Type 0 where
  pub rise : numbers_rise list ≡ true
  pub above : is_above_entries (EVENTS_MAX + 1) (reverse list) ≡ true
  pub legal : is_legal list ≡ true

pub book_of : (list : List Entry) → is_book list ≡ true → IsBook list
book_of list book =
    let parts : ((rises_in (reverse list) && is_above_entries (EVENTS_MAX + 1) (reverse list)) ≡ true) × (legal_in (reverse list) ≡ true) = and_parts _ _ book in
    let numbered : (rises_in (reverse list) ≡ true) × (is_above_entries (EVENTS_MAX + 1) (reverse list) ≡ true) = and_parts _ _ parts.0 in
    record { rise = numbered.0; above = numbered.1; legal = parts.1 }

-- the number of a version, if there is one
abbrev pub number_of : Option Version → Option ℕ
number_of found = option_map (λ version. version.number) found

-- it is the number of the version that stands
number-found : (list : List Entry) (root : ExecKey) (found : Option ℕ) → IsBook list → current_in (links_of list) root ≡ found → number_of (option_and_then (version_numbered list) found) ≡ found
number-found list root None book is = refl
number-found list root (Some number) book is =
    let version = current-found (reverse list) root number book.legal book.rise is in
    let found : version_numbered list number ≡ Some version.0 = ap (λ l. version_numbered l number) (sym (reverse-reverse list)) ∙ version.1.found in
    ap number_of found ∙ ap Some (eqb-true _ _ (find-passes (λ v. v.number == number) (versions_of list) version.0 found))

standing-number : (list : List Entry) (root : ExecKey) → IsBook list → number_of (standing list root) ≡ standing_version_in (links_of list) root
standing-number list root book =
    elim (cases_Bool (is_none (bust_in (links_of list) root))) [
      | inl free ↦ rw free (number-found list root (current_in (links_of list) root) book refl)
      | inr busted ↦ rw busted refl
    ]

-- the version that stands of a chain is found among the survivors and among all versions, and is of that chain
pub record IsStanding (list : List Entry) (root : ExecKey) (version : Version) : Type 0 where
  pub survives : find (λ other. other.number == version.number) (survivors list) ≡ Some version
  pub among : find (λ other. other.number == version.number) (versions_of list) ≡ Some version
  pub root_is : root_of list version.key ≡ Some root

standing-at :
    (list : List Entry) (root : ExecKey) (bust current : Option ℕ) → IsBook list → bust_in (links_of list) root ≡ bust → current_in (links_of list) root ≡ current
    → IfSome (option_and_then (version_numbered list) (if is_none bust then current else None)) (IsStanding list root)
standing-at list root (Some number) current book busted is = tt
standing-at list root None None book free is = tt
standing-at list root None (Some number) book free is =
    let version = current-found (reverse list) root number book.legal book.rise is in
    let it : IsCurrent list root number version.0 = subst (λ l. IsCurrent l root number version.0) (reverse-reverse list) version.1 in
    let stood = current-stands list root number book.legal book.rise free is in
    let two : Some stood.0 ≡ Some version.0 = sym stood.1 ∙ it.found in
    let one : stood.0 ≡ version.0 = cc in
    let same : version.0.number ≡ number = eqb-true _ _ (find-passes (λ v. v.number == number) (versions_of list) version.0 it.found) in
    let here : IsStanding list root version.0 = record {
      survives = ap (λ n. find (λ v. v.number == n) (survivors list)) same ∙ stood.2 ∙ ap Some one;
      among = ap (λ n. find (λ v. v.number == n) (versions_of list)) same ∙ it.found;
      root_is = it.root_is;
    } in
    subst (λ found. IfSome found (IsStanding list root)) (sym it.found) here

standing-of : (list : List Entry) (root : ExecKey) → IsBook list → IfSome (standing list root) (IsStanding list root)
standing-of list root book = standing-at list root (bust_in (links_of list) root) (current_in (links_of list) root) book refl refl

-- a version that stands is the one that stands of a chain exactly where it is of that chain
standing-own :
    (links : List Link) (root : ExecKey) (number : ℕ) (found : Option ExecKey) → falls links ≡ true → stands_under links number found ≡ true
    → is_number number (standing_version_in links root) ≡ is_root root found
standing-own links root number None fall stands = cc
standing-own links root number (Some other) fall stands =
    let parts : (is_none (bust_in links other) ≡ true) × (is_number number (current_in links other) ≡ true) = and_parts _ _ (sym (stands-both links number other) ∙ stands) in
    elim (cases_Bool (same_exec other root)) [
      | inl same ↦
          ap (λ key. is_number number (standing_version_in links key)) (sym (same_exec-true other root same)) ∙ stands ∙ sym same
      | inr apart ↦
          let none : is_number number (current_in links root) ≡ false = current-apart links other root number fall apart parts.1 in
          elim (cases_Bool (is_none (bust_in links root))) [
            | inl free ↦ rw free none ∙ sym apart
            | inr busted ↦ rw busted refl ∙ sym apart
          ]
    ]

-- beside it, the survivors are those of the other chains
without-standing : (list : List Entry) (root : ExecKey) → IsBook list → without (number_of (standing list root)) (survivors list) ≡ survivors_beside list root
without-standing list root book =
    let links = links_of list in
    filter-agree (λ v. not (is_number v.number (number_of (standing list root)))) (λ v. not (is_of_chain list root v)) (survivors list)
    (All-weaker (λ v. stands_in links v ≡ true) (λ v. not (is_number v.number (number_of (standing list root))) ≡ not (is_of_chain list root v))
    (λ v stands.
    ap (λ n. not (is_number v.number n)) (standing-number list root book)
    ∙ ap not (standing-own links root v.number (root_in links v.key) (falls-links (reverse list) book.rise) stands)) (survivors list) (filter_passes (stands_in links) (versions_of list)))

-- ---- links with one of them in the middle, and without it

-- chained links with one of the chain of a root in the middle, which are chained without it
record IsApart (later front : List Link) (k : Link) (root : ExecKey) : Type 0 where
  whole : is_chained (later ++ k ∷ front) ≡ true
  out : is_chained (later ++ front) ≡ true
  chain : chain_under front k.key k.role ≡ Some root

-- another chain it doesn't bust, and brings no version of it
other-bust : (front : List Link) (key root other : ExecKey) (role : Role) → chain_under front key role ≡ Some root → same_exec root other ≡ false → busts front other role ≡ false
other-bust front key root other Begins is apart = refl
other-bust front key root other (Corrects reference) is apart = refl
other-bust front key root other (Busts reference) is apart = ap (is_root other) is ∙ apart

other-version : (front : List Link) (key root other : ExecKey) (role : Role) → chain_under front key role ≡ Some root → same_exec root other ≡ false → is_root other (own_root (root_in front) key role) ≡ false
other-version front key root other Begins is apart = ap (is_root other) is ∙ apart
other-version front key root other (Corrects reference) is apart = ap (is_root other) is ∙ apart
other-version front key root other (Busts reference) is apart = refl

-- whether a version stands, and is of another chain
abbrev stands_beside : List Link → ExecKey → Version → Bool
stands_beside links root version = stands_in links version && not (is_root root (root_in links version.key))

beside-rooted :
    (later front : List Link) (k : Link) (root : ExecKey) (number : ℕ) (found : Option ExecKey) → IsApart later front k root
    → (stands_under (later ++ k ∷ front) number found && not (is_root root found)) ≡ (stands_under (later ++ front) number found && not (is_root root found))
beside-rooted later front k root number None it = refl
beside-rooted later front k root number (Some other) it =
    elim (cases_Bool (same_exec other root)) [
      | inl same ↦ rw same (and-false (stands_under (later ++ k ∷ front) number (Some other)) ∙ sym (and-false (stands_under (later ++ front) number (Some other))))
      | inr passed ↦
          let apart : same_exec root other ≡ false = same_exec-sym root other ∙ passed in
          let bust = bust-beside later front k other it.whole it.out (other-bust front k.key root other k.role it.chain apart) in
          let current = current-beside later front k other it.whole it.out (other-version front k.key root other k.role it.chain apart) in
          λ i. is_number number (if is_none (sym bust i) then sym current i else None) && not (same_exec other root)
    ]

-- a version whose key is taken up without it
beside-taken :
    (later front : List Link) (k : Link) (root : ExecKey) (version : Version) → IsApart later front k root → is_some (taker_in (later ++ front) version.key) ≡ true
    → stands_beside (later ++ k ∷ front) root version ≡ stands_beside (later ++ front) root version
beside-taken later front k root version it taken =
    let other = taken_other (later ++ front) k.key version.key (key-out later front k it.whole) taken in
    let same = root-out later front k it.whole it.out version.key other in
    ap (λ found. stands_under (later ++ k ∷ front) version.number found && not (is_root root found)) (sym same)
    ∙ beside-rooted later front k root version.number (root_in (later ++ front) version.key) it

-- its own version is of its chain
own-root : (later front : List Link) (k : Link) → is_chained (later ++ k ∷ front) ≡ true → root_in (later ++ k ∷ front) k.key ≡ own_root (root_in front) k.key k.role
own-root [] front k chained = rw (same_exec-refl k.key) refl
own-root (link ∷ later) front k chained =
    let parts : (is_none (link_refusal (later ++ k ∷ front) link.key link.role) ≡ true) × (is_chained (later ++ k ∷ front) ≡ true) = and_parts _ _ chained in
    let fresh = accepted_key (later ++ k ∷ front) link.key link.role (none_is _ parts.0) in
    let other : takes_up k.key link ≡ false = same_exec-sym link.key k.key ∙ untaken later front k link.key fresh.0 in
    rw other (own-root later front k parts.1)

own-chain : (front : List Link) (key : ExecKey) (role : Role) → brings_version role ≡ true → own_root (root_in front) key role ≡ chain_under front key role
own-chain front key Begins one = refl
own-chain front key (Corrects reference) one = refl
own-chain front key (Busts reference) one = cc

own-beside : (later front : List Link) (k : Link) (root : ExecKey) (version : Version) → IsApart later front k root → brings_version k.role ≡ true → version.key ≡ k.key → stands_beside (later ++ k ∷ front) root version ≡ false
own-beside later front k root version it one key =
    let rooted : root_in (later ++ k ∷ front) version.key ≡ Some root =
    ap (root_in (later ++ k ∷ front)) key ∙ own-root later front k it.whole ∙ own-chain front k.key k.role one ∙ it.chain in
    let own : is_root root (root_in (later ++ k ∷ front) version.key) ≡ true = ap (is_root root) rooted ∙ same_exec-refl root in
    ap (λ b. stands_in (later ++ k ∷ front) version && not b) own ∙ and-false (stands_in (later ++ k ∷ front) version)

-- the chain of an accepted link has a root, and has it still among all links
chain-root : (front : List Link) (key : ExecKey) (role : Role) → reference_refusal front role ≡ None → (root : ExecKey) × (chain_under front key role ≡ Some root)
chain-root front key Begins accepted = (key, refl)
chain-root front key (Corrects reference) accepted = (let chain = accepted_root front reference (root_in front reference) accepted in (chain.0, chain.1.root_is))
chain-root front key (Busts reference) accepted = (let chain = accepted_root front reference (root_in front reference) accepted in (chain.0, chain.1.root_is))

chain-older :
    (later front : List Link) (key root : ExecKey) (role : Role) → is_chained (later ++ front) ≡ true → chain_under front key role ≡ Some root
    → chain_under (later ++ front) key role ≡ Some root
chain-older later front key root Begins chained is = is
chain-older later front key root (Corrects reference) chained is = root-older later front reference root chained is
chain-older later front key root (Busts reference) chained is = root-older later front reference root chained is

chain-newer : (front : List Link) (k : Link) (key root : ExecKey) (role : Role) → taker_in front k.key ≡ None → chain_under front key role ≡ Some root → chain_under (k ∷ front) key role ≡ Some root
chain-newer front k key root Begins fresh is = is
chain-newer front k key root (Corrects reference) fresh is = (let other = rooted-other front k.key reference root fresh is in rw other is)
chain-newer front k key root (Busts reference) fresh is = (let other = rooted-other front k.key reference root fresh is in rw other is)

-- ---- entries

-- what a test doesn't pass in the middle isn't missed
skip-middle : {A : Type 0} (p : A → Bool) (xs ys : List A) (found : Option A) → ((x : A) → found ≡ Some x → p x ≡ false) → filter p (xs ++ cons_option found ys) ≡ filter p (xs ++ ys)
skip-middle p xs ys None passed = refl
skip-middle p xs ys (Some x) passed =
    let other : p x ≡ false = passed x refl in
    let behind : filter p (x ∷ ys) ≡ filter p ys = rw other refl in
    filter-append p xs (x ∷ ys) ∙ ap (λ back. filter p xs ++ back) behind ∙ sym (filter-append p xs ys)

-- a book with an entry of an execution in the middle, the book without it, and the root of the entry's chain
record IsSplit (front back : List Entry) (entry : Entry) (link : Link) (root : ExecKey) : Type 0 where
  book : IsBook (front ++ entry ∷ back)
  rest : IsBook (front ++ back)
  gone : GoneLink (reverse back) (reverse front) entry link
  with_it : links_of (front ++ entry ∷ back) ≡ links_in (reverse back) ++ link ∷ links_in (reverse front)
  without_it : links_of (front ++ back) ≡ links_in (reverse back) ++ links_in (reverse front)
  apart : IsApart (links_in (reverse back)) (links_in (reverse front)) link root
  chain_with : chain_of (front ++ entry ∷ back) entry ≡ Some root
  chain_without : chain_of (front ++ back) entry ≡ Some root

split_at :
    (front back : List Entry) (entry : Entry) (link : Link) → link_of entry ≡ Some link → is_book (front ++ entry ∷ back) ≡ true → is_book (front ++ back) ≡ true
    → (root : ExecKey) × IsSplit front back entry link root
split_at front back entry link is whole_book rest_book =
    let later = reverse back in
    let earlier = reverse front in
    let l = links_in later in
    let f = links_in earlier in
    let book = book_of (front ++ entry ∷ back) whole_book in
    let rest = book_of (front ++ back) rest_book in
    let gone : GoneLink later earlier entry link = record {
      link = is;
      legal = ap legal_in (sym (reverse-middle front back entry)) ∙ book.legal;
      out = ap legal_in (sym (reverse-append front back)) ∙ rest.legal;
    } in
    let accepted = accepted_key f link.key link.role (sym (refusal-link earlier entry link is) ∙ (front-legal entry later earlier gone.legal).0) in
    let chain = chain-root f link.key link.role accepted.1 in
    let whole = chained-whole later earlier entry link gone in
    let out = chained-rest later earlier entry link gone in
    let with_it : links_of (front ++ entry ∷ back) ≡ l ++ link ∷ f = ap links_in (reverse-middle front back entry) ∙ links-whole later earlier entry link is in
    let without_it : links_of (front ++ back) ≡ l ++ f = ap links_in (reverse-append front back) ∙ links-rest later earlier in (
      chain.0,
      record {
        book = book;
        rest = rest;
        gone = gone;
        with_it = with_it;
        without_it = without_it;
        apart = record { whole = whole; out = out; chain = chain.1 };
        chain_with = (λ i. option_and_then (λ newest. chain_under (with_it i) newest.key newest.role) (is i))
            ∙ chain-older l (link ∷ f) link.key chain.0 link.role whole (chain-newer f link link.key chain.0 link.role accepted.0 chain.1);
        chain_without = (λ i. option_and_then (λ newest. chain_under (without_it i) newest.key newest.role) (is i)) ∙ chain-older l f link.key chain.0 link.role out chain.1;
      },
    )

-- what the lists read of their entries, in list order
pub read-with : {A : Type 0} (brings : Entry → Option A) (front back : List Entry) (entry : Entry) → filter_map brings (front ++ entry ∷ back) ≡ filter_map brings front ++ cons_option (brings entry) (filter_map brings back)
read-with brings front back entry = filter_map-append brings front (entry ∷ back)

pub read-without : {A : Type 0} (brings : Entry → Option A) (front back : List Entry) (entry : Entry) → brings entry ≡ None → filter_map brings (front ++ entry ∷ back) ≡ filter_map brings (front ++ back)
read-without brings front back entry none =
    filter_map-append brings front (entry ∷ back) ∙ ap (λ found. filter_map brings front ++ cons_option found (filter_map brings back)) none ∙ sym (filter_map-append brings front back)

-- the survivors of the other chains are the same
own-passed :
    (later front : List Link) (entry : Entry) (link : Link) (root : ExecKey) → IsApart later front link root → link_of entry ≡ Some link → (version : Version) → version_of entry ≡ Some version
    → stands_beside (later ++ link ∷ front) root version ≡ false
own-passed later front entry link root it is version brought =
    elim (cases_Bool (brings_version link.role)) [
      | inl one ↦ own-beside later front link root version it one (of_its_link entry link is version brought).key
      | inr none ↦ absurd (clash (sym brought ∙ version-of_bust entry link is none))
    ]

beside-same : (front back : List Entry) (entry : Entry) (link : Link) (root : ExecKey) → IsSplit front back entry link root → survivors_beside (front ++ entry ∷ back) root ≡ survivors_beside (front ++ back) root
beside-same front back entry link root it =
    let l = links_in (reverse back) in
    let f = links_in (reverse front) in
    let list = front ++ entry ∷ back in
    let rest = front ++ back in
    let whole = stands_beside (l ++ link ∷ f) root in
    let known = versions-known (EVENTS_MAX + 1) rest it.rest.above in
    let agree : All (λ v. whole v ≡ stands_beside (l ++ f) root v) (versions_of rest) =
    All-weaker (IsKnown (EVENTS_MAX + 1) (links_of rest)) (λ v. whole v ≡ stands_beside (l ++ f) root v)
    (λ v seen. beside-taken l f link root v it.apart (ap (λ links. is_some (taker_in links v.key)) (sym it.without_it) ∙ seen.taken)) (versions_of rest) known in
    sym (filter-and (stands_in (links_of list)) (λ v. not (is_of_chain list root v)) (versions_of list))
    ∙ ap (λ links. filter (stands_beside links root) (versions_of list)) it.with_it
    ∙ ap (filter whole) (read-with version_of front back entry)
    ∙ skip-middle whole (versions_of front) (versions_of back) (version_of entry) (own-passed l f entry link root it.apart it.gone.link)
    ∙ ap (filter whole) (sym (filter_map-append version_of front back))
    ∙ filter-agree whole (stands_beside (l ++ f) root) (versions_of rest) agree
    ∙ ap (λ links. filter (stands_beside links root) (versions_of rest)) (sym it.without_it)
    ∙ filter-and (stands_in (links_of rest)) (λ v. not (is_of_chain rest root v)) (versions_of rest)

-- the instructions, and what they name
instructions-same : (front back : List Entry) (entry : Entry) (link : Link) (root : ExecKey) → IsSplit front back entry link root → instructions_of (front ++ entry ∷ back) ≡ instructions_of (front ++ back)
instructions-same front back entry link root it =
    ap instructions_in (reverse-middle front back entry) ∙ sym (instructions-gone (reverse back) (reverse front) entry link it.gone) ∙ ap instructions_in (sym (reverse-append front back))

named-same :
    (front back : List Entry) (entry : Entry) (link : Link) (root key : ExecKey) → IsSplit front back entry link root → is_some (taker_in (links_of (front ++ back)) key) ≡ true
    → is_named (front ++ entry ∷ back) key ≡ is_named (front ++ back) key
named-same front back entry link root key it taken =
    let l = links_in (reverse back) in
    let f = links_in (reverse front) in
    let other = taken_other (l ++ f) link.key key (key-out l f link it.apart.whole) (ap (λ links. is_some (taker_in links key)) (sym it.without_it) ∙ taken) in
    let rooted : root_of (front ++ entry ∷ back) key ≡ root_of (front ++ back) key =
    ap (λ links. root_in links key) it.with_it ∙ sym (root-out l f link it.apart.whole it.apart.out key other) ∙ ap (λ links. root_in links key) (sym it.without_it) in
    λ i. option_map_or (is_among (named_in (instructions-same front back entry link root it i))) (rooted i) false

-- ---- the theorem

-- two books, one with an entry of an execution and one without it: the version that stands of the entry's chain in each,
-- and beside it the same survivors; the same instructions; and the links and the versions, split at the entry
pub record LinkApart (list rest : List Entry) (entry : Entry) : Type 0 where
  pub root : ExecKey
  pub rooted : chain_of list entry ≡ Some root
  pub chain : chain_of list entry ≡ chain_of rest entry
  pub survivors_are :
      without (option_map (λ version. version.number) (stood list entry)) (survivors list) ≡ without (option_map (λ version. version.number) (stood rest entry)) (survivors rest)
  pub gone : IfSome (stood list entry) (λ version. find (λ other. other.number == version.number) (survivors list) ≡ Some version)
  pub come : IfSome (stood rest entry) (λ version. find (λ other. other.number == version.number) (survivors rest) ≡ Some version)
  pub named : All (λ version. is_named list version.key ≡ is_named rest version.key) (without (option_map (λ version. version.number) (stood list entry)) (survivors list))
  pub live : live_allocations list ≡ live_allocations rest
  pub allocations : allocations_in list ≡ allocations_in rest
  pub instructions : instructions_of list ≡ instructions_of rest
  pub later : List Link
  pub link : Link
  pub earlier : List Link
  pub link_is : link_of entry ≡ Some link
  pub links_are : links_of list ≡ later ++ link ∷ earlier
  pub rest_links_are : links_of rest ≡ later ++ earlier
  pub before : List Version
  pub after : List Version
  pub versions_are : versions_of list ≡ before ++ cons_option (version_of entry) after
  pub rest_versions_are : versions_of rest ≡ before ++ after

pub link-apart :
    (front back : List Entry) (entry : Entry) (link : Link) → link_of entry ≡ Some link → is_book (front ++ entry ∷ back) ≡ true → is_book (front ++ back) ≡ true
    → LinkApart (front ++ entry ∷ back) (front ++ back) entry
link-apart front back entry link is whole_book rest_book =
    let list = front ++ entry ∷ back in
    let rest = front ++ back in
    let split = split_at front back entry link is whole_book rest_book in
    let root = split.0 in
    let it = split.1 in
    let stood_list : stood list entry ≡ standing list root = ap (option_and_then (standing list)) it.chain_with in
    let stood_rest : stood rest entry ≡ standing rest root = ap (option_and_then (standing rest)) it.chain_without in
    let beside_list : without (number_of (stood list entry)) (survivors list) ≡ survivors_beside list root = ap (λ found. without (number_of found) (survivors list)) stood_list ∙ without-standing list root it.book in
    let beside_rest : without (number_of (stood rest entry)) (survivors rest) ≡ survivors_beside rest root = ap (λ found. without (number_of found) (survivors rest)) stood_rest ∙ without-standing rest root it.rest in
    let same = beside-same front back entry link root it in
    let instructions = instructions-same front back entry link root it in
    let allocations : allocations_in list ≡ allocations_in rest =
    read-without (λ e. allocation_of e.command) front back entry (link_alone (links_of front) entry link is).1 in
    let known = All-filter (λ v. not (is_of_chain rest root v)) (IsKnown (EVENTS_MAX + 1) (links_of rest)) (survivors rest)
    (All-filter (stands_in (links_of rest)) (IsKnown (EVENTS_MAX + 1) (links_of rest)) (versions_of rest) (versions-known (EVENTS_MAX + 1) rest it.rest.above)) in
    let agree : All (λ v. is_named list v.key ≡ is_named rest v.key) (survivors_beside rest root) =
    All-weaker (IsKnown (EVENTS_MAX + 1) (links_of rest)) (λ v. is_named list v.key ≡ is_named rest v.key)
    (λ v seen. named-same front back entry link root v.key it seen.taken) (survivors_beside rest root) known in
    record {
      root = root;
      rooted = it.chain_with;
      chain = it.chain_with ∙ sym it.chain_without;
      survivors_are = beside_list ∙ same ∙ sym beside_rest;
      gone = subst (λ found. IfSome found (λ version. find (λ other. other.number == version.number) (survivors list) ≡ Some version)) (sym stood_list)
          (IfSome_then (standing list root) (standing-of list root it.book) (λ version stands. stands.survives));
      come = subst (λ found. IfSome found (λ version. find (λ other. other.number == version.number) (survivors rest) ≡ Some version)) (sym stood_rest)
          (IfSome_then (standing rest root) (standing-of rest root it.rest) (λ version stands. stands.survives));
      named = subst (All (λ v. is_named list v.key ≡ is_named rest v.key)) (sym (beside_list ∙ same)) agree;
      live = λ i. filter (λ allocation. is_none (ended_in (instructions i) allocation.key)) (allocations i);
      allocations = allocations;
      instructions = instructions;
      later = links_in (reverse back);
      link = link;
      earlier = links_in (reverse front);
      link_is = is;
      links_are = it.with_it;
      rest_links_are = it.without_it;
      before = versions_of front;
      after = versions_of back;
      versions_are = read-with version_of front back entry;
      rest_versions_are = filter_map-append version_of front back;
    }
