-- A version is its chain's last exactly where no later Correct is of its chain.
use Rattle.std.proofs.Common.{◌≡◌, ℕ, ◌<◌, Bool, true, false, ◌&&◌, List, [], ◌∷◌, ◌++◌, reverse, Option, Some, None, refl, sym, ap, subst, ◌∙◌, arith, inl, inr, ◌||◌, is_none, is_some, not, IsTrue, All, nat_lt, ltb-true, ne_eqb, eq-eqb}
use Rattle.std.specs.List.{cons_option, list_any}
use Rattle.std.proofs.lemmas.Bool.{cases_Bool, and_parts}
use Rattle.std.proofs.lemmas.List.Elements.{All-nil, All-cons, All-head, All-tail, All-weaker}
use Rattle.blot_types.specs.declared.{command.Entry.Entry, keys.ExecKey.ExecKey, lines.Version.Version, link.Link.Link, link.Role.Role}
use Rattle.blot_types.specs.declared.link.Role.TheVariants.{Begins, Corrects, Busts}
use Rattle.blot_types.specs.Keys.{is_among, same_exec}
use Rattle.blot_types.specs.Chains.{takes_up, taker_in, own_root, root_in, is_root, busted_by, busted_roots_in, bust_in, current_in, link_refusal, is_chained, is_above_links, falls}
use Rattle.blot_types.specs.Legal.{is_book}
use Rattle.blot_types.specs.Laws.{is_correct, corrects_chain, StandsUncorrected}
use Rattle.blot_types.specs.Survivors.{link_of, links_of, root_of, busted_roots, version_of, is_number, stands_under, stands_in}
use Rattle.blot_types.proofs.KeyLemmas.{same_exec-true, same_exec-refl}
use Rattle.blot_types.proofs.ChainLemmas.{none_is, root-fresh, accepted_key, clash, differing}
use Rattle.blot_types.proofs.LawLemmas.{links_of-around, book_parts}
use Rattle.blot_types.proofs.EntryLemmas.{IsVersionOf, version-unlinked, chained-links, falls-links}
use Rattle.blot_types.proofs.StandLemmas.{stands-both}
use Rattle.blot_types.proofs.SurvivorLemmas.{of_its_link}
use Rattle.blot_types.proofs.GeneralLemmas.{and-false}

-- its own root is no root of theirs unless it corrects the chain
own_correct :
    (links : List Link) (mine key root : ExecKey) (role : Role) → taker_in links mine ≡ None → root_in links key ≡ Some root
    → is_root root (own_root (root_in links) mine role) ≡ true → is_correct role ≡ true
own_correct links mine key root Begins fresh is own =
    let same : mine ≡ root = same_exec-true mine root own in
    let none : is_root mine (root_in links key) ≡ false = root-fresh links mine key fresh in
    let found : is_root mine (root_in links key) ≡ true = ap (is_root mine) is ∙ ap (λ k. same_exec root k) same ∙ same_exec-refl root in
    absurd (differing found none)
own_correct links mine key root (Corrects reference) fresh is own = refl
own_correct links mine key root (Busts reference) fresh is own = cc

-- the links after keep their roots
abbrev IsTaken : List Link → Link → Type 0
IsTaken links link = is_some (taker_in links link.key) ≡ true

taken-more : (link : Link) (links : List Link) (other : Link) → IsTaken links other → IsTaken (link ∷ links) other
taken-more link links other taken =
    elim (cases_Bool (takes_up other.key link)) [
      | inl here ↦ rw here refl
      | inr passed ↦ rw passed taken
    ]

all_taken : (later earlier : List Link) → All (IsTaken (later ++ earlier)) later
all_taken [] earlier = All-nil (IsTaken earlier)
all_taken (link ∷ later) earlier =
    All-cons (IsTaken (link ∷ later ++ earlier)) link later (rw (same_exec-refl link.key) refl)
    (All-weaker (IsTaken (later ++ earlier)) (IsTaken (link ∷ later ++ earlier)) (λ other taken. taken-more link (later ++ earlier) other taken) later (all_taken later earlier))

same_root : (links : List Link) (link other : Link) → taker_in links link.key ≡ None → IsTaken links other → root_in (link ∷ links) other.key ≡ root_in links other.key
same_root links link other fresh taken =
    elim (cases_Bool (takes_up other.key link)) [
      | inl same ↦
          let none : is_some (taker_in links other.key) ≡ false = ap (λ k. is_some (taker_in links k)) (sym (same_exec-true link.key other.key same)) ∙ ap is_some fresh in
          absurd (differing taken none)
      | inr passed ↦ rw passed refl
    ]

any-agree : (p q : Link → Bool) (links : List Link) → All (λ link. p link ≡ q link) links → list_any p links ≡ list_any q links
any-agree p q [] agree = refl
any-agree p q (link ∷ links) agree =
    let here : p link ≡ q link = All-head (λ l. p l ≡ q l) link links agree in
    rw (here, any-agree p q links (All-tail (λ l. p l ≡ q l) link links agree)) refl

same_corrections :
    (later earlier : List Link) (link : Link) (root : ExecKey) → taker_in (later ++ earlier) link.key ≡ None
    → list_any (corrects_chain (link ∷ later ++ earlier) root) later ≡ list_any (corrects_chain (later ++ earlier) root) later
same_corrections later earlier link root fresh =
    any-agree (corrects_chain (link ∷ later ++ earlier) root) (corrects_chain (later ++ earlier) root) later
    (All-weaker (IsTaken (later ++ earlier)) (λ other. corrects_chain (link ∷ later ++ earlier) root other ≡ corrects_chain (later ++ earlier) root other)
    (λ other taken. ap (λ found. is_correct other.role && is_root root found) (same_root (later ++ earlier) link other fresh taken))
    later (all_taken later earlier))

below-number : (later earlier : List Link) (link : Link) (number : ℕ) → is_above_links number (later ++ link ∷ earlier) ≡ true → link.number < number
below-number [] earlier link number below =
    let parts : (nat_lt link.number number ≡ true) × (is_above_links number earlier ≡ true) = and_parts _ _ below in
    ltb-true _ _ parts.0
below-number (other ∷ later) earlier link number below =
    let parts : (nat_lt other.number number ≡ true) × (is_above_links number (later ++ link ∷ earlier) ≡ true) = and_parts _ _ below in
    below-number later earlier link number parts.1

taken-among : (later earlier : List Link) (link : Link) → IsTaken (later ++ link ∷ earlier) link
taken-among [] earlier link = rw (same_exec-refl link.key) refl
taken-among (other ∷ later) earlier link = taken-more other (later ++ link ∷ earlier) link (taken-among later earlier link)

-- the version of a link is the chain's last where none after it corrects the chain
pub last-uncorrected :
    (later earlier : List Link) (link : Link) (root : ExecKey) → is_chained (later ++ link ∷ earlier) ≡ true → falls (later ++ link ∷ earlier) ≡ true
    → root_in (later ++ link ∷ earlier) link.key ≡ Some root
    → is_number link.number (current_in (later ++ link ∷ earlier) root) ≡ not (list_any (corrects_chain (later ++ link ∷ earlier) root) later)
last-uncorrected [] earlier link root chained fall is =
    let own : own_root (root_in earlier) link.key link.role ≡ Some root = rw (same_exec-refl link.key) at is in
    rw (own, same_exec-refl root) (eq-eqb link.number link.number refl)
last-uncorrected (other ∷ later) earlier link root chained fall is =
    let rest = later ++ link ∷ earlier in
    let chains : (is_none (link_refusal rest other.key other.role) ≡ true) × (is_chained rest ≡ true) = and_parts _ _ chained in
    let fresh : taker_in rest other.key ≡ None = (accepted_key rest other.key other.role (none_is (link_refusal rest other.key other.role) chains.0)).0 in
    let falling : (is_above_links other.number rest ≡ true) × (falls rest ≡ true) = and_parts _ _ fall in
    let stood : root_in rest link.key ≡ Some root = sym (same_root rest other link fresh (taken-among later earlier link)) ∙ is in
    let own : root_in (other ∷ rest) other.key ≡ own_root (root_in rest) other.key other.role = rw (same_exec-refl other.key) refl in
    let test : corrects_chain (other ∷ rest) root other ≡ (is_correct other.role && is_root root (own_root (root_in rest) other.key other.role)) =
    ap (λ found. is_correct other.role && is_root root found) own in
    elim (cases_Bool (is_root root (own_root (root_in rest) other.key other.role))) [
      | inl here ↦
          let corrects : is_correct other.role ≡ true = own_correct rest other.key link.key root other.role fresh stood here in
          let higher : link.number < other.number = below-number later earlier link other.number falling.0 in
          let yes_it : corrects_chain (other ∷ rest) root other ≡ true = test ∙ rw (corrects, here) refl in
          rw (here, yes_it) (ne_eqb other.number link.number (λ same. absurd (omega (arith, higher, same))))
      | inr passed ↦
          let no_it : corrects_chain (other ∷ rest) root other ≡ false = test ∙ rw passed (and-false (is_correct other.role)) in
          let before : is_number link.number (current_in rest root) ≡ not (list_any (corrects_chain rest root) later) = last-uncorrected later earlier link root chains.1 falling.1 stood in
          rw (passed, no_it) (before ∙ ap not (sym (same_corrections later (link ∷ earlier) other root fresh)))
    ]

-- a chain has a Bust exactly where its root is one of the busted ones
busted-one : (root : ExecKey) (found : Option ExecKey) (others : List ExecKey) → is_among (cons_option found others) root ≡ (is_root root found || is_among others root)
busted-one root None others = refl
busted-one root (Some other) others = refl

busted-role :
    (links : List Link) (number : ℕ) (key root : ExecKey) (role : Role) → is_some (bust_in links root) ≡ is_among (busted_roots_in links) root
    → is_some (bust_in (record { number = number; key = key; role = role } ∷ links) root) ≡ is_among (busted_by links role (busted_roots_in links)) root
busted-role links number key root Begins before = before
busted-role links number key root (Corrects reference) before = before
busted-role links number key root (Busts reference) before =
    elim (cases_Bool (is_root root (root_in links reference))) [
      | inl here ↦ rw (busted-one root (root_in links reference) (busted_roots_in links), here) refl
      | inr other ↦ rw (busted-one root (root_in links reference) (busted_roots_in links), other) before
    ]

busted-among : (links : List Link) (root : ExecKey) → is_some (bust_in links root) ≡ is_among (busted_roots_in links) root
busted-among [] root = refl
busted-among (link ∷ earlier) root = busted-role earlier link.number link.key root link.role (busted-among earlier root)

unbusted : (bust : Option ℕ) → is_none bust ≡ not (is_some bust)
unbusted None = refl
unbusted (Some number) = refl

stands_by_link :
    (list front back : List Entry) (entry : Entry) (link : Link) (version : Version) (root : ExecKey) → IsTrue (is_book list) → list ≡ front ++ entry ∷ back
    → link_of entry ≡ Some link → IsVersionOf link version → root_of list version.key ≡ Some root
    → stands_in (links_of list) version
    ≡ (not (is_among (busted_roots list) root) && not (list_any (corrects_chain (links_of list) root) (links_of back)))
stands_by_link list front back entry link version root book is linked own rooted =
    let parts = book_parts list book in
    let seen : links_of list ≡ links_of back ++ link ∷ links_of front =
    ap links_of is ∙ links_of-around front back entry ∙ ap (λ found. links_of back ++ cons_option found (links_of front)) linked in
    let chained : is_chained (links_of back ++ link ∷ links_of front) ≡ true = ap is_chained (sym seen) ∙ chained-links (reverse list) parts.1 in
    let fall : falls (links_of back ++ link ∷ links_of front) ≡ true = ap falls (sym seen) ∙ falls-links (reverse list) parts.0 in
    let at : root_in (links_of back ++ link ∷ links_of front) link.key ≡ Some root = ap (λ links. root_in links link.key) (sym seen) ∙ ap (root_in (links_of list)) (sym own.key) ∙ rooted in
    let last : is_number link.number (current_in (links_of list) root) ≡ not (list_any (corrects_chain (links_of list) root) (links_of back)) =
    subst (λ links. is_number link.number (current_in links root) ≡ not (list_any (corrects_chain links root) (links_of back))) (sym seen) (last-uncorrected (links_of back) (links_of front) link root chained fall at) in
    ap (stands_under (links_of list) version.number) rooted ∙ stands-both (links_of list) version.number root
    ∙ ap (λ n. is_none (bust_in (links_of list) root) && is_number n (current_in (links_of list) root)) own.number
    ∙ ap (λ test. is_none (bust_in (links_of list) root) && test) last
    ∙ ap (λ test. test && not (list_any (corrects_chain (links_of list) root) (links_of back))) (unbusted (bust_in (links_of list) root) ∙ ap not (busted-among (links_of list) root))

stands_by_entry :
    (list front back : List Entry) (entry : Entry) (found : Option Link) (version : Version) (root : ExecKey) → IsTrue (is_book list) → list ≡ front ++ entry ∷ back
    → link_of entry ≡ found → version_of entry ≡ Some version → root_of list version.key ≡ Some root
    → stands_in (links_of list) version
    ≡ (not (is_among (busted_roots list) root) && not (list_any (corrects_chain (links_of list) root) (links_of back)))
stands_by_entry list front back entry None version root book is linked brought rooted = absurd (clash (sym brought ∙ version-unlinked entry linked))
stands_by_entry list front back entry (Some link) version root book is linked brought rooted =
    stands_by_link list front back entry link version root book is linked (of_its_link entry link linked version brought) rooted

pub stands_uncorrected : (list : List Entry) → IsTrue (is_book list) → StandsUncorrected list
stands_uncorrected list book = record {
  stands = λ front back entry version root is brought rooted.
      stands_by_entry list front back entry (link_of entry) version root book is refl brought rooted;
}
