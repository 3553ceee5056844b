-- The stored roots are those of the definitions, and a root is the key of one Trade.
use Rattle.std.proofs.Common.{◌≡◌, ℕ, true, ◌&&◌, List, [], ◌∷◌, Option, Some, None, refl, sym, ap, subst, ◌∙◌, inl, inr, find, filter, is_none, if◌then◌else◌, IfSome, option_map, option_and_then}
use Rattle.std.specs.Prelude.{⊤}
use Rattle.std.proofs.lemmas.Option.{same_Some}
use Rattle.std.proofs.lemmas.Bool.{cases_Bool, and_parts}
use Rattle.blot_types.specs.declared.{keys.ExecKey.ExecKey, link.Link.Link, link.Role.Role}
use Rattle.blot_types.specs.declared.link.Role.TheVariants.{Begins, Corrects, Busts}
use Rattle.blot_types.specs.Chains.{takes_up, taker_in, own_root, root_in, is_root, busts, bust_in, current_in, link_refusal, is_chained, brings_version}
use Rattle.blot_types.specs.Keys.{same_exec}
use Rattle.blot_types.specs.Laws.{IsOneTrade}
use Rattle.blot_types.proofs.ChainLemmas.{accepted_key, none_is}
use Rattle.blot_types.proofs.KeyLemmas.{same_exec-true, same_exec-refl}
use Rattle.blot_types.specs.StandingVersion.{chain_under}
use Rattle.blot_chain.specs.declared.chain_link.ChainLink.{ChainLink}
use Rattle.blot_chain.specs.ChainLinks.{is_bust, has_key, is_version_of, is_bust_of, kept_root, links_in}

-- beside each link stands the root of its chain
abbrev pub AreRooted : List ChainLink → Type 0
AreRooted [] = ⊤
AreRooted (item ∷ earlier) = (chain_under (links_in earlier) item.link.key item.link.role ≡ Some item.root) × AreRooted earlier

-- One link: what is said of the root beside it is what is said of its role.

pub kept_root-own :
    (earlier : List Link) (key : ExecKey) (role : Role) (root : ExecKey) → chain_under earlier key role ≡ Some root
    → (if brings_version role then Some root else None) ≡ own_root (root_in earlier) key role
kept_root-own earlier key Begins root is = sym is
kept_root-own earlier key (Corrects reference) root is = sym is
kept_root-own earlier key (Busts reference) root is = refl

pub version-is_root :
    (earlier : List Link) (key : ExecKey) (role : Role) (root wanted : ExecKey) → chain_under earlier key role ≡ Some root
    → (brings_version role && same_exec root wanted) ≡ is_root wanted (own_root (root_in earlier) key role)
version-is_root earlier key Begins root wanted is = ap (is_root wanted) (sym is)
version-is_root earlier key (Corrects reference) root wanted is = ap (is_root wanted) (sym is)
version-is_root earlier key (Busts reference) root wanted is = refl

bust-busts :
    (earlier : List Link) (key : ExecKey) (role : Role) (root wanted : ExecKey) → chain_under earlier key role ≡ Some root
    → (is_bust role && same_exec root wanted) ≡ busts earlier wanted role
bust-busts earlier key Begins root wanted is = refl
bust-busts earlier key (Corrects reference) root wanted is = refl
bust-busts earlier key (Busts reference) root wanted is = ap (is_root wanted) (sym is)

-- The list: what is found by the stored roots is what the definitions name.

pub find-root :
    (items : List ChainLink) (key : ExecKey) → AreRooted items
    → option_and_then kept_root (find (has_key key) items) ≡ root_in (links_in items) key
find-root [] key rooted = refl
find-root (item ∷ earlier) key rooted =
    elim (cases_Bool (same_exec item.link.key key)) [
      | inl same ↦ rw same (kept_root-own (links_in earlier) item.link.key item.link.role item.root rooted.0)
      | inr other ↦ rw other (find-root earlier key rooted.1)
    ]

pub find-current :
    (items : List ChainLink) (root : ExecKey) → AreRooted items
    → option_map (λ item. item.link.number) (find (is_version_of root) items) ≡ current_in (links_in items) root
find-current [] root rooted = refl
find-current (item ∷ earlier) root rooted =
    let test = version-is_root (links_in earlier) item.link.key item.link.role item.root root rooted.0 in
    elim (cases_Bool (brings_version item.link.role && same_exec item.root root)) [
      | inl is ↦ rw (← test, is) refl
      | inr other ↦ rw (← test, other) (find-current earlier root rooted.1)
    ]

pub find-bust :
    (items : List ChainLink) (root : ExecKey) → AreRooted items
    → option_map (λ item. item.link.number) (find (is_bust_of root) items) ≡ bust_in (links_in items) root
find-bust [] root rooted = refl
find-bust (item ∷ earlier) root rooted =
    let test = bust-busts (links_in earlier) item.link.key item.link.role item.root root rooted.0 in
    elim (cases_Bool (is_bust item.link.role && same_exec item.root root)) [
      | inl is ↦ rw (← test, is) refl
      | inr other ↦ rw (← test, other) (find-bust earlier root rooted.1)
    ]

pub find-taker :
    (items : List ChainLink) (key : ExecKey)
    → option_map (λ item. item.link.number) (find (has_key key) items) ≡ taker_in (links_in items) key
find-taker [] key = refl
find-taker (item ∷ earlier) key =
    elim (cases_Bool (same_exec item.link.key key)) [
      | inl same ↦ rw same refl
      | inr other ↦ rw other (find-taker earlier key)
    ]

-- One Trade: an accepted link has a free key, so no later one takes up the root again.

-- the last link of a chained list was accepted, and the earlier ones are chained
pub chained-parts :
    (link : Link) (earlier : List Link) → is_chained (link ∷ earlier) ≡ true
    → (link_refusal earlier link.key link.role ≡ None) × (is_chained earlier ≡ true)
chained-parts link earlier chained =
    let parts : (is_none (link_refusal earlier link.key link.role) ≡ true) × (is_chained earlier ≡ true) = and_parts _ _ chained in
    (none_is _ parts.0, parts.1)

-- no link takes up a free key
filter-free : (links : List Link) (key : ExecKey) → taker_in links key ≡ None → filter (takes_up key) links ≡ []
filter-free [] key free = refl
filter-free (link ∷ earlier) key free =
    elim (cases_Bool (takes_up key link)) [
      | inl same ↦ let clash = rw same at free in cc
      | inr other ↦ rw other (filter-free earlier key (rw other at free))
    ]

clash : (links : List Link) (trade : Link) → links ≡ [] → links ≡ trade ∷ [] → ⊥
clash links trade none one = cc

-- a link more doesn't take up the root
one_trade-kept :
    (link : Link) (earlier : List Link) (root : ExecKey) → taker_in earlier link.key ≡ None
    → IsOneTrade earlier root → IsOneTrade (link ∷ earlier) root
one_trade-kept link earlier root free one =
    elim (cases_Bool (takes_up root link)) [
      | inl same ↦
          let key : link.key ≡ root = same_exec-true link.key root same in
          let none : filter (takes_up root) earlier ≡ [] = ap (λ k. filter (takes_up k) earlier) (sym key) ∙ filter-free earlier link.key free in
          absurd (clash (filter (takes_up root) earlier) one.trade none one.alone)
      | inr other ↦ record { trade = one.trade; alone = rw other one.alone; begins = one.begins }
    ]

-- the root of the link's own key
one_trade-own :
    (number : ℕ) (key : ExecKey) (role : Role) (earlier : List Link) (root : ExecKey) → taker_in earlier key ≡ None
    → ((reference : ExecKey) → root_in earlier reference ≡ Some root → IsOneTrade earlier root)
    → own_root (root_in earlier) key role ≡ Some root
    → IsOneTrade (record { number = number; key = key; role = role } ∷ earlier) root
one_trade-own number key Begins earlier root free before is =
    let trade : Link = record { number = number; key = key; role = Begins } in
    let one : IsOneTrade (trade ∷ earlier) key = record {
      trade = trade;
      alone = rw (same_exec-refl key, filter-free earlier key free) refl;
      begins = refl;
    } in
    subst (IsOneTrade (trade ∷ earlier)) (same_Some key root is) one
one_trade-own number key (Corrects reference) earlier root free before is =
    one_trade-kept (record { number = number; key = key; role = Corrects reference }) earlier root free (before reference is)
one_trade-own number key (Busts reference) earlier root free before is = cc

pub one_trade : (links : List Link) (key root : ExecKey) → is_chained links ≡ true → root_in links key ≡ Some root → IsOneTrade links root
one_trade [] key root chained is = cc
one_trade (link ∷ earlier) key root chained is =
    let parts = chained-parts link earlier chained in
    let free : taker_in earlier link.key ≡ None = (accepted_key earlier link.key link.role parts.0).0 in
    elim (cases_Bool (takes_up key link)) [
      | inl same ↦
          one_trade-own link.number link.key link.role earlier root free (λ reference found. one_trade earlier reference root parts.1 found) (rw same at is)
      | inr other ↦ one_trade-kept link earlier root free (one_trade earlier key root parts.1 (rw other at is))
    ]

pub one_trade-found : (links : List Link) (key : ExecKey) (found : Option ExecKey) → is_chained links ≡ true → found ≡ root_in links key → IfSome found (λ root. IsOneTrade links root)
one_trade-found links key None chained is = tt
one_trade-found links key (Some root) chained is = one_trade links key root chained (sym is)
