-- Where chains go that nobody needs, or Busts, what is asked of the other chains is answered as before.
use Rattle.std.proofs.Common.{◌≡◌, ℕ, true, false, List, [], ◌∷◌, Option, Some, None, refl, sym, ap, subst, ◌∙◌, inl, inr, filter, is_none}
use Rattle.std.proofs.lemmas.Bool.{cases_Bool, and_parts}
use Rattle.blot_types.specs.declared.{keys.ExecKey.ExecKey, link.Link.Link, link.Role.Role}
use Rattle.blot_types.specs.declared.link.Role.TheVariants.{Begins, Corrects, Busts}
use Rattle.blot_types.specs.Keys.{same_exec}
use Rattle.blot_types.specs.Chains.{takes_up, taker_in, own_root, root_in, is_root, busts, bust_in, current_in, link_refusal, reference_refusal, is_chained, brings_version}
use Rattle.blot_types.specs.StandingVersion.{chain_root}
use Rattle.blot_types.proofs.ChainLemmas.{clash, differing, none_is, rootless, accepted_key, accepted_root}
use Rattle.blot_types.proofs.KeyLemmas.{same_exec-true, same_exec-refl}
use Rattle.blot_withdraw.proofs.Split.{Split, Knows, chain_key, own_key}

-- ---- the chain of a link

-- it has this root, among the links before it and in the whole list, and so has what it refers to
record IsOf (split : Split) (earlier : List Link) (key : ExecKey) (role : Role) (root : ExecKey) : Type 0 where
  here : chain_root (root_in earlier) key role ≡ Some root
  known : split.roots (chain_key key role) ≡ Some root
  refers : chain_root split.roots key role ≡ Some root

-- a key that has a root keeps it with one more link
root-behind : (link : Link) (earlier : List Link) (key root : ExecKey) → taker_in earlier link.key ≡ None → root_in earlier key ≡ Some root → root_in (link ∷ earlier) key ≡ Some root
root-behind link earlier key root fresh is =
    elim (cases_Bool (takes_up key link)) [
      | inl same ↦
          let none : root_in earlier key ≡ None = subst (λ k. root_in earlier k ≡ None) (same_exec-true link.key key same) (rootless earlier link.key fresh) in
          absurd (clash (sym is ∙ none))
      | inr passed ↦ rw passed is
    ]

pub knows-earlier : (split : Split) (link : Link) (earlier : List Link) → taker_in earlier link.key ≡ None → Knows split (link ∷ earlier) → Knows split earlier
knows-earlier split link earlier fresh knows = record { known = λ key root is. knows.known key root (root-behind link earlier key root fresh is) }

of-role :
    (split : Split) (n : ℕ) (key : ExecKey) (role : Role) (earlier : List Link) → reference_refusal earlier role ≡ None → Knows split earlier
    → Knows split (record { number = n; key = key; role = role } ∷ earlier) → (root : ExecKey) × IsOf split earlier key role root
of-role split n key Begins earlier accepted before after =
    let own : split.roots key ≡ Some key = after.known key key (rw (same_exec-refl key) refl) in
    (key, record { here = refl; known = own; refers = refl })
of-role split n key (Corrects reference) earlier accepted before after =
    let chain = accepted_root earlier reference (root_in earlier reference) accepted in
    let is : root_in earlier reference ≡ Some chain.0 = chain.1.root_is in
    let own : split.roots key ≡ Some chain.0 = after.known key chain.0 (rw (same_exec-refl key) is) in
    (chain.0, record { here = is; known = own; refers = before.known reference chain.0 is })
of-role split n key (Busts reference) earlier accepted before after =
    let chain = accepted_root earlier reference (root_in earlier reference) accepted in
    let is : root_in earlier reference ≡ Some chain.0 = chain.1.root_is in
    (chain.0, record { here = is; known = before.known reference chain.0 is; refers = before.known reference chain.0 is })

-- what is known of the newest of some links
record Newest (split : Split) (link : Link) (earlier : List Link) : Type 0 where
  chained : is_chained earlier ≡ true
  fresh : taker_in earlier link.key ≡ None
  before : Knows split earlier
  root : ExecKey
  is_of : IsOf split earlier link.key link.role root

newest : (split : Split) (link : Link) (earlier : List Link) → is_chained (link ∷ earlier) ≡ true → Knows split (link ∷ earlier) → Newest split link earlier
newest split link earlier chained knows =
    let parts : (is_none (link_refusal earlier link.key link.role) ≡ true) × (is_chained earlier ≡ true) = and_parts _ _ chained in
    let accepted = accepted_key earlier link.key link.role (none_is (link_refusal earlier link.key link.role) parts.0) in
    let before = knows-earlier split link earlier accepted.0 knows in
    let chain = of-role split link.number link.key link.role earlier accepted.1 before knows in
    record { chained = parts.1; fresh = accepted.0; before = before; root = chain.0; is_of = chain.1 }

-- a link that stays is of a chain that stays
kept-chain : (split : Split) (link : Link) (earlier : List Link) (new : Newest split link earlier) → split.keeps link ≡ true → split.goes (Some new.root) ≡ false
kept-chain split link earlier new kept = ap split.goes (sym new.is_of.known) ∙ split.kept link kept

-- what it refers to stays where it stays
pub refers-stays :
    (split : Split) (link : Link) (earlier : List Link) → is_chained (link ∷ earlier) ≡ true → Knows split (link ∷ earlier) → split.keeps link ≡ true
    → split.goes (chain_root split.roots link.key link.role) ≡ false
refers-stays split link earlier chained knows kept =
    let new = newest split link earlier chained knows in
    ap split.goes new.is_of.refers ∙ kept-chain split link earlier new kept

-- ---- roots

-- links whose keys of chains that stay have the roots that they had
abbrev pub SameRoots : Split → List Link → List Link → Type 0
SameRoots split links others = (key : ExecKey) → split.goes (split.roots key) ≡ false → root_in others key ≡ root_in links key

-- then a link of a chain that stays is of that chain among these links too
same-role :
    (split : Split) (links others : List Link) (key : ExecKey) (role : Role) (root : ExecKey) → chain_root split.roots key role ≡ Some root → split.goes (Some root) ≡ false
    → SameRoots split links others → chain_root (root_in others) key role ≡ chain_root (root_in links) key role
same-role split links others key Begins root is stays same = refl
same-role split links others key (Corrects reference) root is stays same = same reference (ap split.goes is ∙ stays)
same-role split links others key (Busts reference) root is stays same = same reference (ap split.goes is ∙ stays)

own-chain : (f g : ExecKey → Option ExecKey) (key : ExecKey) (role : Role) → chain_root f key role ≡ chain_root g key role → own_root f key role ≡ own_root g key role
own-chain f g key Begins same = refl
own-chain f g key (Corrects reference) same = same
own-chain f g key (Busts reference) same = refl

busts-chain : (links others : List Link) (root key : ExecKey) (role : Role) → chain_root (root_in links) key role ≡ chain_root (root_in others) key role → busts links root role ≡ busts others root role
busts-chain links others root key Begins same = refl
busts-chain links others root key (Corrects reference) same = refl
busts-chain links others root key (Busts reference) same = ap (is_root root) same

-- a Bust's own key has no root
own-bust : (f : ExecKey → Option ExecKey) (key : ExecKey) (role : Role) → brings_version role ≡ false → own_root f key role ≡ None
own-bust f key Begins none = cc
own-bust f key (Corrects reference) none = cc
own-bust f key (Busts reference) none = refl

-- a link that goes, and yet takes up a key of a chain that stays, is a Bust
gone-own : (split : Split) (f : ExecKey → Option ExecKey) (link : Link) → split.keeps link ≡ false → split.goes (split.roots link.key) ≡ false → own_root f link.key link.role ≡ None
gone-own split f link gone stays =
    elim (cases_Bool (brings_version link.role)) [
      | inl one ↦ absurd (differing (split.gone link one gone) stays)
      | inr none ↦ own-bust f link.key link.role none
    ]

pub root-stays : (split : Split) (links : List Link) → is_chained links ≡ true → Knows split links → SameRoots split links (filter split.keeps links)
root-stays split [] chained knows key stays = refl
root-stays split (link ∷ earlier) chained knows key stays =
    let new = newest split link earlier chained knows in
    let kept_links = filter split.keeps earlier in
    let before : SameRoots split earlier kept_links = root-stays split earlier new.chained new.before in
    elim (cases_Bool (split.keeps link)) [
      | inl kept ↦
          let same = own-chain (root_in kept_links) (root_in earlier) link.key link.role
          (same-role split earlier kept_links link.key link.role new.root new.is_of.refers (kept-chain split link earlier new kept) before) in
          rw (kept, same, before key stays) refl
      | inr gone ↦
          elim (cases_Bool (takes_up key link)) [
            | inl here ↦
                let one : link.key ≡ key = same_exec-true link.key key here in
                let none : root_in earlier key ≡ None = subst (λ k. root_in earlier k ≡ None) one (rootless earlier link.key new.fresh) in
                let own : own_root (root_in earlier) link.key link.role ≡ None = gone-own split (root_in earlier) link gone (ap (λ k. split.goes (split.roots k)) one ∙ stays) in
                rw (gone, here, own) (before key stays ∙ none)
            | inr passed ↦ rw (gone, passed) (before key stays)
          ]
    ]

-- ---- Busts and last versions

-- a chain that goes isn't one that stays
other-chain : (split : Split) (gone root : ExecKey) → split.goes (Some gone) ≡ true → split.goes (Some root) ≡ false → same_exec gone root ≡ false
other-chain split gone root goes stays =
    elim (cases_Bool (same_exec gone root)) [
      | inl same ↦ absurd (differing (ap (λ r. split.goes (Some r)) (sym (same_exec-true gone root same)) ∙ goes) stays)
      | inr apart ↦ apart
    ]

other-own : (f : ExecKey → Option ExecKey) (root key : ExecKey) (role : Role) → is_root root (chain_root f key role) ≡ false → is_root root (own_root f key role) ≡ false
other-own f root key Begins other = other
other-own f root key (Corrects reference) other = other
other-own f root key (Busts reference) other = refl

other-busts : (links : List Link) (root key : ExecKey) (role : Role) → is_root root (chain_root (root_in links) key role) ≡ false → busts links root role ≡ false
other-busts links root key Begins other = refl
other-busts links root key (Corrects reference) other = refl
other-busts links root key (Busts reference) other = other

-- a link of a chain that goes is of none that stays
gone-other :
    (split : Split) (link : Link) (earlier : List Link) (root : ExecKey) (new : Newest split link earlier) → split.goes (split.roots (chain_key link.key link.role)) ≡ true
    → split.goes (Some root) ≡ false → is_root root (chain_root (root_in earlier) link.key link.role) ≡ false
gone-other split link earlier root new goes stays =
    ap (is_root root) new.is_of.here ∙ other-chain split new.root root (ap split.goes (sym new.is_of.known) ∙ goes) stays

kept-busts :
    (split : Split) (link : Link) (earlier : List Link) (root : ExecKey) (new : Newest split link earlier) → split.keeps link ≡ true
    → busts (filter split.keeps earlier) root link.role ≡ busts earlier root link.role
kept-busts split link earlier root new kept =
    busts-chain (filter split.keeps earlier) earlier root link.key link.role
    (same-role split earlier (filter split.keeps earlier) link.key link.role new.root new.is_of.refers (kept-chain split link earlier new kept) (root-stays split earlier new.chained new.before))

-- a chain that stays, and that isn't busted, isn't busted now
pub unbusted-stays :
    (split : Split) (links : List Link) (root : ExecKey) → is_chained links ≡ true → Knows split links → bust_in links root ≡ None → bust_in (filter split.keeps links) root ≡ None
unbusted-stays split [] root chained knows none = refl
unbusted-stays split (link ∷ earlier) root chained knows none =
    let new = newest split link earlier chained knows in
    elim (cases_Bool (busts earlier root link.role)) [
      | inl busted ↦ absurd (clash (rw busted at none))
      | inr other ↦
          let rest = unbusted-stays split earlier root new.chained new.before (rw other at none) in
          elim (cases_Bool (split.keeps link)) [
            | inl kept ↦ rw (kept, kept-busts split link earlier root new kept, other) rest
            | inr gone ↦ rw gone rest
          ]
    ]

-- no Bust goes alone
abbrev pub GoWhole : Split → Type 0
GoWhole split = (link : Link) → split.keeps link ≡ false → split.goes (split.roots (chain_key link.key link.role)) ≡ true

-- then a chain that stays is busted by the same Bust
pub bust-stays :
    (split : Split) (links : List Link) (root : ExecKey) → is_chained links ≡ true → Knows split links → GoWhole split → split.goes (Some root) ≡ false
    → bust_in (filter split.keeps links) root ≡ bust_in links root
bust-stays split [] root chained knows whole stays = refl
bust-stays split (link ∷ earlier) root chained knows whole stays =
    let new = newest split link earlier chained knows in
    let before : bust_in (filter split.keeps earlier) root ≡ bust_in earlier root = bust-stays split earlier root new.chained new.before whole stays in
    elim (cases_Bool (split.keeps link)) [
      | inl kept ↦ rw (kept, kept-busts split link earlier root new kept, before) refl
      | inr gone ↦ rw (gone, other-busts earlier root link.key link.role (gone-other split link earlier root new (whole link gone) stays)) before
    ]

-- a link that goes brings no version to a chain that stays
gone-version :
    (split : Split) (link : Link) (earlier : List Link) (root : ExecKey) (new : Newest split link earlier) → split.keeps link ≡ false → split.goes (Some root) ≡ false
    → is_root root (own_root (root_in earlier) link.key link.role) ≡ false
gone-version split link earlier root new gone stays =
    elim (cases_Bool (brings_version link.role)) [
      | inl one ↦
          let goes = ap (λ key. split.goes (split.roots key)) (own_key link.key link.role one) ∙ split.gone link one gone in
          other-own (root_in earlier) root link.key link.role (gone-other split link earlier root new goes stays)
      | inr none ↦ ap (is_root root) (own-bust (root_in earlier) link.key link.role none)
    ]

pub current-stays :
    (split : Split) (links : List Link) (root : ExecKey) → is_chained links ≡ true → Knows split links → split.goes (Some root) ≡ false
    → current_in (filter split.keeps links) root ≡ current_in links root
current-stays split [] root chained knows stays = refl
current-stays split (link ∷ earlier) root chained knows stays =
    let new = newest split link earlier chained knows in
    let kept_links = filter split.keeps earlier in
    let before : current_in kept_links root ≡ current_in earlier root = current-stays split earlier root new.chained new.before stays in
    elim (cases_Bool (split.keeps link)) [
      | inl kept ↦
          let same = own-chain (root_in kept_links) (root_in earlier) link.key link.role
          (same-role split earlier kept_links link.key link.role new.root new.is_of.refers (kept-chain split link earlier new kept) (root-stays split earlier new.chained new.before)) in
          rw (kept, same, before) refl
      | inr gone ↦ rw (gone, gone-version split link earlier root new gone stays) before
    ]
