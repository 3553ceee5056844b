-- Chained links without one of them, where the others are still chained: nobody refers to the key of the one that goes.
use Rattle.std.proofs.Common.{◌≡◌, ℕ, ◌<◌, ◌==◌, arith, true, false, List, [], ◌∷◌, ◌++◌, Option, Some, None, refl, sym, ap, subst, ◌∙◌, inl, inr, is_none, nat_lt, ltb-true, eqb-true, eq-eqb}
use Rattle.std.proofs.lemmas.Bool.{cases_Bool, and_parts}
use Rattle.blot_types.specs.declared.{keys.ExecKey.ExecKey, link.Link.Link, link.Role.Role}
use Rattle.blot_types.specs.declared.link.Role.TheVariants.{Begins, Corrects, Busts}
use Rattle.blot_types.specs.Keys.{same_exec}
use Rattle.blot_types.specs.Chains.{takes_up, taker_in, own_root, root_in, is_root, busts, bust_in, current_in, link_refusal, reference_refusal, is_chained, is_above_links, falls}
use Rattle.blot_types.specs.Survivors.{is_number}
use Rattle.blot_types.proofs.ChainLemmas.{clash, differing, none_is, fresh-parts, rootless, accepted_key, accepted_root, current-below}
use Rattle.blot_types.proofs.KeyLemmas.{same_exec-true, same_exec-refl, same_exec-sym}

-- a key that is taken up by none of the links isn't that of one of them
pub untaken : (later front : List Link) (k : Link) (key : ExecKey) → taker_in (later ++ k ∷ front) key ≡ None → same_exec k.key key ≡ false
untaken [] front k key fresh = (fresh-parts k front key fresh).0
untaken (link ∷ later) front k key fresh = untaken later front k key (fresh-parts link (later ++ k ∷ front) key fresh).1

pub taker-out : (later front : List Link) (k : Link) (key : ExecKey) → taker_in (later ++ k ∷ front) key ≡ None → taker_in (later ++ front) key ≡ None
taker-out [] front k key fresh = (fresh-parts k front key fresh).1
taker-out (link ∷ later) front k key fresh =
    let parts = fresh-parts link (later ++ k ∷ front) key fresh in
    rw parts.0 (taker-out later front k key parts.1)

-- none of the others takes up its key
pub key-out : (later front : List Link) (k : Link) → is_chained (later ++ k ∷ front) ≡ true → taker_in (later ++ front) k.key ≡ None
key-out [] front k chained =
    let parts : (is_none (link_refusal front k.key k.role) ≡ true) × (is_chained front ≡ true) = and_parts _ _ chained in
    (accepted_key front k.key k.role (none_is _ parts.0)).0
key-out (link ∷ later) front k chained =
    let parts : (is_none (link_refusal (later ++ k ∷ front) link.key link.role) ≡ true) × (is_chained (later ++ k ∷ front) ≡ true) = and_parts _ _ chained in
    let fresh = accepted_key (later ++ k ∷ front) link.key link.role (none_is _ parts.0) in
    let other : takes_up k.key link ≡ false = same_exec-sym link.key k.key ∙ untaken later front k link.key fresh.0 in
    rw other (key-out later front k parts.1)

-- an execution that has a root isn't one that nobody takes up
pub rooted-other : (links : List Link) (key reference root : ExecKey) → taker_in links key ≡ None → root_in links reference ≡ Some root → same_exec key reference ≡ false
rooted-other links key reference root fresh is =
    elim (cases_Bool (same_exec key reference)) [
      | inl same ↦
          let none : root_in links reference ≡ None = subst (λ r. root_in links r ≡ None) (same_exec-true key reference same) (rootless links key fresh) in
          absurd (clash (sym is ∙ none))
      | inr other ↦ other
    ]

-- ---- roots

abbrev pub SameRoots : List Link → List Link → ExecKey → Type 0
SameRoots links others gone = (key : ExecKey) → same_exec gone key ≡ false → root_in others key ≡ root_in links key

-- what an accepted role refers to isn't the key that is gone
pub own-other : (links others : List Link) (gone key : ExecKey) (role : Role) → SameRoots links others gone → taker_in others gone ≡ None → reference_refusal others role ≡ None → own_root (root_in others) key role ≡ own_root (root_in links) key role
own-other links others gone key Begins same fresh accepted = refl
own-other links others gone key (Corrects reference) same fresh accepted =
    let chain = accepted_root others reference (root_in others reference) accepted in
    same reference (rooted-other others gone reference chain.0 fresh chain.1.root_is)
own-other links others gone key (Busts reference) same fresh accepted = refl

pub busts-other : (links others : List Link) (gone root : ExecKey) (role : Role) → SameRoots links others gone → taker_in others gone ≡ None → reference_refusal others role ≡ None → busts others root role ≡ busts links root role
busts-other links others gone root Begins same fresh accepted = refl
busts-other links others gone root (Corrects reference) same fresh accepted = refl
busts-other links others gone root (Busts reference) same fresh accepted =
    let chain = accepted_root others reference (root_in others reference) accepted in
    ap (is_root root) (same reference (rooted-other others gone reference chain.0 fresh chain.1.root_is))

-- the newest of the links, in the whole list and without the one that goes
record Newest (later front : List Link) (k link : Link) : Type 0 where
  whole : is_chained (later ++ k ∷ front) ≡ true
  out : is_chained (later ++ front) ≡ true
  fresh : taker_in (later ++ front) k.key ≡ None
  accepted : reference_refusal (later ++ front) link.role ≡ None

newest : (later front : List Link) (k link : Link) → is_chained (link ∷ later ++ k ∷ front) ≡ true → is_chained (link ∷ later ++ front) ≡ true → Newest later front k link
newest later front k link whole out =
    let wholes : (is_none (link_refusal (later ++ k ∷ front) link.key link.role) ≡ true) × (is_chained (later ++ k ∷ front) ≡ true) = and_parts _ _ whole in
    let outs : (is_none (link_refusal (later ++ front) link.key link.role) ≡ true) × (is_chained (later ++ front) ≡ true) = and_parts _ _ out in
    record {
      whole = wholes.1;
      out = outs.1;
      fresh = key-out later front k wholes.1;
      accepted = (accepted_key (later ++ front) link.key link.role (none_is _ outs.0)).1;
    }

-- each other key has its root
pub root-out : (later front : List Link) (k : Link) → is_chained (later ++ k ∷ front) ≡ true → is_chained (later ++ front) ≡ true → SameRoots (later ++ k ∷ front) (later ++ front) k.key
root-out [] front k whole out key other = rw other refl
root-out (link ∷ later) front k whole out key other =
    let new = newest later front k link whole out in
    let before = root-out later front k new.whole new.out in
    let own = own-other (later ++ k ∷ front) (later ++ front) k.key link.key link.role before new.fresh new.accepted in
    rw (own, before key other) refl

-- ---- Busts and last versions

pub bust-out : (later front : List Link) (k : Link) (root : ExecKey) → is_chained (later ++ k ∷ front) ≡ true → is_chained (later ++ front) ≡ true → bust_in (later ++ k ∷ front) root ≡ None → bust_in (later ++ front) root ≡ None
bust-out [] front k root whole out none =
    elim (cases_Bool (busts front root k.role)) [
      | inl busted ↦ absurd (clash (rw busted at none))
      | inr other ↦ rw other at none
    ]
bust-out (link ∷ later) front k root whole out none =
    let new = newest later front k link whole out in
    let same = busts-other (later ++ k ∷ front) (later ++ front) k.key root link.role (root-out later front k new.whole new.out) new.fresh new.accepted in
    elim (cases_Bool (busts (later ++ k ∷ front) root link.role)) [
      | inl busted ↦ absurd (clash (rw busted at none))
      | inr other ↦
          let rest = bust-out later front k root new.whole new.out (rw other at none) in
          rw (same, other) rest
    ]

-- a chain to which it brought no version has its last version
pub current-beside : (later front : List Link) (k : Link) (root : ExecKey) → is_chained (later ++ k ∷ front) ≡ true → is_chained (later ++ front) ≡ true → is_root root (own_root (root_in front) k.key k.role) ≡ false
    → current_in (later ++ front) root ≡ current_in (later ++ k ∷ front) root
current-beside [] front k root whole out other = rw other refl
current-beside (link ∷ later) front k root whole out other =
    let new = newest later front k link whole out in
    let own = own-other (later ++ k ∷ front) (later ++ front) k.key link.key link.role (root-out later front k new.whole new.out) new.fresh new.accepted in
    rw (own, current-beside later front k root new.whole new.out other) refl

-- a key whose own link has no root has none
pub bust-key : (later front : List Link) (k : Link) → is_chained (later ++ k ∷ front) ≡ true → ((root : ExecKey → Option ExecKey) → own_root root k.key k.role ≡ None) → root_in (later ++ k ∷ front) k.key ≡ None
bust-key [] front k whole none = rw (same_exec-refl k.key, none (root_in front)) refl
bust-key (link ∷ later) front k whole none =
    let parts : (is_none (link_refusal (later ++ k ∷ front) link.key link.role) ≡ true) × (is_chained (later ++ k ∷ front) ≡ true) = and_parts _ _ whole in
    let fresh = accepted_key (later ++ k ∷ front) link.key link.role (none_is _ parts.0) in
    let other : takes_up k.key link ≡ false = same_exec-sym link.key k.key ∙ untaken later front k link.key fresh.0 in
    rw other (bust-key later front k parts.1 none)

-- ---- the chain to which it brought a version

-- a chain whose last version is another has its last version
pub current-behind : (later front : List Link) (k : Link) (root : ExecKey) → is_chained (later ++ k ∷ front) ≡ true → is_chained (later ++ front) ≡ true → is_number k.number (current_in (later ++ k ∷ front) root) ≡ false
    → current_in (later ++ front) root ≡ current_in (later ++ k ∷ front) root
current-behind [] front k root whole out other =
    elim (cases_Bool (is_root root (own_root (root_in front) k.key k.role))) [
      | inl own ↦ (let self : (k.number == k.number) ≡ false = rw own at other in absurd (differing (eq-eqb k.number k.number refl) self))
      | inr passed ↦ rw passed refl
    ]
current-behind (link ∷ later) front k root whole out other =
    let new = newest later front k link whole out in
    let own = own-other (later ++ k ∷ front) (later ++ front) k.key link.key link.role (root-out later front k new.whole new.out) new.fresh new.accepted in
    elim (cases_Bool (is_root root (own_root (root_in (later ++ k ∷ front)) link.key link.role))) [
      | inl mine ↦ rw (own, mine) refl
      | inr passed ↦
          let rest = current-behind later front k root new.whole new.out (rw passed at other) in
          rw (own, passed) rest
    ]

link-below : (n : ℕ) (later front : List Link) (k : Link) → is_above_links n (later ++ k ∷ front) ≡ true → k.number < n
link-below n [] front k above =
    let parts : (nat_lt k.number n ≡ true) × (is_above_links n front ≡ true) = and_parts _ _ above in
    ltb-true _ _ parts.0
link-below n (link ∷ later) front k above =
    let parts : (nat_lt link.number n ≡ true) × (is_above_links n (later ++ k ∷ front) ≡ true) = and_parts _ _ above in
    link-below n later front k parts.1

-- what a chain has of which it is the last version: it is of that chain, and without it the last version is that before it
pub record IsLast (later front : List Link) (k : Link) (root : ExecKey) : Type 0 where
  pub own : is_root root (own_root (root_in front) k.key k.role) ≡ true
  pub before : current_in (later ++ front) root ≡ current_in front root

pub current-back : (later front : List Link) (k : Link) (root : ExecKey) → is_chained (later ++ k ∷ front) ≡ true → is_chained (later ++ front) ≡ true → falls (later ++ k ∷ front) ≡ true
    → is_number k.number (current_in (later ++ k ∷ front) root) ≡ true → IsLast later front k root
current-back [] front k root whole out fall last =
    let falling : (is_above_links k.number front ≡ true) × (falls front ≡ true) = and_parts _ _ fall in
    elim (cases_Bool (is_root root (own_root (root_in front) k.key k.role))) [
      | inl own ↦ record { own = own; before = refl }
      | inr passed ↦ absurd (differing (rw passed at last) (current-below front k.number root falling.0))
    ]
current-back (link ∷ later) front k root whole out fall last =
    let new = newest later front k link whole out in
    let falling : (is_above_links link.number (later ++ k ∷ front) ≡ true) × (falls (later ++ k ∷ front) ≡ true) = and_parts _ _ fall in
    let own = own-other (later ++ k ∷ front) (later ++ front) k.key link.key link.role (root-out later front k new.whole new.out) new.fresh new.accepted in
    elim (cases_Bool (is_root root (own_root (root_in (later ++ k ∷ front)) link.key link.role))) [
      | inl mine ↦
          let same : (link.number == k.number) ≡ true = rw mine at last in
          let is : link.number ≡ k.number = eqb-true _ _ same in
          let less : k.number < link.number = link-below link.number later front k falling.0 in
          absurd (omega (arith, is, less))
      | inr passed ↦
          let rest = current-back later front k root new.whole new.out falling.1 (rw passed at last) in
          record { own = rest.own; before = rw (own, passed) rest.before }
    ]

-- a key that has a root keeps it, whatever comes later
pub root-older : (later before : List Link) (key root : ExecKey) → is_chained (later ++ before) ≡ true → root_in before key ≡ Some root → root_in (later ++ before) key ≡ Some root
root-older [] before key root chained is = is
root-older (link ∷ later) before key root chained is =
    let parts : (is_none (link_refusal (later ++ before) link.key link.role) ≡ true) × (is_chained (later ++ before) ≡ true) = and_parts _ _ chained in
    let rest = root-older later before key root parts.1 is in
    let fresh = accepted_key (later ++ before) link.key link.role (none_is _ parts.0) in
    let other : takes_up key link ≡ false = rooted-other (later ++ before) link.key key root fresh.0 rest in
    rw other rest
