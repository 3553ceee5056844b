-- What one more link changes in the chains.
use Rattle.std.proofs.Common.{◌≡◌, ℕ, ◌<◌, ◌==◌, Bool, true, false, List, [], ◌∷◌, Option, Some, None, refl, sym, subst, ◌∙◌, arith, inl, inr, is_none, nat_lt, option_map, ltb-true, eqb-true, ne_eqb}
use Rattle.std.specs.Option.{option_or}
use Rattle.std.proofs.lemmas.Bool.{cases_Bool, and_parts}
use Rattle.blot_types.specs.declared.{keys.ExecKey.ExecKey, link.Link.Link, link.Role.Role, refused.Refused.Refused}
use Rattle.blot_types.specs.declared.link.Role.TheVariants.{Begins, Corrects, Busts}
use Rattle.blot_types.specs.declared.refused.Refused.TheVariants.{DuplicateExec, BustedExec}
use Rattle.blot_types.specs.Keys.{same_exec}
use Rattle.blot_types.specs.Chains.{takes_up, taker_in, own_root, root_in, is_root, busts, bust_in, current_in, chain_refusal, reference_refusal, link_refusal, is_above_links, falls}
use Rattle.blot_types.specs.Survivors.{is_number}
use Rattle.blot_types.proofs.KeyLemmas.{same_exec-true, same_exec-refl}

pub clash : {A : Type 0} {a : A} → Some a ≡ None → ⊥
clash e = cc

pub none_is : {A : Type 0} (o : Option A) → is_none o ≡ true → o ≡ None
none_is None is = refl
none_is (Some a) is = cc

pub differing : {b : Bool} → b ≡ true → b ≡ false → ⊥
differing t f = cc

-- a key that the links don't take up, link by link
pub fresh-parts : (link : Link) (earlier : List Link) (key : ExecKey) → taker_in (link ∷ earlier) key ≡ None → (takes_up key link ≡ false) × (taker_in earlier key ≡ None)
fresh-parts link earlier key fresh =
    elim (cases_Bool (takes_up key link)) [
      | inl taken ↦ absurd (clash (rw taken at fresh))
      | inr other ↦ (other, rw other at fresh)
    ]

own_root-fresh :
    (root : ExecKey → Option ExecKey) (key mine : ExecKey) (role : Role) → ((other : ExecKey) → is_root key (root other) ≡ false)
    → same_exec mine key ≡ false → is_root key (own_root root mine role) ≡ false
own_root-fresh root key mine Begins none other = other
own_root-fresh root key mine (Corrects reference) none other = none reference
own_root-fresh root key mine (Busts reference) none other = refl

-- such a key is no root, and no chain of it is busted
pub root-fresh : (links : List Link) (key other : ExecKey) → taker_in links key ≡ None → is_root key (root_in links other) ≡ false
root-fresh [] key other fresh = refl
root-fresh (link ∷ earlier) key other fresh =
    let parts = fresh-parts link earlier key fresh in
    elim (cases_Bool (takes_up other link)) [
      | inl taken ↦ rw taken (own_root-fresh (root_in earlier) key link.key link.role (λ reference. root-fresh earlier key reference parts.1) parts.0)
      | inr passed ↦ rw passed (root-fresh earlier key other parts.1)
    ]

busts-fresh : (earlier : List Link) (key : ExecKey) (role : Role) → taker_in earlier key ≡ None → busts earlier key role ≡ false
busts-fresh earlier key Begins fresh = refl
busts-fresh earlier key (Corrects reference) fresh = refl
busts-fresh earlier key (Busts reference) fresh = root-fresh earlier key reference fresh

pub bust-fresh : (links : List Link) (key : ExecKey) → taker_in links key ≡ None → bust_in links key ≡ None
bust-fresh [] key fresh = refl
bust-fresh (link ∷ earlier) key fresh =
    let parts = fresh-parts link earlier key fresh in
    rw (busts-fresh earlier key link.role parts.1) (bust-fresh earlier key parts.1)

-- a key that the links don't take up has no root
pub rootless : (links : List Link) (key : ExecKey) → taker_in links key ≡ None → root_in links key ≡ None
rootless [] key fresh = refl
rootless (link ∷ earlier) key fresh =
    let parts = fresh-parts link earlier key fresh in
    rw parts.0 (rootless earlier key parts.1)

-- what acceptance says: the key is new, and the reference has a root that isn't busted
key_accepted : (taker : Option ℕ) (reason : Option Refused) → option_or (option_map DuplicateExec taker) reason ≡ None → (taker ≡ None) × (reason ≡ None)
key_accepted None reason none = (refl, none)
key_accepted (Some number) reason none = cc

pub accepted_key : (links : List Link) (key : ExecKey) (role : Role) → link_refusal links key role ≡ None → (taker_in links key ≡ None) × (reference_refusal links role ≡ None)
accepted_key links key role accepted = key_accepted (taker_in links key) (reference_refusal links role) accepted

not_busted : (bust : Option ℕ) → option_map BustedExec bust ≡ None → bust ≡ None
not_busted None none = refl
not_busted (Some number) none = cc

-- a chain that a reference leads to, and that isn't busted
pub record LeadsTo (links : List Link) (found : Option ExecKey) (root : ExecKey) : Type 0 where
  pub root_is : found ≡ Some root
  pub not_busted : bust_in links root ≡ None

pub accepted_root : (links : List Link) (reference : ExecKey) (found : Option ExecKey) → chain_refusal links reference found ≡ None → (root : ExecKey) × LeadsTo links found root
accepted_root links reference None none = cc
accepted_root links reference (Some root) none = (root, record { root_is = refl; not_busted = not_busted (bust_in links root) none })

-- no chain's last version has a number that is above those of the links
pub current-below : (links : List Link) (number : ℕ) (root : ExecKey) → is_above_links number links ≡ true → is_number number (current_in links root) ≡ false
current-below [] number root below = refl
current-below (link ∷ earlier) number root below =
    let parts : (nat_lt link.number number ≡ true) × (is_above_links number earlier ≡ true) = and_parts _ _ below in
    let less : link.number < number = ltb-true _ _ parts.0 in
    elim (cases_Bool (is_root root (own_root (root_in earlier) link.key link.role))) [
      | inl own ↦ rw own (ne_eqb _ _ (λ same. absurd (omega (arith, same, less))))
      | inr other ↦ rw other (current-below earlier number root parts.1)
    ]

one_root : (a b : ExecKey) (root : Option ExecKey) → is_root a root ≡ true → is_root b root ≡ true → a ≡ b
one_root a b None first second = cc
one_root a b (Some root) first second = sym (same_exec-true root a first) ∙ same_exec-true root b second

differ : (a b : ExecKey) → same_exec a b ≡ false → a ≡ b → ⊥
differ a b apart same =
    differing (same_exec-refl a) (subst (λ key. same_exec a key ≡ false) (sym same) apart)

-- two chains have no last version in common
pub current-apart :
    (links : List Link) (a b : ExecKey) (number : ℕ) → falls links ≡ true → same_exec a b ≡ false
    → is_number number (current_in links a) ≡ true → is_number number (current_in links b) ≡ false
current-apart [] a b number fall apart of_a = refl
current-apart (link ∷ earlier) a b number fall apart of_a =
    let parts : (is_above_links link.number earlier ≡ true) × (falls earlier ≡ true) = and_parts _ _ fall in
    let own = own_root (root_in earlier) link.key link.role in
    elim (cases_Bool (is_root a own)) [
      | inl a_own ↦
          let is_it : link.number ≡ number = eqb-true _ _ (rw a_own at of_a) in
          elim (cases_Bool (is_root b own)) [
            | inl b_own ↦ absurd (differ a b apart (one_root a b own a_own b_own))
            | inr b_other ↦ rw (b_other, sym is_it) (current-below earlier link.number b parts.0)
          ]
      | inr a_other ↦
          let earlier_a : is_number number (current_in earlier a) ≡ true = rw a_other at of_a in
          elim (cases_Bool (is_root b own)) [
            | inl b_own ↦
                elim (cases_Bool (link.number == number)) [
                  | inl same ↦
                      let none : is_number number (current_in earlier a) ≡ false = rw (sym (eqb-true _ _ same)) (current-below earlier link.number a parts.0) in
                      absurd (differing earlier_a none)
                  | inr other ↦ rw (b_own, other) refl
                ]
            | inr b_other ↦ rw b_other (current-apart earlier a b number parts.1 apart earlier_a)
          ]
    ]
