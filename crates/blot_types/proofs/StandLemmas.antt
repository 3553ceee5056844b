-- Which versions stand after one more link.
use Rattle.std.proofs.Common.{◌≡◌, ℕ, ◌<◌, Bool, true, false, ◌&&◌, List, ◌∷◌, Option, Some, None, refl, sym, ap, ◌∙◌, arith, inl, inr, is_none, is_some, not, if◌then◌else◌, ne_eqb, eq-eqb}
use Rattle.std.proofs.lemmas.Bool.{cases_Bool}
use Rattle.blot_types.specs.declared.{keys.ExecKey.ExecKey, lines.Version.Version, link.Link.Link, link.Role.Role}
use Rattle.blot_types.specs.declared.link.Role.TheVariants.{Begins, Corrects, Busts}
use Rattle.blot_types.specs.Keys.{same_exec}
use Rattle.blot_types.specs.Chains.{takes_up, taker_in, own_root, root_in, is_root, bust_in, current_in, reference_refusal, link_refusal, replaced_in, falls, brings_version}
use Rattle.blot_types.specs.Survivors.{is_number, stands_under, stands_in}
use Rattle.blot_types.proofs.KeyLemmas.{same_exec-true, same_exec-refl, same_exec-sym}
use Rattle.blot_types.proofs.ChainLemmas.{root-fresh, bust-fresh, accepted_key, accepted_root, current-apart, differing}
use Rattle.blot_types.proofs.GeneralLemmas.{and-true, and-false}

-- a test is never passed together with its contrary
pub and-not : (a b : Bool) → ((a && b) && not b) ≡ false
and-not true true = refl
and-not true false = refl
and-not false b = refl

-- where no version of a number can both be this chain's last and another's
pub and-apart : (a b c : Bool) → (b ≡ true → c ≡ false) → (a && b) ≡ ((a && b) && not c)
and-apart true true c apart = rw (apart refl) refl
and-apart true false c apart = refl
and-apart false b c apart = refl

-- the version of a number stands under a root where no Bust ended the root's chain, and it is the chain's last version
abbrev stands_both : List Link → ℕ → ExecKey → Bool
stands_both links number root = is_none (bust_in links root) && is_number number (current_in links root)

last-both : (free : Bool) (number : ℕ) (last : Option ℕ) → is_number number (if free then last else None) ≡ (free && is_number number last)
last-both true number last = refl
last-both false number last = refl

pub stands-both :
    (links : List Link) (number : ℕ) (root : ExecKey) → stands_under links number (Some root) ≡ (is_none (bust_in links root) && is_number number (current_in links root))
stands-both links number root = last-both (is_none (bust_in links root)) number (current_in links root)

-- the version of a number, after a link that begins another chain
step-begins :
    (links : List Link) (n number : ℕ) (key root : ExecKey) → same_exec key root ≡ false
    → stands_both (record { number = n; key = key; role = Begins } ∷ links) number root
    ≡ (stands_both links number root && not (is_number number (replaced_in links Begins)))
step-begins links n number key root apart = rw apart (sym (and-true (stands_both links number root)))

-- after a link that refers to the chain of `found`
step-corrects :
    (links : List Link) (n number : ℕ) (key reference root found : ExecKey) → falls links ≡ true → (n ≡ number → ⊥) → root_in links reference ≡ Some found
    → stands_both (record { number = n; key = key; role = Corrects reference } ∷ links) number root
    ≡ (stands_both links number root && not (is_number number (replaced_in links (Corrects reference))))
step-corrects links n number key reference root found fall later is =
    elim (cases_Bool (same_exec found root)) [
      | inl same ↦
          let one : found ≡ root = same_exec-true found root same in
          rw (is, same, ne_eqb n number later, one)
          (and-false (is_none (bust_in links root)) ∙ sym (and-not (is_none (bust_in links root)) (is_number number (current_in links root))))
      | inr other ↦
          rw (is, other)
          (and-apart (is_none (bust_in links root)) (is_number number (current_in links root)) (is_number number (current_in links found))
          (current-apart links root found number fall (same_exec-sym root found ∙ other)))
    ]

step-busts :
    (links : List Link) (n number : ℕ) (key reference root found : ExecKey) → falls links ≡ true → root_in links reference ≡ Some found
    → stands_both (record { number = n; key = key; role = Busts reference } ∷ links) number root
    ≡ (stands_both links number root && not (is_number number (replaced_in links (Busts reference))))
step-busts links n number key reference root found fall is =
    elim (cases_Bool (same_exec found root)) [
      | inl same ↦
          let one : found ≡ root = same_exec-true found root same in
          rw (is, same, one) (sym (and-not (is_none (bust_in links root)) (is_number number (current_in links root))))
      | inr other ↦
          rw (is, other)
          (and-apart (is_none (bust_in links root)) (is_number number (current_in links root)) (is_number number (current_in links found))
          (current-apart links root found number fall (same_exec-sym root found ∙ other)))
    ]

-- the version of a number and a root stands after one more link where it stood before, and the link doesn't
-- take its place
stands-step :
    (links : List Link) (n number : ℕ) (key root : ExecKey) (role : Role) → falls links ≡ true → (n ≡ number → ⊥)
    → reference_refusal links role ≡ None → same_exec key root ≡ false
    → stands_both (record { number = n; key = key; role = role } ∷ links) number root
    ≡ (stands_both links number root && not (is_number number (replaced_in links role)))
stands-step links n number key root Begins fall later accepted apart = step-begins links n number key root apart
stands-step links n number key root (Corrects reference) fall later accepted apart =
    let chain = accepted_root links reference (root_in links reference) accepted in
    step-corrects links n number key reference root chain.0 fall later chain.1.root_is
stands-step links n number key root (Busts reference) fall later accepted apart =
    let chain = accepted_root links reference (root_in links reference) accepted in
    step-busts links n number key reference root chain.0 fall chain.1.root_is

-- the same, where the root is the one that a key has
stands-by_root :
    (links : List Link) (link : Link) (number : ℕ) (found : Option ExecKey) → falls links ≡ true → (link.number ≡ number → ⊥)
    → reference_refusal links link.role ≡ None → is_root link.key found ≡ false
    → stands_under (link ∷ links) number found ≡ (stands_under links number found && not (is_number number (replaced_in links link.role)))
stands-by_root links link number None fall later accepted apart = refl
stands-by_root links link number (Some root) fall later accepted apart =
    stands-both (link ∷ links) number root
    ∙ stands-step links link.number number link.key root link.role fall later accepted (same_exec-sym link.key root ∙ apart)
    ∙ ap (λ stands. stands && not (is_number number (replaced_in links link.role))) (sym (stands-both links number root))

-- a key that is taken up isn't one that isn't
pub taken_other : (links : List Link) (key other : ExecKey) → taker_in links key ≡ None → is_some (taker_in links other) ≡ true → same_exec key other ≡ false
taken_other links key other fresh taken =
    elim (cases_Bool (same_exec key other)) [
      | inl same ↦
          let none : is_some (taker_in links other) ≡ false = ap (λ k. is_some (taker_in links k)) (sym (same_exec-true key other same)) ∙ ap is_some fresh in
          absurd (differing taken none)
      | inr apart ↦ apart
    ]

-- a version among the links stands after one more where it stood before, and its place isn't taken
pub stands-older :
    (links : List Link) (link : Link) (version : Version) → falls links ≡ true → link_refusal links link.key link.role ≡ None
    → version.number < link.number → is_some (taker_in links version.key) ≡ true
    → stands_in (link ∷ links) version ≡ (stands_in links version && not (is_number version.number (replaced_in links link.role)))
stands-older links link version fall accepted older taken =
    let parts = accepted_key links link.key link.role accepted in
    let other : takes_up version.key link ≡ false = taken_other links link.key version.key parts.0 taken in
    rw other (stands-by_root links link version.number (root_in links version.key) fall (λ same. absurd (omega (arith, same, older))) parts.1 (root-fresh links link.key version.key parts.0))

-- the version that the new link brings stands
new-corrects :
    (links : List Link) (n : ℕ) (key reference root : ExecKey) → root_in links reference ≡ Some root → bust_in links root ≡ None
    → stands_under (record { number = n; key = key; role = Corrects reference } ∷ links) n (Some root) ≡ true
new-corrects links n key reference root is live = rw (is, live, same_exec-refl root) (eq-eqb n n refl)

new-stands :
    (links : List Link) (n : ℕ) (key : ExecKey) (role : Role) → taker_in links key ≡ None → reference_refusal links role ≡ None → brings_version role ≡ true
    → stands_under (record { number = n; key = key; role = role } ∷ links) n (own_root (root_in links) key role) ≡ true
new-stands links n key Begins fresh accepted is_version = rw (bust-fresh links key fresh, same_exec-refl key) (eq-eqb n n refl)
new-stands links n key (Corrects reference) fresh accepted is_version =
    let chain = accepted_root links reference (root_in links reference) accepted in
    let stood = new-corrects links n key reference chain.0 chain.1.root_is chain.1.not_busted in
    ap (stands_under (record { number = n; key = key; role = Corrects reference } ∷ links) n) chain.1.root_is ∙ stood
new-stands links n key (Busts reference) fresh accepted is_version = cc

own-root :
    (links : List Link) (link : Link) → root_in (link ∷ links) link.key ≡ own_root (root_in links) link.key link.role
own-root links link = rw (same_exec-refl link.key) refl

pub stands-new :
    (links : List Link) (link : Link) (version : Version) → link_refusal links link.key link.role ≡ None → brings_version link.role ≡ true
    → version.number ≡ link.number → version.key ≡ link.key → stands_in (link ∷ links) version ≡ true
stands-new links link version accepted is_version number key =
    let parts = accepted_key links link.key link.role accepted in
    ap (λ n. stands_under (link ∷ links) n (root_in (link ∷ links) version.key)) number
    ∙ ap (λ k. stands_under (link ∷ links) link.number (root_in (link ∷ links) k)) key
    ∙ ap (stands_under (link ∷ links) link.number) (own-root links link)
    ∙ new-stands links link.number link.key link.role parts.0 parts.1 is_version
