-- The parts of the positions: what moves where a chain is named, or isn't any more.
use Rattle.std.proofs.Common.{◌≡◌, ℕ, ◌==◌, Bool, true, false, ◌&&◌, ◌+ℤ◌, arith, List, [], ◌∷◌, map, reverse, Option, Some, None, refl, sym, ap, subst, ◌∙◌, inl, inr, ℤ, neg_ℤ, unsigned_abs, filter, find, is_none, not, IsTrue, if◌then◌else◌, option_and_then, eqb-true, eq-eqb}
use Rattle.std.specs.List.{cons_option}
use Rattle.std.specs.Option.{option_map_or}
use Rattle.std.proofs.lemmas.Bool.{cases_Bool, not-true}
use Rattle.std.proofs.lemmas.Int.{ints}
use Rattle.std.proofs.lemmas.List.{reverse-reverse}
use Rattle.std.proofs.lemmas.List.Elements.{All-weaker, filter_passes}
use Rattle.blot_types.specs.declared.{command.Entry.Entry, fill.Sign.Sign, keys.ExecKey.ExecKey, part.Part.Part, lines.Version.Version, link.Link.Link}
use Rattle.blot_types.specs.declared.fill.Sign.TheVariants.{Buy, Sell}
use Rattle.blot_types.specs.Chains.{root_in, is_root, bust_in, current_in}
use Rattle.blot_types.specs.Keys.{same_exec}
use Rattle.blot_types.specs.Laws.{is_of_chain, survivors_of_chain}
use Rattle.blot_types.specs.Legal.{is_book}
use Rattle.blot_types.specs.Order.{total}
use Rattle.blot_types.specs.Position.{signed, part_of_fill}
use Rattle.blot_types.specs.StandingVersion.{standing}
use Rattle.blot_types.specs.Survivors.{is_number, links_of, versions_of, stands_under, stands_in, survivors}
use Rattle.blot_types.proofs.KeyLemmas.{same_exec-true, same_exec-refl}
use Rattle.blot_types.proofs.LawLemmas.{filter-none, alone, stands-number, busted_none, stands_of, book_parts}
use Rattle.blot_types.proofs.SumLemmas.{total-map, total-filter, total-agree, total-same}
use Rattle.blot_types.proofs.StandLemmas.{stands-both}
use Rattle.blot_types.proofs.SurvivorLemmas.{IsCurrent, filter-and, find-passes, current-found}
use Rattle.blot_types.proofs.GeneralLemmas.{and-false, all-of}

-- ---- how large a part is

-- a sign changes no size
pub neg-size : (amount : ℤ) → unsigned_abs (neg_ℤ amount) ≡ unsigned_abs amount
neg-size amount = omega (arith, ints)

pub signed-size : (sign : Sign) (amount : ℤ) → unsigned_abs (signed sign amount) ≡ unsigned_abs amount
signed-size Buy amount = refl
signed-size Sell amount = neg-size amount

-- ---- lists

-- ---- the version that stands of a chain

no_last :
    (links : List Link) (root : ExecKey) (n : ℕ) (found : Option ExecKey) → current_in links root ≡ None → (stands_under links n found && is_root root found) ≡ false
no_last links root n None none = refl
no_last links root n (Some other) none =
    elim (cases_Bool (same_exec other root)) [
      | inl same ↦
          let one : other ≡ root = same_exec-true other root same in
          let fallen : stands_under links n (Some root) ≡ false =
          stands-both links n root ∙ ap (λ last. is_none (bust_in links root) && is_number n last) none ∙ and-false (is_none (bust_in links root)) in
          ap (λ key. stands_under links n (Some key) && is_root root (Some key)) one ∙ ap (λ stands. stands && is_root root (Some root)) fallen
      | inr apart ↦ rw apart (and-false (stands_under links n (Some other)))
    ]

chain_by_links : (list : List Entry) (root : ExecKey) → survivors_of_chain list root ≡ filter (stands_of (links_of list) root) (versions_of list)
chain_by_links list root = sym (filter-and (stands_in (links_of list)) (λ version. is_root root (root_in (links_of list) version.key)) (versions_of list))

chain_none : (list : List Entry) (root : ExecKey) → current_in (links_of list) root ≡ None → survivors_of_chain list root ≡ []
chain_none list root none =
    chain_by_links list root
    ∙ filter-none (stands_of (links_of list) root) (versions_of list)
    (all-of (λ version. stands_of (links_of list) root version ≡ false) (versions_of list) (λ version. no_last (links_of list) root version.number (root_in (links_of list) version.key) none))

chain_one :
    (list : List Entry) (root : ExecKey) (number : ℕ) → IsTrue (is_book list) → bust_in (links_of list) root ≡ None → current_in (links_of list) root ≡ Some number
    → survivors_of_chain list root ≡ cons_option (find (λ v. v.number == number) (versions_of list)) []
chain_one list root number book live current =
    let parts = book_parts list book in
    let links = links_of list in
    let last = current-found (reverse list) root number parts.1 parts.0 current in
    let it : IsCurrent list root number last.0 = subst (λ l. IsCurrent l root number last.0) (reverse-reverse list) last.1 in
    let same : last.0.number ≡ number = eqb-true _ _ (find-passes (λ v. v.number == number) (versions_of list) last.0 it.found) in
    let stands : stands_of links root last.0 ≡ true = rw (it.root_is, live, current, same_exec-refl root) (rw (eq-eqb number last.0.number (sym same)) refl) in
    let only : (version : Version) → stands_of links root version ≡ true → version.number ≡ number =
    λ version both. stands-number links root version.number number (root_in links version.key) current both in
    let found : find (λ v. v.number == number) (versions_of (reverse (reverse list))) ≡ Some last.0 = last.1.found in
    let one : filter (stands_of links root) (versions_of list) ≡ last.0 ∷ [] =
    ap (λ l. filter (stands_of links root) (versions_of l)) (sym (reverse-reverse list)) ∙ alone (stands_of links root) number (reverse list) last.0 parts.0 only stands found in
    chain_by_links list root ∙ one ∙ ap (λ brought. cons_option brought []) (sym it.found)

chain_by_current :
    (list : List Entry) (root : ExecKey) (current : Option ℕ) → IsTrue (is_book list) → bust_in (links_of list) root ≡ None → current_in (links_of list) root ≡ current
    → survivors_of_chain list root ≡ cons_option (option_and_then (λ number. find (λ v. v.number == number) (versions_of list)) current) []
chain_by_current list root None book live is = chain_none list root is
chain_by_current list root (Some number) book live is = chain_one list root number book live is

chain_by_bust :
    (list : List Entry) (root : ExecKey) (bust : Option ℕ) → IsTrue (is_book list) → bust_in (links_of list) root ≡ bust
    → survivors_of_chain list root
    ≡ cons_option (option_and_then (λ number. find (λ v. v.number == number) (versions_of list)) (if is_none bust then current_in (links_of list) root else None)) []
chain_by_bust list root None book is = chain_by_current list root (current_in (links_of list) root) book is refl
chain_by_bust list root (Some number) book is = busted_none list root number is

-- the survivors of a chain are that one, or none
pub chain-standing : (list : List Entry) (root : ExecKey) → IsTrue (is_book list) → survivors_of_chain list root ≡ cons_option (standing list root) []
chain-standing list root book = chain_by_bust list root (bust_in (links_of list) root) book refl

-- ---- the parts of survivors, where some chains are named

abbrev pub named_at : (ExecKey → Bool) → Option ExecKey → Bool
named_at named root = option_map_or named root false

abbrev pub part_under : (ExecKey → Bool) → List Link → Version → Part
part_under named links version = part_of_fill (named_at named (root_in links version.key)) version.fill

abbrev pub parts_under : (ExecKey → Bool) → List Link → List Version → List Part
parts_under named links versions = map (part_under named links) versions

same_at : (a b : ExecKey → Bool) → ((root : ExecKey) → a root ≡ b root) → (root : Option ExecKey) → named_at a root ≡ named_at b root
same_at a b same None = refl
same_at a b same (Some root) = same root

-- where the same chains are named, the parts are the same
pub total-named :
    (f : Part → ℤ) (a b : ExecKey → Bool) (links : List Link) (versions : List Version) → ((root : ExecKey) → a root ≡ b root)
    → total f (parts_under a links versions) ≡ total f (parts_under b links versions)
total-named f a b links versions same =
    total-map f (part_under a links) versions
    ∙ total-same (λ v. f (part_under a links v)) (λ v. f (part_under b links v)) versions
    (λ v. ap (λ named. f (part_of_fill named v.fill)) (same_at a b same (root_in links v.key)))
    ∙ sym (total-map f (part_under b links) versions)

-- one chain more is named: the others are as they were
pub record NamesMore (root : ExecKey) (before after : ExecKey → Bool) : Type 0 where
  pub was : before root ≡ false
  pub is : after root ≡ true
  pub others : (other : ExecKey) → same_exec other root ≡ false → before other ≡ after other

of_root : (named : ExecKey → Bool) (root : ExecKey) (value : Bool) (found : Option ExecKey) → named root ≡ value → is_root root found ≡ true → named_at named found ≡ value
of_root named root value None is here = cc
of_root named root value (Some other) is here = ap named (same_exec-true other root here) ∙ is

of_other : (root : ExecKey) (before after : ExecKey → Bool) (found : Option ExecKey) → ((other : ExecKey) → same_exec other root ≡ false → before other ≡ after other) → is_root root found ≡ false → named_at before found ≡ named_at after found
of_other root before after None others apart = refl
of_other root before after (Some other) others apart = others other apart

-- the sum of the parts of the survivors that pass a test, all named or all not
side :
    (f : Part → ℤ) (value : Bool) (named : ExecKey → Bool) (root : ExecKey) (list : List Entry) → named root ≡ value
    → total (λ v. f (part_under named (links_of list) v)) (survivors_of_chain list root) ≡ total (λ v. f (part_of_fill value v.fill)) (survivors_of_chain list root)
side f value named root list is =
    total-agree (λ v. f (part_under named (links_of list) v)) (λ v. f (part_of_fill value v.fill)) (survivors_of_chain list root)
    (All-weaker (λ v. is_of_chain list root v ≡ true) (λ v. f (part_under named (links_of list) v) ≡ f (part_of_fill value v.fill))
    (λ v here. ap (λ flag. f (part_of_fill flag v.fill)) (of_root named root value (root_in (links_of list) v.key) is here))
    (survivors_of_chain list root) (filter_passes (is_of_chain list root) (survivors list)))

-- what moves where a chain is named: the parts of its survivors leave their own accounts for the house account
pub total-names_more :
    (f : Part → ℤ) (list : List Entry) (root : ExecKey) (before after : ExecKey → Bool) → NamesMore root before after
    → (total f (parts_under after (links_of list) (survivors list)) +ℤ total (λ v. f (part_of_fill false v.fill)) (survivors_of_chain list root))
    ≡ (total f (parts_under before (links_of list) (survivors list)) +ℤ total (λ v. f (part_of_fill true v.fill)) (survivors_of_chain list root))
total-names_more f list root before after more =
    let links = links_of list in
    let p = is_of_chain list root in
    let rest = filter (λ v. not (p v)) (survivors list) in
    let split_after = total-map f (part_under after links) (survivors list) ∙ total-filter (λ v. f (part_under after links v)) p (survivors list) in
    let split_before = total-map f (part_under before links) (survivors list) ∙ total-filter (λ v. f (part_under before links v)) p (survivors list) in
    let same : total (λ v. f (part_under before links v)) rest ≡ total (λ v. f (part_under after links v)) rest =
    total-agree (λ v. f (part_under before links v)) (λ v. f (part_under after links v)) rest
    (All-weaker (λ v. not (p v) ≡ true) (λ v. f (part_under before links v) ≡ f (part_under after links v))
    (λ v other. ap (λ flag. f (part_of_fill flag v.fill)) (of_other root before after (root_in links v.key) more.others (not-true (p v) other)))
    rest (filter_passes (λ v. not (p v)) (survivors list))) in
    let side_after = side f true after root list more.is in
    let side_before = side f false before root list more.was in
    omega (arith, ints, split_after, split_before, same, side_after, side_before)

-- the same, told apart: the parts of the chain's survivors, and the rest, which stays
pub record MovesChain (f : Part → ℤ) (list : List Entry) (root : ExecKey) (before after : ExecKey → Bool) : Type 0 where
  pub rest : ℤ
  pub was : total f (parts_under before (links_of list) (survivors list)) ≡ (total (λ v. f (part_of_fill false v.fill)) (survivors_of_chain list root) +ℤ rest)
  pub is : total f (parts_under after (links_of list) (survivors list)) ≡ (total (λ v. f (part_of_fill true v.fill)) (survivors_of_chain list root) +ℤ rest)
  pub rest_is : rest ≡ total (λ v. f (part_under before (links_of list) v)) (filter (λ v. not (is_of_chain list root v)) (survivors list))

pub moves-chain : (f : Part → ℤ) (list : List Entry) (root : ExecKey) (before after : ExecKey → Bool) → NamesMore root before after → MovesChain f list root before after
moves-chain f list root before after more =
    let links = links_of list in
    let p = is_of_chain list root in
    let others = filter (λ v. not (p v)) (survivors list) in
    let split_before = total-map f (part_under before links) (survivors list) ∙ total-filter (λ v. f (part_under before links v)) p (survivors list) in
    let side_before = side f false before root list more.was in
    let whole = total-names_more f list root before after more in
    record {
      rest = total (λ v. f (part_under before links v)) others;
      was = omega (arith, ints, split_before, side_before);
      is = omega (arith, ints, split_before, side_before, whole);
      rest_is = refl;
    }
