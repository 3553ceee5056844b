-- The entries of a chain, newest first: its Bust, and before that its versions, each below the one after it.
use Rattle.std.proofs.Common.{◌≡◌, ℕ, ◌<◌, ◌≤◌, ◌==◌, Bool, true, false, List, [], ◌∷◌, reverse, Option, Some, None, refl, sym, ap, subst, ◌∙◌, arith, inl, inr, IfSome, filter, find, is_none, nat_lt, if◌then◌else◌, option_and_then, eq-eqb, eqb-true, lt-ltb, ltb-false, ltb-true, ne_eqb}
use Rattle.std.specs.List.{cons_option, list_all}
use Rattle.std.specs.Option.{option_map_or, option_or}
use Rattle.std.proofs.lemmas.Bool.{and_parts, cases_Bool}
use Rattle.std.proofs.lemmas.Grind.{reverse_onto}
use Rattle.std.proofs.lemmas.List.Folds.{find-append}
use Rattle.blot_types.specs.declared.{command.Entry.Entry, keys.ExecKey.ExecKey, link.Link.Link, link.Role.Role}
use Rattle.blot_types.specs.declared.link.Role.TheVariants.{Begins, Corrects, Busts}
use Rattle.blot_types.specs.Chains.{bust_in, busts, current_in, is_above_links, is_chained, is_root, link_refusal, own_root, reference_refusal, root_in, version_before_in}
use Rattle.blot_types.specs.Keys.{same_exec}
use Rattle.blot_types.specs.Legal.{is_above_entries, legal_in, rises_in}
use Rattle.blot_types.specs.StandingVersion.{chain_by}
use Rattle.blot_types.specs.Survivors.{link_of, links_in}
use Rattle.blot_types.proofs.ChainLemmas.{accepted_key, accepted_root, bust-fresh, none_is}
use Rattle.blot_types.proofs.EntryLemmas.{chained-links, is_above_links-links, link-number}
use Rattle.blot_types.proofs.KeyLemmas.{same_exec-true}
use Rattle.blot_types.proofs.NeedLemmas.{not-below}
use Rattle.blot_types.proofs.GeneralLemmas.{or-none}
use Rattle.blot_command.specs.Book.{has_number}
use Rattle.blot_command.specs.Questions.{chain_in}

-- ---- the entry of a number

none-above : (n : ℕ) (entries : List Entry) → is_above_entries n entries ≡ true → find (has_number n) entries ≡ None
none-above n [] above = refl
none-above n (entry ∷ earlier) above =
    let parts : (nat_lt entry.number n ≡ true) × (is_above_entries n earlier ≡ true) = and_parts _ _ above in
    let less : entry.number < n = ltb-true _ _ parts.0 in
    rw (ne_eqb entry.number n (λ same. absurd (omega (arith, same, less)))) (none-above n earlier parts.1)

pub found-turned : (n : ℕ) (entries : List Entry) → rises_in entries ≡ true → find (has_number n) (reverse entries) ≡ find (has_number n) entries
found-turned n [] rises = refl
found-turned n (entry ∷ earlier) rises =
    let parts : (is_above_entries entry.number earlier ≡ true) × (rises_in earlier ≡ true) = and_parts _ _ rises in
    ap (find (has_number n)) (reverse_onto earlier entry []) ∙ find-append (has_number n) (reverse earlier) (entry ∷ [])
    ∙ ap (λ found. option_or found (find (has_number n) (entry ∷ []))) (found-turned n earlier parts.1) ∙ last parts.0
  where
    last : is_above_entries entry.number earlier ≡ true → option_or (find (has_number n) earlier) (find (has_number n) (entry ∷ [])) ≡ find (has_number n) (entry ∷ earlier)
    last above =
        elim (cases_Bool (entry.number == n)) [
          | inl same ↦
              let none : find (has_number n) earlier ≡ None = none-above n earlier (subst (λ m. is_above_entries m earlier ≡ true) (eqb-true entry.number n same) above) in
              rw (same, none) refl
          | inr other ↦ rw other (or-none (find (has_number n) earlier))
        ]

-- a later entry isn't that of a smaller number
pub found-later : (entry : Entry) (earlier : List Entry) (n : ℕ) → n < entry.number → find (has_number n) (entry ∷ earlier) ≡ find (has_number n) earlier
found-later entry earlier n less = rw (ne_eqb entry.number n (λ same. absurd (omega (arith, same, less)))) refl

pub found-own : (entry : Entry) (earlier : List Entry) (n : ℕ) → n ≡ entry.number → find (has_number n) (entry ∷ earlier) ≡ Some entry
found-own entry earlier n own = rw (eq-eqb entry.number n (sym own)) refl

-- ---- lists of links

kept : {A : Type 0} (p : A → Bool) (xs : List A) → list_all p xs ≡ true → filter p xs ≡ xs
kept p [] all = refl
kept p (x ∷ xs) all =
    let parts : (p x ≡ true) × (list_all p xs ≡ true) = and_parts _ _ all in
    rw parts.0 (ap (λ l. x ∷ l) (kept p xs parts.1))

hold : {A : Type 0} (p : A → Bool) (xs : List A) → list_all p (filter p xs) ≡ true
hold p [] = refl
hold p (x ∷ xs) =
    elim (cases_Bool (p x)) [
      | inl is ↦ rw is (rw is (hold p xs))
      | inr other ↦ rw other (hold p xs)
    ]

above-more : (n m : ℕ) (entries : List Entry) → n ≤ m → is_above_entries n entries ≡ true → is_above_entries m entries ≡ true
above-more n m [] less above = refl
above-more n m (entry ∷ earlier) less above =
    let parts : (nat_lt entry.number n ≡ true) × (is_above_entries n earlier ≡ true) = and_parts _ _ above in
    let under : entry.number < n = ltb-true _ _ parts.0 in
    rw (lt-ltb entry.number m (omega (arith, under, less))) (above-more n m earlier less parts.1)

module _ (root : ExecKey) where
  current-under : (bound : ℕ) (links : List Link) → is_above_links bound links ≡ true → IfSome (current_in links root) (λ n. n < bound)
  current-under bound [] above = tt
  current-under bound (link ∷ earlier) above =
      let parts : (nat_lt link.number bound ≡ true) × (is_above_links bound earlier ≡ true) = and_parts _ _ above in
      elim (cases_Bool (is_root root (own_root (root_in earlier) link.key link.role))) [
        | inl is ↦ rw is (ltb-true _ _ parts.0)
        | inr other ↦ rw other (current-under bound earlier parts.1)
      ]

  pub before-under : (n : ℕ) (links : List Link) → IfSome (version_before_in links n root) (λ m. m < n)
  before-under n links = current-under n (filter (λ link. nat_lt link.number n) links) (hold (λ (link : Link). nat_lt link.number n) links)

  bust-under : (bound : ℕ) (links : List Link) → is_above_links bound links ≡ true → IfSome (bust_in links root) (λ n. n < bound)
  bust-under bound [] above = tt
  bust-under bound (link ∷ earlier) above =
      let parts : (nat_lt link.number bound ≡ true) × (is_above_links bound earlier ≡ true) = and_parts _ _ above in
      elim (cases_Bool (busts earlier root link.role)) [
        | inl is ↦ rw is (ltb-true _ _ parts.0)
        | inr other ↦ rw other (bust-under bound earlier parts.1)
      ]

  -- ---- the versions

  -- whether a link brings a version to the chain
  abbrev is_version : List Link → Option Link → Bool
  is_version links found = option_map_or (λ link. is_root root (own_root (root_in links) link.key link.role)) found false

  -- the entries that bring one
  abbrev pub versions_in : List Entry → List Entry
  versions_in [] = []
  versions_in (entry ∷ earlier) = if is_version (links_in earlier) (link_of entry) then entry ∷ versions_in earlier else versions_in earlier

  -- those below a number: the entries' numbers fall
  abbrev pub below_in : ℕ → List Entry → List Entry
  below_in n [] = []
  below_in n (entry ∷ earlier) = if nat_lt entry.number n then versions_in (entry ∷ earlier) else below_in n earlier

  -- that of a number, and those below it
  abbrev pub from_in : List Entry → Option ℕ → List Entry
  from_in entries None = []
  from_in entries (Some n) = cons_option (find (has_number n) entries) (below_in n entries)

  below-all : (n : ℕ) (entries : List Entry) → is_above_entries n entries ≡ true → below_in n entries ≡ versions_in entries
  below-all n [] above = refl
  below-all n (entry ∷ earlier) above =
      let less : nat_lt entry.number n ≡ true = (and_parts _ _ above).0 in
      rw less refl

  -- a later entry is none of those from a smaller number on
  from-later : (entry : Entry) (earlier : List Entry) (found : Option ℕ) → IfSome found (λ n. n < entry.number) → from_in (entry ∷ earlier) found ≡ from_in earlier found
  from-later entry earlier None under = refl
  from-later entry earlier (Some n) under =
      let less : n < entry.number = under in
      rw (found-later entry earlier n less, not-below entry.number n (omega (arith, less))) refl

  from-own : (entry : Entry) (earlier : List Entry) (n : ℕ) → n ≡ entry.number → is_above_entries entry.number earlier ≡ true → from_in (entry ∷ earlier) (Some n) ≡ entry ∷ versions_in earlier
  from-own entry earlier n own above =
      rw (found-own entry earlier n own, not-below entry.number n (omega (arith, own)))
      (ap (λ l. entry ∷ l) (below-all n earlier (subst (λ m. is_above_entries m earlier ≡ true) (sym own) above)))

  pub from-current : (entries : List Entry) → rises_in entries ≡ true → versions_in entries ≡ from_in entries (current_in (links_in entries) root)
  from-current [] rises = refl
  from-current (entry ∷ earlier) rises =
      let parts : (is_above_entries entry.number earlier ≡ true) × (rises_in earlier ≡ true) = and_parts _ _ rises in
      step (link_of entry) refl parts.0 (from-current earlier parts.1)
    where
      step :
          (found : Option Link) → link_of entry ≡ found → is_above_entries entry.number earlier ≡ true → versions_in earlier ≡ from_in earlier (current_in (links_in earlier) root)
          → (if is_version (links_in earlier) found then entry ∷ versions_in earlier else versions_in earlier)
          ≡ from_in (entry ∷ earlier) (current_in (cons_option found (links_in earlier)) root)
      step None is above rest =
          rest ∙ sym (from-later entry earlier (current_in (links_in earlier) root) (current-under entry.number (links_in earlier) (is_above_links-links entry.number earlier above)))
      step (Some link) is above rest =
          elim (cases_Bool (is_root root (own_root (root_in (links_in earlier)) link.key link.role))) [
            | inl own ↦ rw own (sym (from-own entry earlier link.number (link-number entry link is) above))
            | inr other ↦
                rw other
                (rest ∙ sym (from-later entry earlier (current_in (links_in earlier) root) (current-under entry.number (links_in earlier) (is_above_links-links entry.number earlier above))))
          ]

  pub from-before : (n : ℕ) (entries : List Entry) → rises_in entries ≡ true → below_in n entries ≡ from_in entries (version_before_in (links_in entries) n root)
  from-before n [] rises = refl
  from-before n (entry ∷ earlier) rises =
      let parts : (is_above_entries entry.number earlier ≡ true) × (rises_in earlier ≡ true) = and_parts _ _ rises in
      elim (cases_Bool (nat_lt entry.number n)) [
        | inl less ↦
            let all : is_above_entries n (entry ∷ earlier) ≡ true = rw less (above-more entry.number n earlier (omega (arith, ltb-true _ _ less)) parts.0) in
            let whole : filter (λ (link : Link). nat_lt link.number n) (links_in (entry ∷ earlier)) ≡ links_in (entry ∷ earlier) =
            kept (λ link. nat_lt link.number n) (links_in (entry ∷ earlier)) (is_above_links-links n (entry ∷ earlier) all) in
            rw less (from-current (entry ∷ earlier) rises ∙ ap (λ links. from_in (entry ∷ earlier) (current_in links root)) (sym whole))
        | inr more ↦
            rw more (from-before n earlier parts.1 ∙ step (link_of entry) refl more)
      ]
    where
      under : n ≤ entry.number → IfSome (version_before_in (links_in earlier) n root) (λ m. m < entry.number)
      under over = some (version_before_in (links_in earlier) n root) (before-under n (links_in earlier))
        where
          some : (found : Option ℕ) → IfSome found (λ m. m < n) → IfSome found (λ m. m < entry.number)
          some None is = tt
          some (Some m) is = (let less : m < n = is in omega (arith, less, over))

      step :
          (found : Option Link) → link_of entry ≡ found → nat_lt entry.number n ≡ false
          → from_in earlier (version_before_in (links_in earlier) n root) ≡ from_in (entry ∷ earlier) (version_before_in (cons_option found (links_in earlier)) n root)
      step None is more = sym (from-later entry earlier (version_before_in (links_in earlier) n root) (under (ltb-false _ _ more)))
      step (Some link) is more =
          let out : nat_lt link.number n ≡ false = ap (λ m. nat_lt m n) (link-number entry link is) ∙ more in
          rw out (sym (from-later entry earlier (version_before_in (links_in earlier) n root) (under (ltb-false _ _ more))))

  -- ---- the whole chain

  -- some entries behind the Bust, if there is one
  abbrev pub behind_bust : List Entry → Option ℕ → List Entry → List Entry
  behind_bust entries bust versions = cons_option (option_and_then (λ n. find (has_number n) entries) bust) versions

  bust-later : (entry : Entry) (earlier : List Entry) (bust : Option ℕ) (versions : List Entry) → IfSome bust (λ n. n < entry.number) → behind_bust (entry ∷ earlier) bust versions ≡ behind_bust earlier bust versions
  bust-later entry earlier None versions under = refl
  bust-later entry earlier (Some n) versions under = rw (found-later entry earlier n under) refl

  unbusted : (links : List Link) (reference : ExecKey) → reference_refusal links (Busts reference) ≡ None → is_root root (root_in links reference) ≡ true → bust_in links root ≡ None
  unbusted links reference accepted own =
      let found = accepted_root links reference (root_in links reference) accepted in
      let same : same_exec found.0 root ≡ true = ap (is_root root) (sym found.1.root_is) ∙ own in
      subst (λ key. bust_in links key ≡ None) (same_exec-true found.0 root same) found.1.not_busted

  module _ (entry : Entry) (earlier : List Entry) where
    abbrev links : List Link
    links = links_in earlier

    abbrev Rest : Type 0
    Rest = chain_in earlier root ≡ behind_bust earlier (bust_in links root) (versions_in earlier)

    abbrev Whole : Option Link → Type 0
    Whole found =
        (if is_root root (chain_by links found) then entry ∷ chain_in earlier root else chain_in earlier root)
        ≡ behind_bust (entry ∷ earlier) (bust_in (cons_option found links) root) (if is_version links found then entry ∷ versions_in earlier else versions_in earlier)

    other : Rest → IfSome (bust_in links root) (λ n. n < entry.number) → chain_in earlier root ≡ behind_bust (entry ∷ earlier) (bust_in links root) (versions_in earlier)
    other rest under = rest ∙ sym (bust-later entry earlier (bust_in links root) (versions_in earlier) under)

    version : Rest → bust_in links root ≡ None → entry ∷ chain_in earlier root ≡ behind_bust (entry ∷ earlier) (bust_in links root) (entry ∷ versions_in earlier)
    version rest none =
        ap (λ l. entry ∷ l) (rest ∙ ap (λ bust. behind_bust earlier bust (versions_in earlier)) none)
        ∙ sym (ap (λ bust. behind_bust (entry ∷ earlier) bust (entry ∷ versions_in earlier)) none)

    role :
        (number : ℕ) (key : ExecKey) (own : Role) → number ≡ entry.number → link_refusal links key own ≡ None → Rest → IfSome (bust_in links root) (λ n. n < entry.number)
        → Whole (Some (record { number = number; key = key; role = own }))
    role number key Begins is accepted rest under =
        elim (cases_Bool (same_exec key root)) [
          | inl same ↦
              let none : bust_in links root ≡ None = subst (λ k. bust_in links k ≡ None) (same_exec-true key root same) (bust-fresh links key (accepted_key links key Begins accepted).0) in
              rw same (version rest none)
          | inr apart ↦ rw apart (other rest under)
        ]
    role number key (Corrects reference) is accepted rest under =
        elim (cases_Bool (is_root root (root_in links reference))) [
          | inl same ↦ rw same (version rest (unbusted links reference (accepted_key links key (Corrects reference) accepted).1 same))
          | inr apart ↦ rw apart (other rest under)
        ]
    role number key (Busts reference) is accepted rest under =
        elim (cases_Bool (is_root root (root_in links reference))) [
          | inl same ↦
              let none : bust_in links root ≡ None = unbusted links reference (accepted_key links key (Busts reference) accepted).1 same in
              rw (same, found-own entry earlier number is) (ap (λ l. entry ∷ l) (rest ∙ ap (λ bust. behind_bust earlier bust (versions_in earlier)) none))
          | inr apart ↦ rw apart (other rest under)
        ]

    part : (found : Option Link) → link_of entry ≡ found → is_chained (cons_option found links) ≡ true → Rest → IfSome (bust_in links root) (λ n. n < entry.number) → Whole found
    part None is chained rest under = other rest under
    part (Some link) is chained rest under =
        let accepted : link_refusal links link.key link.role ≡ None = none_is _ (and_parts _ _ chained).0 in
        role link.number link.key link.role (link-number entry link is) accepted rest under

  pub chain-parts : (entries : List Entry) → rises_in entries ≡ true → legal_in entries ≡ true → chain_in entries root ≡ behind_bust entries (bust_in (links_in entries) root) (versions_in entries)
  chain-parts [] rises legal = refl
  chain-parts (entry ∷ earlier) rises legal =
      let parts : (is_above_entries entry.number earlier ≡ true) × (rises_in earlier ≡ true) = and_parts _ _ rises in
      let legals : (is_none _ ≡ true) × (legal_in earlier ≡ true) = and_parts _ _ legal in
      part entry earlier (link_of entry) refl (chained-links (entry ∷ earlier) legal) (chain-parts earlier parts.1 legals.1)
      (bust-under entry.number (links_in earlier) (is_above_links-links entry.number earlier parts.0))
