-- What needs a Correct: the first link that refers to it, or the first allocation that lists it, or that lists its chain while it is the
-- last version, where it changed the fill.
use mathlib.Core.Bool.{or_comm}
use Rattle.std.proofs.Common.{◌≡◌, ℕ, ◌<◌, Bool, true, false, cond, ◌&&◌, ◌||◌, List, [], ◌∷◌, ◌++◌, Option, Some, None, refl, sym, ap, ◌∙◌, inl, inr, arith, is_none, nat_lt, not, filter_map, option_and_then, lt-ltb, ltb-true, ne_eqb, eq-eqb}
use Rattle.std.specs.List.{cons_option, list_any}
use Rattle.std.specs.Option.{option_map_or, option_or}
use Rattle.std.proofs.lemmas.Bool.{and_parts, cases_Bool}
use Rattle.blot_types.specs.declared.{command.Command.Command, command.Correct.Correct as CorrectCommand, command.Entry.Entry, keys.ExecKey.ExecKey, link.Link.Link}
use Rattle.blot_types.specs.declared.command.Command.TheVariants.{Trade, Correct, Bust, AllocNew, AllocReplace, AllocCancel, Withdraw}
use Rattle.blot_types.specs.Chains.{current_in, first_needing_link, is_above_links, is_chained, is_root, own_root, root_in, version_after_in}
use Rattle.blot_types.specs.Instructions.{names}
use Rattle.blot_types.specs.Keys.{is_among, same_exec}
use Rattle.blot_types.specs.Legal.{is_above_entries, legal_in, rises_in}
use Rattle.blot_types.specs.Lesser.{lesser}
use Rattle.blot_types.specs.Refusals.{current_fill, exec_references, listed_by}
use Rattle.blot_types.specs.Survivors.{is_number, link_of, links_in}
use Rattle.blot_types.specs.Withdrawal.{alike, changes_fill, is_last_of, needed_in}
use Rattle.blot_types.proofs.ChainLemmas.{current-below}
use Rattle.blot_types.proofs.ChainOutLemmas.{root-older}
use Rattle.blot_types.proofs.CorrectLemmas.{as_entry, as_link, below-front}
use Rattle.blot_types.proofs.EntryLemmas.{chained-links, is_above_links-links, link-number}
use Rattle.blot_types.proofs.KeyLemmas.{same_exec-refl, same_exec-sym, same_exec-true}
use Rattle.blot_types.proofs.LinkOutLemmas.{links-whole}
use Rattle.blot_types.proofs.NeedLemmas.{member-below, not-below}
use Rattle.blot_types.proofs.GeneralLemmas.{and-false, or-false, or-falses, or-none, any-same}
use Rattle.blot_command.proofs.AllocNeedLemmas.{any-mapped}
use Rattle.blot_command.proofs.FirstEntryLemmas.{IsTest, after, first_in, instruction_after, needed-by, needed-in}
use Rattle.blot_command.proofs.LinkNeedLemmas.{first-of_either, referring}

-- ---- tests

-- among those that name the chain, those that list the key, or that see a changed fill
among-named : (listed named changed last : Bool) → listed ≡ (named && listed) → (listed || (changed && (named && last))) ≡ (named && ((changed && last) || listed))
among-named listed true changed last is = or_comm listed (changed && last)
among-named listed false changed last is = ap (λ b. b || (changed && false)) is ∙ and-false changed

any-and : {A : Type 0} (p : A → Bool) (b : Bool) (xs : List A) → list_any (λ x. p x && b) xs ≡ (list_any p xs && b)
any-and p b [] = refl
any-and p b (x ∷ xs) = ap (λ rest. (p x && b) || rest) (any-and p b xs) ∙ one (p x) b (list_any p xs)
  where
    one : (a b c : Bool) → ((a && b) || (c && b)) ≡ ((a || c) && b)
    one true true c = refl
    one true false c = and-false c
    one false b c = refl

any-implied : {A : Type 0} (p q : A → Bool) (xs : List A) → ((x : A) → p x ≡ true → q x ≡ true) → list_any p xs ≡ true → list_any q xs ≡ true
any-implied p q [] implies some = cc
any-implied p q (x ∷ xs) implies some =
    elim (cases_Bool (p x)) [
      | inl passes ↦ ap (λ b. b || list_any q xs) (implies x passes)
      | inr fails ↦ or-true (q x) (any-implied p q xs implies (sym (ap (λ b. b || list_any p xs) fails) ∙ some))
    ]
  where
    or-true : (a : Bool) {b : Bool} → b ≡ true → (a || b) ≡ true
    or-true true is = refl
    or-true false is = is

-- ---- the chain of the Correct

module _ (number : ℕ) (correct : CorrectCommand) (front : List Entry) (r : ExecKey) (rooted : root_in (links_in front) correct.reference ≡ Some r) where
  abbrev pub k : Entry
  k = as_entry number correct

  abbrev pub upto : List Entry → List Entry
  upto later = later ++ k ∷ front

  -- the links that bring a version to a chain
  abbrev brings_to : ExecKey → Link → List Link → Bool
  brings_to root link earlier = is_root root (own_root (root_in earlier) link.key link.role)

  own-root : root_in (links_in (k ∷ front)) correct.key ≡ Some r
  own-root = ap (λ b. cond b (root_in (links_in front) correct.reference) (root_in (links_in front) correct.key)) (same_exec-refl correct.key) ∙ rooted

  -- its key keeps its root
  pub key-root : (later : List Entry) → legal_in (upto later) ≡ true → root_in (links_in (upto later)) correct.key ≡ Some r
  key-root later legal =
      let whole : links_in (upto later) ≡ links_in later ++ links_in (k ∷ front) = links-whole later front k (as_link number correct) refl in
      ap (λ links. root_in links correct.key) whole
      ∙ root-older (links_in later) (links_in (k ∷ front)) correct.key r (ap is_chained (sym whole) ∙ chained-links (upto later) legal) own-root

  -- it is the last version of no other chain
  apart-more :
      (entry : Entry) (found : Option Link) (links : List Link) (other : ExecKey) → link_of entry ≡ found → number < entry.number → is_number number (current_in links other) ≡ false
      → is_number number (current_in (cons_option found links) other) ≡ false
  apart-more entry None links other is less rest = rest
  apart-more entry (Some link) links other is less rest = elim (cases_Bool (brings_to other link links)) [
    | inl brings ↦
        ap (λ b. is_number number (cond b (Some link.number) (current_in links other))) brings
        ∙ ne_eqb link.number number (λ same. absurd (let its : link.number ≡ entry.number = link-number entry link is in omega (arith, its, same, less)))
    | inr passed ↦ ap (λ b. is_number number (cond b (Some link.number) (current_in links other))) passed ∙ rest
  ]

  last-apart : (later : List Entry) (other : ExecKey) → rises_in (upto later) ≡ true → same_exec other r ≡ false → is_number number (current_in (links_in (upto later)) other) ≡ false
  last-apart [] other rise apart =
      let rises : (is_above_entries number front ≡ true) × (rises_in front ≡ true) = and_parts _ _ rise in
      let passed : is_root other (root_in (links_in front) correct.reference) ≡ false = ap (is_root other) rooted ∙ sym (same_exec-sym other r) ∙ apart in
      ap (λ b. is_number number (cond b (Some number) (current_in (links_in front) other))) passed
      ∙ current-below (links_in front) number other (is_above_links-links number front rises.0)
  last-apart (entry ∷ later) other rise apart =
      let rises : (is_above_entries entry.number (upto later) ≡ true) × (rises_in (upto later) ≡ true) = and_parts _ _ rise in
      apart-more entry (link_of entry) (links_in (upto later)) other refl (member-below entry.number later front k rises.0) (last-apart later other rises.1 apart)

  -- it is the last of its own where none came after it
  abbrev IsLastOf : List Link → Type 0
  IsLastOf links = is_number number (current_in links r) ≡ is_none (version_after_in links number r)

  none-after : (links : List Link) → is_above_links number links ≡ true → version_after_in links number r ≡ None
  none-after [] above = refl
  none-after (link ∷ earlier) above =
      let parts : (nat_lt link.number number ≡ true) × (is_above_links number earlier ≡ true) = and_parts _ _ above in
      let less : link.number < number = ltb-true _ _ parts.0 in
      ap (λ found. option_or found (cond (nat_lt number link.number && brings_to r link earlier) (Some link.number) None)) (none-after earlier parts.1)
      ∙ ap (λ b. cond (b && brings_to r link earlier) (Some link.number) None) (not-below number link.number (omega (arith, less)))

  some-after : (found : Option ℕ) (n : ℕ) → is_none (option_or found (Some n)) ≡ false
  some-after None n = refl
  some-after (Some m) n = refl

  last-more : (entry : Entry) (found : Option Link) (links : List Link) → link_of entry ≡ found → number < entry.number → IsLastOf links → IsLastOf (cons_option found links)
  last-more entry None links is less last = last
  last-more entry (Some link) links is less last =
      let its : link.number ≡ entry.number = link-number entry link is in
      let over : nat_lt number link.number ≡ true = lt-ltb number link.number (omega (arith, its, less)) in
      elim (cases_Bool (brings_to r link links)) [
        | inl brings ↦
            ap (λ b. is_number number (cond b (Some link.number) (current_in links r))) brings
            ∙ ne_eqb link.number number (λ same. absurd (omega (arith, its, same, less)))
            ∙ sym (ap (λ b. is_none (option_or (version_after_in links number r) (cond b (Some link.number) None))) (ap (λ b. b && brings_to r link links) over ∙ brings)
            ∙ some-after (version_after_in links number r) link.number)
        | inr passed ↦
            ap (λ b. is_number number (cond b (Some link.number) (current_in links r))) passed ∙ last
            ∙ sym (ap (λ b. is_none (option_or (version_after_in links number r) (cond b (Some link.number) None))) (ap (λ b. b && brings_to r link links) over ∙ passed)
            ∙ ap is_none (or-none (version_after_in links number r)))
      ]

  last-of : (later : List Entry) → rises_in (upto later) ≡ true → IsLastOf (links_in (upto later))
  last-of [] rise =
      let rises : (is_above_entries number front ≡ true) × (rises_in front ≡ true) = and_parts _ _ rise in
      let own : is_root r (root_in (links_in front) correct.reference) ≡ true = ap (is_root r) rooted ∙ same_exec-refl r in
      ap (λ b. is_number number (cond b (Some number) (current_in (links_in front) r))) own ∙ eq-eqb number number refl
      ∙ sym (ap (λ b. is_none (option_or (version_after_in (links_in front) number r) (cond (b && is_root r (root_in (links_in front) correct.reference)) (Some number) None)))
      (not-below number number (omega arith))
      ∙ ap (λ found. is_none (option_or found None)) (none-after (links_in front) (is_above_links-links number front rises.0)))
  last-of (entry ∷ later) rise =
      let rises : (is_above_entries entry.number (upto later) ≡ true) × (rises_in (upto later) ≡ true) = and_parts _ _ rise in
      last-more entry (link_of entry) (links_in (upto later)) refl (member-below entry.number later front k rises.0) (last-of later rises.1)

  -- ---- what an allocation asks

  abbrev named_by : List Entry → List ExecKey → Bool
  named_by before keys = list_any (λ root. same_exec root r) (filter_map (root_in (links_in before)) keys)

  -- a listed execution has it as the last version
  sees-last : (later : List Entry) (found : Option ExecKey) → rises_in (upto later) ≡ true
      → is_number number (option_and_then (current_in (links_in (upto later))) found)
      ≡ (option_map_or (λ root. same_exec root r) found false && is_none (version_after_in (links_in (upto later)) number r))
  sees-last later None rise = refl
  sees-last later (Some other) rise =
      let last = is_none (version_after_in (links_in (upto later)) number r) in
      elim (cases_Bool (same_exec other r)) [
        | inl same ↦
            ap (λ root. is_number number (current_in (links_in (upto later)) root)) (same_exec-true other r same) ∙ last-of later rise ∙ sym (ap (λ b. b && last) same)
        | inr apart ↦ last-apart later other rise apart ∙ sym (ap (λ b. b && last) apart)
      ]

  any-last : (later : List Entry) (keys : List ExecKey) → rises_in (upto later) ≡ true
      → list_any (is_last_of (upto later) number) keys ≡ (named_by (upto later) keys && is_none (version_after_in (links_in (upto later)) number r))
  any-last later keys rise =
      let last = is_none (version_after_in (links_in (upto later)) number r) in
      let rooted_at : ExecKey → Bool = λ key. option_map_or (λ root. same_exec root r) (root_in (links_in (upto later)) key) false in
      any-same (is_last_of (upto later) number) (λ key. rooted_at key && last) keys (λ key. sees-last later (root_in (links_in (upto later)) key) rise)
      ∙ any-and rooted_at last keys
      ∙ ap (λ b. b && last) (any-mapped (root_in (links_in (upto later))) (λ root. same_exec root r) keys)

  -- what lists the Correct names its chain
  listed-named : (later : List Entry) (keys : List ExecKey) → legal_in (upto later) ≡ true → is_among keys correct.key ≡ (named_by (upto later) keys && is_among keys correct.key)
  listed-named later keys legal = elim (cases_Bool (is_among keys correct.key)) [
    | inl among ↦
        let rooted_at : ExecKey → Bool = λ key. option_map_or (λ root. same_exec root r) (root_in (links_in (upto later)) key) false in
        let its : (key : ExecKey) → same_exec key correct.key ≡ true → rooted_at key ≡ true =
        λ key same.
        ap rooted_at (same_exec-true key correct.key same) ∙ ap (λ found. option_map_or (λ root. same_exec root r) found false) (key-root later legal) ∙ same_exec-refl r in
        let named : named_by (upto later) keys ≡ true =
        sym (any-mapped (root_in (links_in (upto later))) (λ root. same_exec root r) keys) ∙ any-implied (λ key. same_exec key correct.key) rooted_at keys its among in
        sym (ap (λ b. b && is_among keys correct.key) named)
    | inr other ↦ other ∙ sym (ap (λ b. named_by (upto later) keys && b) other ∙ and-false (named_by (upto later) keys))
  ]

  -- ---- the fill that it changed

  abbrev pub is_changed : Bool
  is_changed = option_map_or (λ old. not (alike correct.fill old)) (current_fill front correct.reference) false

  changed : (later : List Entry) → rises_in (upto later) ≡ true → changes_fill (upto later) k ≡ is_changed
  changed later rise = ap (λ entries. option_map_or (λ old. not (alike correct.fill old)) (current_fill entries correct.reference) false) (below-front k later front rise)

  -- ---- the step

  abbrev pub listing : List Entry → Entry → Bool
  listing before entry =
      option_map_or (λ i. names r i && ((is_changed && is_none (version_after_in (links_in before) number r)) || is_among (listed_by entry.command) correct.key))
      (instruction_after before entry) false

  listed-asks : (later : List Entry) (keys : List ExecKey) → legal_in (upto later) ≡ true → rises_in (upto later) ≡ true
      → (is_among keys correct.key || (is_changed && list_any (is_last_of (upto later) number) keys))
      ≡ (named_by (upto later) keys && ((is_changed && is_none (version_after_in (links_in (upto later)) number r)) || is_among keys correct.key))
  listed-asks later keys legal rise =
      ap (λ b. is_among keys correct.key || (is_changed && b)) (any-last later keys rise)
      ∙ among-named (is_among keys correct.key) (named_by (upto later) keys) is_changed (is_none (version_after_in (links_in (upto later)) number r)) (listed-named later keys legal)

  unlisted : (b : Bool) → (b || (is_changed && false)) ≡ (b || false)
  unlisted b = ap (λ c. b || c) (and-false is_changed)

  asks-correct : (later : List Entry) (n : ℕ) (command : Command) → legal_in (upto later) ≡ true → rises_in (upto later) ≡ true
      → (is_among (exec_references command) correct.key || (is_changed && list_any (is_last_of (upto later) number) (listed_by command)))
      ≡ (referring correct.key (record { number = n; command = command }) || listing (upto later) (record { number = n; command = command }))
  asks-correct later n (Trade trade) legal rise = and-false is_changed
  asks-correct later n (Correct other) legal rise = unlisted (same_exec other.reference correct.key || false) ∙ or-false (same_exec other.reference correct.key || false)
  asks-correct later n (Bust bust) legal rise = unlisted (same_exec bust.reference correct.key || false) ∙ or-false (same_exec bust.reference correct.key || false)
  asks-correct later n (AllocNew new) legal rise = listed-asks later new.terms.execs legal rise
  asks-correct later n (AllocReplace replace) legal rise = listed-asks later replace.terms.execs legal rise
  asks-correct later n (AllocCancel cancel) legal rise = and-false is_changed
  asks-correct later n (Withdraw withdrawn) legal rise = and-false is_changed

  pub first-listing : (later : List Entry) → legal_in (upto later) ≡ true → rises_in (upto later) ≡ true
      → needed_in k (upto later) ≡ lesser (first_needing_link (links_in (upto later)) number) (first_in (after k listing) (upto later))
  first-listing later legal rise =
      let test : List Entry → Entry → Bool = λ before entry. referring correct.key entry || listing before entry in
      let step : IsTest k front test = λ later entry next.
      or-falses (is_among (exec_references entry.command) correct.key || (changes_fill (upto later) k && list_any (is_last_of (upto later) number) (listed_by entry.command)))
      ∙ ap (λ b. is_among (exec_references entry.command) correct.key || (b && list_any (is_last_of (upto later) number) (listed_by entry.command))) (changed later next.rise)
      ∙ asks-correct later entry.number entry.command next.legal next.rise in
      needed-in k (upto later) ∙ needed-by k front test step later legal rise ∙ first-of_either k front (as_link number correct) later listing refl rise
