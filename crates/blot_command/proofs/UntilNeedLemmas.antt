-- Up to which number allocations see the fill of a Correct: to that of the next version of its chain.
use Rattle.std.proofs.Common.{◌≡◌, ℕ, ◌<◌, ◌==◌, Bool, true, false, cond, ◌&&◌, ◌||◌, List, [], ◌∷◌, ◌++◌, Option, Some, None, refl, sym, ap, subst, ◌∙◌, inl, inr, arith, All, filter, is_none, nat_lt, filter_map, eq-eqb, ltb-true, ne_eqb}
use Rattle.std.specs.List.{cons_option}
use Rattle.std.specs.Option.{option_map_or, option_or}
use Rattle.std.proofs.lemmas.Bool.{and_parts, cases_Bool}
use Rattle.std.proofs.lemmas.List.Elements.{All-head, All-tail}
use Rattle.blot_types.specs.declared.{allocation.Instruction.Instruction, command.Command.Command, command.Entry.Entry, keys.ExecKey.ExecKey, link.Link.Link}
use Rattle.blot_types.specs.declared.command.Command.TheVariants.{Trade, Correct, Bust, AllocNew, AllocReplace, AllocCancel, Withdraw}
use Rattle.blot_types.specs.Allocations.{instructions_in}
use Rattle.blot_types.specs.Chains.{current_in, is_above_links, is_root, own_root, root_in, version_after_in, version_before_in}
use Rattle.blot_types.specs.Instructions.{first_instruction, names}
use Rattle.blot_types.specs.Keys.{is_among}
use Rattle.blot_types.specs.Legal.{is_above_entries, rises_in}
use Rattle.blot_types.specs.Refusals.{listed_by}
use Rattle.blot_types.specs.Survivors.{is_number, link_of, links_in, version_of, version_numbered}
use Rattle.blot_types.specs.Withdrawal.{below}
use Rattle.blot_types.proofs.ChainLemmas.{current-below, differing}
use Rattle.blot_types.proofs.CorrectLemmas.{below-front, front-above, version-pass}
use Rattle.blot_types.proofs.EntryLemmas.{is_above_links-links, link-number}
use Rattle.blot_types.proofs.NeedLemmas.{not-below}
use Rattle.blot_places.proofs.FirstLemmas.{is_under, under-or}
use Rattle.blot_command.proofs.FirstEntryLemmas.{after, first_in, instruction-number, instruction_after, instructions-above}

-- ---- the number up to which

module _ (number : ℕ) (root : ExecKey) where
  abbrev next_in : List Entry → Option ℕ
  next_in entries = version_after_in (links_in entries) number root

  after-under : (bound : ℕ) (links : List Link) → is_above_links bound links ≡ true → is_under bound (version_after_in links number root) ≡ true
  after-under bound [] above = refl
  after-under bound (link ∷ earlier) above =
      let parts : (nat_lt link.number bound ≡ true) × (is_above_links bound earlier ≡ true) = and_parts _ _ above in
      under-or (λ (n : ℕ). n) bound link.number (version_after_in earlier number root) (nat_lt number link.number && is_root root (own_root (root_in earlier) link.key link.role)) (after-under bound earlier parts.1) parts.0

  -- where there is a next version its number is meant; where there is none, one above all
  pub record IsUntil (until : ℕ) (entries : List Entry) : Type 0 where
    pub none : next_in entries ≡ None → is_above_entries until entries ≡ true
    pub some : (next : ℕ) → next_in entries ≡ Some next → until ≡ next

  -- so it is for the entries before one
  until-more :
      (until : ℕ) (entry : Entry) (found : Option Link) (earlier : List Entry) (first : Option ℕ) → link_of entry ≡ found → is_above_entries entry.number earlier ≡ true
      → version_after_in (links_in earlier) number root ≡ first
      → (version_after_in (cons_option found (links_in earlier)) number root ≡ None → is_above_entries until earlier ≡ true)
      → ((next : ℕ) → version_after_in (cons_option found (links_in earlier)) number root ≡ Some next → until ≡ next) → IsUntil until earlier
  until-more until entry None earlier first is above is_first none some = record { none = none; some = some }
  until-more until entry (Some link) earlier (Some m) is above is_first none some =
      let b = nat_lt number link.number && is_root root (own_root (root_in (links_in earlier)) link.key link.role) in
      let whole : option_or (version_after_in (links_in earlier) number root) (cond b (Some link.number) None) ≡ Some m = ap (λ found. option_or found (cond b (Some link.number) None)) is_first in
      record {
        none = λ nothing. (let clashing : Some m ≡ None = sym is_first ∙ nothing in cc);
        some = λ next is_next. some next (whole ∙ sym is_first ∙ is_next);
      }
  until-more until entry (Some link) earlier None is above is_first none some =
      let b = nat_lt number link.number && is_root root (own_root (root_in (links_in earlier)) link.key link.role) in
      let whole : option_or (version_after_in (links_in earlier) number root) (cond b (Some link.number) None) ≡ cond b (Some link.number) None =
      ap (λ found. option_or found (cond b (Some link.number) None)) is_first in
      record {
        none = λ nothing.
            elim (cases_Bool b) [
              | inl brings ↦
                  let its : until ≡ entry.number = some link.number (whole ∙ ap (λ b. cond b (Some link.number) None) brings) ∙ link-number entry link is in
                  subst (λ n. is_above_entries n earlier ≡ true) (sym its) above
              | inr passed ↦ none (whole ∙ ap (λ b. cond b (Some link.number) None) passed)
            ];
        some = λ next is_next. (let clashing : None ≡ Some next = sym is_first ∙ is_next in cc);
      }

  until-older : (until : ℕ) (entry : Entry) (earlier : List Entry) → rises_in (entry ∷ earlier) ≡ true → IsUntil until (entry ∷ earlier) → IsUntil until earlier
  until-older until entry earlier rise is =
      let rises : (is_above_entries entry.number earlier ≡ true) × (rises_in earlier ≡ true) = and_parts _ _ rise in
      until-more until entry (link_of entry) earlier (next_in earlier) refl rises.0 refl
      (λ none. (let parts : (nat_lt entry.number until ≡ true) × (is_above_entries until earlier ≡ true) = and_parts _ _ (is.none none) in parts.1)) is.some

  -- an entry that is no link comes before it exactly where no version came yet
  before-until :
      (until : ℕ) (entry : Entry) (earlier : List Entry) (first : Option ℕ) → link_of entry ≡ None → is_above_entries entry.number earlier ≡ true → next_in earlier ≡ first → IsUntil until (entry ∷ earlier)
      → is_none first ≡ nat_lt entry.number until
  before-until until entry earlier None unlinked above is_first is =
      let whole : next_in (entry ∷ earlier) ≡ None = ap (λ found. version_after_in (cons_option found (links_in earlier)) number root) unlinked ∙ is_first in
      let parts : (nat_lt entry.number until ≡ true) × (is_above_entries until earlier ≡ true) = and_parts _ _ (is.none whole) in
      sym parts.0
  before-until until entry earlier (Some m) unlinked above is_first is =
      let whole : next_in (entry ∷ earlier) ≡ Some m = ap (λ found. version_after_in (cons_option found (links_in earlier)) number root) unlinked ∙ is_first in
      let under : nat_lt m entry.number ≡ true =
      ap (is_under entry.number) (sym is_first) ∙ after-under entry.number (links_in earlier) (is_above_links-links entry.number earlier above) in
      let less : m < entry.number = ltb-true _ _ under in
      let its : until ≡ m = is.some m whole in
      sym (not-below entry.number until (omega (arith, its, less)))

-- ---- the first allocation that lists a Correct, or its chain up to a number

abbrev pub Lists : ExecKey → (ℕ → Bool) → Entry → Type 0
Lists key lists entry = lists entry.number ≡ is_among (listed_by entry.command) key

-- an allocation is no link
allocation-unlinked : (before : List Entry) (number : ℕ) (command : Command) (i : Instruction) → instruction_after before (record { number = number; command = command }) ≡ Some i
    → link_of (record { number = number; command = command }) ≡ None
allocation-unlinked before number (Trade trade) i is = cc
allocation-unlinked before number (Correct correct) i is = cc
allocation-unlinked before number (Bust bust) i is = cc
allocation-unlinked before number (AllocNew new) i is = refl
allocation-unlinked before number (AllocReplace replace) i is = refl
allocation-unlinked before number (AllocCancel cancel) i is = refl
allocation-unlinked before number (Withdraw withdrawn) i is = refl

module _ (k : Entry) (key root : ExecKey) (changed : Bool) (lists : ℕ → Bool) where
  -- as the entries before it tell, and as numbers tell
  abbrev pub by_links : List Entry → Entry → Bool
  by_links before entry =
      option_map_or (λ i. names root i && ((changed && is_none (version_after_in (links_in before) k.number root)) || is_among (listed_by entry.command) key)) (instruction_after before entry) false

  abbrev by_numbers : ℕ → Instruction → Bool
  by_numbers until i = names root i && ((changed && nat_lt i.number until) || lists i.number)

  same-test :
      (until : ℕ) (entry : Entry) (earlier : List Entry) (found : Option Instruction) → instruction_after earlier entry ≡ found → is_above_entries entry.number earlier ≡ true
      → IsUntil k.number root until (entry ∷ earlier) → Lists key lists entry
      → option_map_or (λ i. names root i && ((changed && is_none (version_after_in (links_in earlier) k.number root)) || is_among (listed_by entry.command) key)) found false
      ≡ option_map_or (by_numbers until) found false
  same-test until entry earlier None is above is_until listed = refl
  same-test until entry earlier (Some i) is above is_until listed =
      let own : i.number ≡ entry.number = instruction-number (links_in earlier) entry.number entry.command i is in
      let first : is_none (version_after_in (links_in earlier) k.number root) ≡ nat_lt i.number until =
      before-until k.number root until entry earlier (version_after_in (links_in earlier) k.number root) (allocation-unlinked earlier entry.number entry.command i is) above refl is_until
      ∙ ap (λ n. nat_lt n until) (sym own) in
      let second : is_among (listed_by entry.command) key ≡ lists i.number = sym listed ∙ ap lists (sym own) in
      λ j. names root i && ((changed && first j) || second j)

  settled :
      (until : ℕ) (entries : List Entry) → rises_in entries ≡ true → IsUntil k.number root until entries → All (Lists key lists) entries
      → first_in (after k by_links) entries ≡ first_in (after k (λ before entry. option_map_or (by_numbers until) (instruction_after before entry) false)) entries
  settled until [] rise is listed = refl
  settled until (entry ∷ earlier) rise is listed =
      let rises : (is_above_entries entry.number earlier ≡ true) × (rises_in earlier ≡ true) = and_parts _ _ rise in
      let rest = settled until earlier rises.1 (until-older k.number root until entry earlier rise is) (All-tail (Lists key lists) entry earlier listed) in
      let own = same-test until entry earlier (instruction_after earlier entry) refl rises.0 is (All-head (Lists key lists) entry earlier listed) in
      λ j. option_or (rest j) (cond (nat_lt k.number entry.number && own j) (Some entry.number) None)

  -- without a change no number is meant
  abbrev pub meant : ℕ → ℕ
  meant until = cond changed until 0

  up_to-meant : (n until : ℕ) → (changed && nat_lt n until) ≡ nat_lt n (meant until)
  up_to-meant n until = elim (cases_Bool changed) [
    | inl is ↦ ap (λ b. b && nat_lt n until) is ∙ sym (ap (λ b. nat_lt n (cond b until 0)) is)
    | inr not_changed ↦ ap (λ b. b && nat_lt n until) not_changed ∙ sym (ap (λ b. nat_lt n (cond b until 0)) not_changed ∙ not-below n 0 (omega arith))
  ]

  pub first-listed :
      (until : ℕ) (entries : List Entry) → rises_in entries ≡ true → IsUntil k.number root until entries → All (Lists key lists) entries
      → first_in (after k by_links) entries ≡ first_instruction (λ i. names root i && (nat_lt i.number (meant until) || lists i.number)) k.number (instructions_in entries)
  first-listed until entries rise is listed =
      settled until entries rise is listed ∙ instructions-above k.number (by_numbers until) entries
      ∙ ap (λ test. first_instruction test k.number (instructions_in entries)) (λ j i. names root i && (up_to-meant i.number until j || lists i.number))

-- ---- the version before a Correct

-- the links of entries below a number are those below it
links-below : (n : ℕ) (entries : List Entry) → links_in (below n entries) ≡ filter (λ (link : Link). nat_lt link.number n) (links_in entries)
links-below n [] = refl
links-below n (entry ∷ earlier) = by_link entry earlier (link_of entry) refl (links-below n earlier)
  where
    by_link : (entry : Entry) (earlier : List Entry) (found : Option Link) → link_of entry ≡ found → links_in (below n earlier) ≡ filter (λ (link : Link). nat_lt link.number n) (links_in earlier)
        → links_in (below n (entry ∷ earlier)) ≡ filter (λ (link : Link). nat_lt link.number n) (cons_option found (links_in earlier))
    by_link entry earlier None is rest = elim (cases_Bool (nat_lt entry.number n)) [
      | inl less ↦
          ap (λ b. links_in (cond b (entry ∷ below n earlier) (below n earlier))) less
          ∙ ap (λ found. cons_option found (links_in (below n earlier))) is ∙ rest
      | inr more ↦ ap (λ b. links_in (cond b (entry ∷ below n earlier) (below n earlier))) more ∙ rest
    ]
    by_link entry earlier (Some link) is rest =
        let own : nat_lt link.number n ≡ nat_lt entry.number n = ap (λ m. nat_lt m n) (link-number entry link is) in
        let kept = filter (λ (link : Link). nat_lt link.number n) (links_in earlier) in
        elim (cases_Bool (nat_lt entry.number n)) [
          | inl less ↦
              ap (λ b. links_in (cond b (entry ∷ below n earlier) (below n earlier))) less
              ∙ ap (λ found. cons_option found (links_in (below n earlier))) is ∙ ap (λ links. link ∷ links) rest
              ∙ sym (ap (λ b. cond b (link ∷ kept) kept) (own ∙ less))
          | inr more ↦
              ap (λ b. links_in (cond b (entry ∷ below n earlier) (below n earlier))) more ∙ rest ∙ sym (ap (λ b. cond b (link ∷ kept) kept) (own ∙ more))
        ]

-- the last version below the number of an entry is that of the entries before it
pub before-front :
    (k : Entry) (later front : List Entry) (root : ExecKey) → rises_in (later ++ k ∷ front) ≡ true → version_before_in (links_in (later ++ k ∷ front)) k.number root ≡ current_in (links_in front) root
before-front k later front root rise =
    ap (λ links. current_in links root) (sym (links-below k.number (later ++ k ∷ front)) ∙ ap links_in (below-front k later front rise))

-- and is found by its number among all
found-more : (entry : Entry) (earlier front : List Entry) (root : ExecKey) (n : ℕ) → is_above_entries entry.number front ≡ true → current_in (links_in front) root ≡ Some n
    → version_numbered (entry ∷ earlier) n ≡ version_numbered earlier n
found-more entry earlier front root n above is =
    let other : (n == entry.number) ≡ false = ap (is_number entry.number) (sym is) ∙ current-below (links_in front) entry.number root (is_above_links-links entry.number front above) in
    version-pass entry (version_of entry) (filter_map version_of earlier) n refl (ne_eqb _ _ (λ same. absurd (differing (eq-eqb n entry.number (sym same)) other)))

pub found-front :
    (k : Entry) (later front : List Entry) (root : ExecKey) (n : ℕ) → rises_in (later ++ k ∷ front) ≡ true → current_in (links_in front) root ≡ Some n
    → version_numbered (later ++ k ∷ front) n ≡ version_numbered front n
found-front k [] front root n rise is =
    let rises : (is_above_entries k.number front ≡ true) × (rises_in front ≡ true) = and_parts _ _ rise in
    found-more k front front root n rises.0 is
found-front k (entry ∷ later) front root n rise is =
    let rises : (is_above_entries entry.number (later ++ k ∷ front) ≡ true) × (rises_in (later ++ k ∷ front) ≡ true) = and_parts _ _ rise in
    found-more entry (later ++ k ∷ front) front root n (front-above entry.number later front k rises.0).1 is ∙ found-front k later front root n rises.1 is
