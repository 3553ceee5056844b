-- The first entry that needs another is the one that the look-ups name.
use Rattle.std.proofs.Common.{◌≡◌, ℕ, ◌+◌, ◌<◌, true, false, cond, ◌&&◌, List, [], ◌∷◌, ◌++◌, reverse, Option, Some, None, refl, sym, ap, subst, ◌∙◌, inl, inr, arith, All, find, is_none, nat_lt, not, unwrap_or, option_and_then, option_map, eq-eqb, eqb-true, ltb-true, ne_eqb}
use Rattle.std.specs.Option.{option_map_or, option_or}
use Rattle.std.proofs.lemmas.Bool.{and_from, and_parts, cases_Bool}
use Rattle.std.proofs.lemmas.List.{reverse-append, reverse-reverse}
use Rattle.std.proofs.lemmas.List.Elements.{All-cons, All-nil, All-weaker}
use Rattle.std.proofs.lemmas.List.Folds.{find-append}
use Rattle.std.proofs.lemmas.Option.{same_Some}
use Rattle.blot_types.specs.declared.{command.Command.Command, command.Correct.Correct as CorrectCommand, command.Entry.Entry, fill.Fill.Fill, keys.ExecKey.ExecKey, lines.Version.Version, link.Role.TheVariants.Corrects, TheConstants.EVENTS_MAX}
use Rattle.blot_types.specs.declared.command.Command.TheVariants.{Trade, Correct, Bust, AllocNew, AllocReplace, AllocCancel, Withdraw}
use Rattle.blot_types.specs.Allocations.{instructions_in, instructions_of}
use Rattle.blot_types.specs.Chains.{current_in, first_needing_link, is_chained, link_refusal, root_in, version_after_in}
use Rattle.blot_types.specs.Keys.{is_among}
use Rattle.blot_types.specs.Legal.{is_above_entries, is_book, legal_in, rises_in, least_needing}
use Rattle.blot_types.specs.Lesser.{lesser}
use Rattle.blot_types.specs.Refusals.{listed_by}
use Rattle.blot_types.specs.Survivors.{links_in, links_of, version_numbered}
use Rattle.blot_types.specs.Withdrawal.{alike, needed_in}
use Rattle.blot_types.proofs.BustLemmas.{reverse-middle}
use Rattle.blot_types.proofs.ChainLemmas.{accepted_key, accepted_root, clash, none_is}
use Rattle.blot_types.proofs.CorrectLemmas.{as_entry, front-legal}
use Rattle.blot_types.proofs.EntryLemmas.{chained-links}
use Rattle.blot_types.proofs.LawLemmas.{find-none}
use Rattle.blot_types.proofs.NeededLemmas.{needed_first, no_withdraw}
use Rattle.blot_types.proofs.GeneralLemmas.{and-false, all-reversed}
use Rattle.blot_command.specs.Blocking.{blocked_by, blocked_correct, changes_version, first_listing, lists_at, needed_until}
use Rattle.blot_command.specs.Book.{has_number}
use Rattle.blot_command.proofs.AllocNeedLemmas.{cancel-needed, new-needed, replace-needed}
use Rattle.blot_command.proofs.CorrectNeedLemmas.{first-listing, is_changed, key-root}
use Rattle.blot_command.proofs.FirstEntryLemmas.{after, first_in, needed-in}
use Rattle.blot_command.proofs.LinkNeedLemmas.{trade-needed}
use Rattle.blot_command.proofs.RefusalLemmas.{same_version}
use Rattle.blot_command.proofs.UntilNeedLemmas.{IsUntil, Lists, before-front, first-listed, found-front}

-- ---- the entry of a number among the others

-- an entry that is found stands among the others
record StandsIn (list : List Entry) (number : ℕ) (k : Entry) : Type 0 where
  front : List Entry
  back : List Entry
  is : list ≡ front ++ k ∷ back
  own : k.number ≡ number

stands-more : (first : Entry) (list : List Entry) (number : ℕ) (k : Entry) → StandsIn list number k → StandsIn (first ∷ list) number k
stands-more first list number k stands = record { front = first ∷ stands.front; back = stands.back; is = ap (λ rest. first ∷ rest) stands.is; own = stands.own }

stands-in : (list : List Entry) (number : ℕ) (k : Entry) → find (has_number number) list ≡ Some k → StandsIn list number k
stands-in [] number k found = absurd (clash (sym found))
stands-in (first ∷ list) number k found = elim (cases_Bool (has_number number first)) [
  | inl here ↦
      let same : first ≡ k = same_Some first k (sym (ap (λ b. cond b (Some first) (find (has_number number) list)) here) ∙ found) in
      record { front = []; back = list; is = ap (λ entry. entry ∷ list) same; own = ap (λ (entry : Entry). entry.number) (sym same) ∙ eqb-true first.number number here }
  | inr other ↦ stands-more first list number k (stands-in list number k (sym (ap (λ b. cond b (Some first) (find (has_number number) list)) other) ∙ found))
]

-- each entry is found by its number
abbrev IsFound : List Entry → Entry → Type 0
IsFound list entry = find (has_number entry.number) list ≡ Some entry

apart-below : (entry : Entry) (earlier : List Entry) → is_above_entries entry.number earlier ≡ true → All (λ other. has_number entry.number other ≡ false) earlier
apart-below entry [] above = All-nil (λ other. has_number entry.number other ≡ false)
apart-below entry (first ∷ earlier) above =
    let parts : (nat_lt first.number entry.number ≡ true) × (is_above_entries entry.number earlier ≡ true) = and_parts _ _ above in
    let less : first.number < entry.number = ltb-true _ _ parts.0 in
    All-cons (λ other. has_number entry.number other ≡ false) first earlier (ne_eqb first.number entry.number (λ same. absurd (omega (arith, same, less)))) (apart-below entry earlier parts.1)

found-each : (entries : List Entry) → rises_in entries ≡ true → All (IsFound (reverse entries)) entries
found-each [] rise = All-nil (IsFound [])
found-each (entry ∷ earlier) rise =
    let rises : (is_above_entries entry.number earlier ≡ true) × (rises_in earlier ≡ true) = and_parts _ _ rise in
    let whole : reverse (entry ∷ earlier) ≡ reverse earlier ++ entry ∷ [] = reverse-append (entry ∷ []) earlier in
    let none : find (has_number entry.number) (reverse earlier) ≡ None =
    find-none (has_number entry.number) (reverse earlier) (all-reversed (λ other. has_number entry.number other ≡ false) earlier (apart-below entry earlier rises.0)) in
    let own : has_number entry.number entry ≡ true = eq-eqb entry.number entry.number refl in
    All-cons (IsFound (reverse (entry ∷ earlier))) entry earlier
    (ap (find (has_number entry.number)) whole ∙ find-append (has_number entry.number) (reverse earlier) (entry ∷ [])
    ∙ ap (λ found. option_or found (cond (has_number entry.number entry) (Some entry) None)) none ∙ ap (λ b. cond b (Some entry) None) own)
    (All-weaker (IsFound (reverse earlier)) (IsFound (reverse (entry ∷ earlier)))
    (λ other found.
    ap (find (has_number other.number)) whole ∙ find-append (has_number other.number) (reverse earlier) (entry ∷ [])
    ∙ ap (λ first. option_or first (find (has_number other.number) (entry ∷ []))) found) earlier (found-each earlier rises.1))

-- ---- nothing needs a Bust

never-in : (k : Entry) (entries : List Entry) → first_in (after k (λ before entry. false)) entries ≡ None
never-in k [] = refl
never-in k (entry ∷ earlier) =
    ap (λ found. option_or found (cond (nat_lt k.number entry.number && false) (Some entry.number) None)) (never-in k earlier)
    ∙ ap (λ b. cond b (Some entry.number) None) (and-false (nat_lt k.number entry.number))

-- ---- a Correct

seen-fill : (fill : Fill) (found : Option Version)
    → option_map_or (λ old. not (alike fill old)) (option_map (λ version. version.fill) found) false ≡ option_map_or (λ (version : Version). not (alike fill version.fill)) found false
seen-fill fill None = refl
seen-fill fill (Some version) = refl

module _ (list : List Entry) (number : ℕ) (correct : CorrectCommand) (later front : List Entry) (whole : reverse list ≡ later ++ as_entry number correct ∷ front)
    (legal : legal_in (later ++ as_entry number correct ∷ front) ≡ true) (rise : rises_in (later ++ as_entry number correct ∷ front) ≡ true)
    (within : is_above_entries (EVENTS_MAX + 1) (later ++ as_entry number correct ∷ front) ≡ true) (r : ExecKey) (rooted : root_in (links_in front) correct.reference ≡ Some r) where
  abbrev k : Entry
  k = as_entry number correct

  abbrev all : List Entry
  all = later ++ k ∷ front

  turned : reverse all ≡ list
  turned = ap reverse (sym whole) ∙ reverse-reverse list

  -- the version before it
  found-before : (found : Option ℕ) → current_in (links_in front) r ≡ found → option_and_then (version_numbered front) found ≡ option_and_then (version_numbered list) found
  found-before None is = refl
  found-before (Some n) is =
      sym (found-front k later front r n rise is) ∙ ap (λ entries. version_numbered entries n) (sym whole) ∙ same_version list n (ap rises_in whole ∙ rise)

  changed-is : is_changed number correct front r rooted ≡ changes_version list (links_in all) number r correct.fill
  changed-is =
      ap (λ found. option_map_or (λ old. not (alike correct.fill old)) (option_map (λ (version : Version). version.fill) (option_and_then (version_numbered front) (option_and_then (current_in (links_in front)) found))) false) rooted
      ∙ seen-fill correct.fill (option_and_then (version_numbered front) (current_in (links_in front) r))
      ∙ ap (λ found. option_map_or (λ (version : Version). not (alike correct.fill version.fill)) found false)
      (found-before (current_in (links_in front) r) refl ∙ ap (option_and_then (version_numbered list)) (sym (before-front k later front r rise)))

  -- the next version
  abbrev next : ℕ
  next = unwrap_or (version_after_in (links_in all) number r) (EVENTS_MAX + 1)

  is-until : IsUntil number r next all
  is-until = record {
    none = λ none. subst (λ n. is_above_entries n all ≡ true) (sym (ap (λ found. unwrap_or found (EVENTS_MAX + 1)) none)) within;
    some = λ n is. ap (λ found. unwrap_or found (EVENTS_MAX + 1)) is;
  }

  lists-each : All (Lists correct.key (lists_at list correct.key)) all
  lists-each =
      All-weaker (IsFound (reverse all)) (Lists correct.key (lists_at list correct.key))
      (λ entry found. ap (λ found. option_map_or (λ (entry : Entry). is_among (listed_by entry.command) correct.key) found false) (ap (find (has_number entry.number)) (sym turned) ∙ found)) all
      (found-each all rise)

  correct-needed : needed_in k all ≡ blocked_correct list (links_in all) (instructions_in all) number correct
  correct-needed =
      first-listing number correct front r rooted later legal rise
      ∙ ap (lesser (first_needing_link (links_in all) number))
      (first-listed k correct.key r (is_changed number correct front r rooted) (lists_at list correct.key) next all rise is-until lists-each
      ∙ ap (λ b. first_listing list correct.key r (cond b next 0) number (instructions_in all)) changed-is)
      ∙ sym (ap (λ root. option_and_then
      (λ root.
      lesser (first_needing_link (links_in all) number)
      (first_listing list correct.key root (needed_until list (links_in all) number root correct.fill) number (instructions_in all))) root) (key-root number correct front r rooted later legal))

-- the root of what an accepted Correct refers to
correct-rooted : (number : ℕ) (correct : CorrectCommand) (later front : List Entry) → legal_in (later ++ as_entry number correct ∷ front) ≡ true → (r : ExecKey) × (root_in (links_in front) correct.reference ≡ Some r)
correct-rooted number correct later front legal =
    let own = front-legal (as_entry number correct) later front legal in
    let whole : legal_in (as_entry number correct ∷ front) ≡ true = and_from _ _ (ap is_none own.0) own.1 in
    let parts : (is_none (link_refusal (links_in front) correct.key (Corrects correct.reference)) ≡ true) × (is_chained (links_in front) ≡ true) = and_parts _ _ (chained-links (as_entry number correct ∷ front) whole) in
    let root = accepted_root (links_in front) correct.reference (root_in (links_in front) correct.reference) (accepted_key (links_in front) correct.key (Corrects correct.reference) (none_is _ parts.0)).1 in
    (root.0, root.1.root_is)

-- ---- by kinds

by-kind :
    (list : List Entry) (number : ℕ) (command : Command) (later front : List Entry) → reverse list ≡ later ++ record { number = number; command = command } ∷ front
    → legal_in (later ++ record { number = number; command = command } ∷ front) ≡ true → rises_in (later ++ record { number = number; command = command } ∷ front) ≡ true
    → is_above_entries (EVENTS_MAX + 1) (later ++ record { number = number; command = command } ∷ front) ≡ true
    → needed_in (record { number = number; command = command }) (later ++ record { number = number; command = command } ∷ front)
    ≡ blocked_by list (links_in (later ++ record { number = number; command = command } ∷ front)) (instructions_in (later ++ record { number = number; command = command } ∷ front)) number command
by-kind list number (Trade trade) later front whole legal rise within = trade-needed number trade front later legal rise
by-kind list number (Correct correct) later front whole legal rise within =
    let root = correct-rooted number correct later front legal in
    correct-needed list number correct later front whole legal rise within root.0 root.1
by-kind list number (Bust bust) later front whole legal rise within =
    let k : Entry = record { number = number; command = Bust bust } in
    needed-in k (later ++ k ∷ front) ∙ never-in k (later ++ k ∷ front)
by-kind list number (AllocNew new) later front whole legal rise within = new-needed number new front later legal rise
by-kind list number (AllocReplace replace) later front whole legal rise within = replace-needed number replace front later legal rise
by-kind list number (AllocCancel cancel) later front whole legal rise within = cancel-needed number cancel front later legal rise
by-kind list number (Withdraw withdrawn) later front whole legal rise within = absurd (no_withdraw number withdrawn later front legal)

-- so the look-ups name the first that needs the entry of a number
pub blocked-is :
    (list : List Entry) (number : ℕ) (k : Entry) → is_book list ≡ true → find (has_number number) list ≡ Some k
    → blocked_by list (links_of list) (instructions_of list) number k.command ≡ least_needing list number
blocked-is list number k book found =
    let stands = stands-in list number k found in
    let parts : ((rises_in (reverse list) && is_above_entries (EVENTS_MAX + 1) (reverse list)) ≡ true) × (legal_in (reverse list) ≡ true) = and_parts _ _ book in
    let numbered : (rises_in (reverse list) ≡ true) × (is_above_entries (EVENTS_MAX + 1) (reverse list) ≡ true) = and_parts _ _ parts.0 in
    let later = reverse stands.back in
    let front = reverse stands.front in
    let whole : reverse list ≡ later ++ k ∷ front = ap reverse stands.is ∙ reverse-middle stands.front stands.back k in
    let kind = by-kind list k.number k.command later front whole (ap legal_in (sym whole) ∙ parts.1) (ap rises_in (sym whole) ∙ numbered.0) (ap (is_above_entries (EVENTS_MAX + 1)) (sym whole) ∙ numbered.1) in
    ap (λ n. blocked_by list (links_of list) (instructions_of list) n k.command) (sym stands.own)
    ∙ ap (λ entries. blocked_by list (links_in entries) (instructions_in entries) k.number k.command) whole ∙ sym kind ∙ ap (needed_in k) (sym whole)
    ∙ sym (needed_first list book stands.front stands.back k stands.is) ∙ ap (least_needing list) stands.own
