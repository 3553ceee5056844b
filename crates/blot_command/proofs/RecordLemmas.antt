-- What the book shows after one entry more, and one less. `brought` is the version that the entry brings,
-- `replaced` the one whose place it takes.
use Rattle.std.proofs.Common.{◌≡◌, ℕ, ◌+◌, ◌<◌, ◌≤◌, ◌==◌, Bool, true, List, [], ◌∷◌, ◌++◌, reverse, Option, Some, None, refl, sym, ap, subst, ◌∙◌, arith, inl, inr, nat_le, nat_lt, not, find, filter, All, IfSome, option_map, option_and_then, le-leb, leb-true, ltb-true, ne_eqb, eq-eqb, eqb-true, append-nil}
use Rattle.std.specs.List.{cons_option}
use Rattle.std.specs.Option.{option_or}
use Rattle.std.proofs.lemmas.Bool.{cases_Bool, and_from, and_parts, eqb-false}
use Rattle.std.proofs.lemmas.List.{reverse-reverse}
use Rattle.std.proofs.lemmas.List.Elements.{All-nil, All-cons, All-head, All-tail, All-append, All-weaker, All-filter, filter-append, filter_map-append}
use Rattle.std.proofs.lemmas.List.Folds.{find-append}
use Rattle.blot_types.specs.declared.{command.Entry.Entry, lines.Version.Version, link.Link.Link}
use Rattle.blot_types.specs.Chains.{replaced_by}
use Rattle.blot_types.specs.Legal.{is_above_entries, rises_in, numbers_rise, is_book}
use Rattle.blot_types.specs.Survivors.{link_of, links_in, links_of, version_of, versions_of, is_number, stands_in, survivors, version_numbered}
use Rattle.blot_types.proofs.ChainLemmas.{clash}
use Rattle.blot_types.proofs.EntryLemmas.{version-number}
use Rattle.blot_types.proofs.SurvivorLemmas.{IsKnown, all_known, versions-cons, versions-known, without, without-none, survivors-push, replaced-by_entry, find-below, find-passes}
use Rattle.blot_types.proofs.ApartLemmas.{number_of}
use Rattle.blot_types.proofs.GeneralLemmas.{all-front}
use Rattle.blot_order.proofs.FillLemmas.{rise_from, held_at-with_kept_same, held_at-with_kept_other}
use Rattle.blot_order.specs.Fills.{Fills, put_at}
use Rattle.blot_command.specs.Book.{Shown}
use Rattle.blot_command.specs.Shown.{version_replaced, Shows, with_kept, CanPut}
use Rattle.blot_command.specs.Withdrawing.{with_entry}
use Rattle.blot_command.proofs.EachLemmas.{all-brought}
use Rattle.blot_command.proofs.LiveLemmas.{IsNextEntry, next-entry}
use Rattle.blot_command.proofs.ShowLemmas.{Puts, IsUnused, IsAmong, IsHeld, puts_kept, Trades, trades-back, IsTraded, traded}

-- ---- the version that the entry brings

-- what an entry brings, under its number
pub record Brings (entry : Entry) (brought : Option Version) : Type 0 where
  pub is : version_of entry ≡ brought
  pub numbered : IfSome brought (λ version. version.number ≡ entry.number)

bring : (entry : Entry) (brought : Option Version) → version_of entry ≡ brought → IfSome brought (λ version. version.number ≡ entry.number)
bring entry None is = tt
bring entry (Some version) is = version-number entry version is

pub brings : (entry : Entry) (brought : Option Version) → brought ≡ version_of entry → Brings entry brought
brings entry brought is = record { is = sym is; numbered = bring entry brought (sym is) }

-- its number is new
survivors-known : (list : List Entry) (entry : Entry) → IsNextEntry list entry → All (IsKnown entry.number (links_of list)) (survivors list)
survivors-known list entry next = All-filter (stands_in (links_of list)) (IsKnown entry.number (links_of list)) (versions_of list) (versions-known entry.number list next.above)

unused : (list : List Entry) (entry : Entry) → IsNextEntry list entry → IsUnused entry.number (survivors list)
unused list entry next = find-below entry.number (links_of list) (survivors list) (survivors-known list entry next)

pub can_put :
    (shown : Shown) (entry : Entry) (fills : Fills) (brought : Option Version) → IsNextEntry shown.list entry → Shows shown fills → Brings entry brought
    → IfSome brought (λ version. CanPut version fills)
can_put shown entry fills None next shows brought = tt
can_put shown entry fills (Some version) next shows brought = record {
  unput = ap (put_at fills) brought.numbered ∙ shows.put entry.number ∙ ap (option_map (λ v. v.fill)) (unused shown.list entry next);
  within = omega (arith, brought.numbered, next.within);
}

-- ---- lists of versions

pub without-unused : (n : ℕ) (versions : List Version) → IsUnused n versions → without (Some n) versions ≡ versions
without-unused n [] free = refl
without-unused n (version ∷ versions) free =
    elim (cases_Bool (version.number == n)) [
      | inl same ↦ absurd (clash (rw same at free))
      | inr other ↦
          rw (ne_eqb n version.number (λ e. eqb-false version.number n other (sym e)))
          (ap (λ rest. version ∷ rest) (without-unused n versions (rw other at free)))
    ]

-- the version after the others, taken away again
without-last : (version : Version) (versions : List Version) → IsUnused version.number versions → without (Some version.number) (versions ++ version ∷ []) ≡ versions
without-last version versions free =
    filter-append (λ v. not (is_number v.number (Some version.number))) versions (version ∷ [])
    ∙ ap (λ front. front ++ without (Some version.number) (version ∷ [])) (without-unused version.number versions free)
    ∙ rw (eq-eqb version.number version.number refl) (append-nil versions)

unused-without : (n : ℕ) (replaced : Option ℕ) (versions : List Version) → IsUnused n versions → IsUnused n (without replaced versions)
unused-without n replaced [] free = refl
unused-without n replaced (version ∷ versions) free =
    elim (cases_Bool (version.number == n)) [
      | inl same ↦ absurd (clash (rw same at free))
      | inr other ↦
          let rest : IsUnused n (without replaced versions) = unused-without n replaced versions (rw other at free) in
          elim (cases_Bool (is_number version.number replaced)) [
            | inl gone ↦ rw gone rest
            | inr kept ↦ rw (kept, other) rest
          ]
    ]

-- versions under other numbers, with the one that is brought: it is there, and taken away again it leaves the others
back_again :
    (versions : List Version) (n : ℕ) (brought : Option Version) → IsUnused n versions → IfSome brought (λ v. v.number ≡ n)
    → without (number_of brought) (versions ++ cons_option brought []) ≡ versions
back_again versions n None free numbered = without-none (versions ++ []) ∙ append-nil versions
back_again versions n (Some version) free numbered = without-last version versions (subst (λ k. IsUnused k versions) (sym numbered) free)

last_among :
    (versions : List Version) (n : ℕ) (brought : Option Version) → IsUnused n versions → IfSome brought (λ v. v.number ≡ n) → IfSome brought (IsAmong (versions ++ cons_option brought []))
last_among versions n None free numbered = tt
last_among versions n (Some version) free numbered =
    let own : find (λ v. v.number == version.number) (version ∷ []) ≡ Some version = rw (eq-eqb version.number version.number refl) refl in
    find-append (λ v. v.number == version.number) versions (version ∷ []) ∙ ap (λ found. option_or found (find (λ v. v.number == version.number) (version ∷ []))) (subst (λ k. IsUnused k versions) (sym numbered) free)
    ∙ own

-- ---- the version whose place it takes

-- a survivor, whose number is that of the definition
record Replaces (list : List Entry) (link : Option Link) (replaced : Option Version) : Type 0 where
  number_is : replaced_by (links_of list) link ≡ number_of replaced
  survives : IfSome replaced (IsAmong (survivors list))

replace :
    (list : List Entry) (link : Option Link) (number : Option ℕ) (replaced : Option Version) → replaced_by (links_of list) link ≡ number
    → replaced ≡ option_and_then (version_numbered list) number
    → ((m : ℕ) → number ≡ Some m → (version : Version) × (find (λ v. v.number == m) (versions_of list) ≡ Some version) × (find (λ v. v.number == m) (survivors list) ≡ Some version))
    → Replaces list link replaced
replace list link None replaced is read found = subst (Replaces list link) (sym read) (record { number_is = is; survives = tt })
replace list link (Some m) replaced is read found =
    let one = found m refl in
    let version = one.0 in
    let same : version.number ≡ m = eqb-true version.number m (find-passes (λ v. v.number == m) (versions_of list) version one.1) in
    subst (Replaces list link) (sym (read ∙ one.1)) (record {
      number_is = is ∙ ap Some (sym same);
      survives = ap (λ n. find (λ v. v.number == n) (survivors list)) same ∙ one.2;
    })

replaces : (list : List Entry) (entry : Entry) (replaced : Option Version) → IsNextEntry list entry → replaced ≡ version_replaced list entry → Replaces list (link_of entry) replaced
replaces list entry replaced next read =
    replace list (link_of entry) (replaced_by (links_of list) (link_of entry)) replaced refl read
    (λ m is. replaced-by_entry list entry m next.legal next.rise next.accepted is)

-- ---- what stands with the entry, and without it

-- the version that the entry brings goes with it, and that whose place it takes comes
next-trades :
    (list : List Entry) (entry : Entry) (brought replaced : Option Version) → IsNextEntry list entry → Brings entry brought → replaced ≡ version_replaced list entry
    → Trades (list ++ entry ∷ []) list brought replaced
next-trades list entry brought replaced next brings_it read =
    let replaces_it = replaces list entry replaced next read in
    let left = without (number_of replaced) (survivors list) in
    let free = unused-without entry.number (number_of replaced) (survivors list) (unused list entry next) in
    let after : survivors (list ++ entry ∷ []) ≡ left ++ cons_option brought [] =
    survivors-push list entry next.rise next.above next.accepted ∙ ap (λ n. without n (survivors list) ++ versions_of (entry ∷ [])) replaces_it.number_is
    ∙ ap (λ o. left ++ cons_option o []) brings_it.is in
    record {
      same = ap (without (number_of brought)) after ∙ back_again left entry.number brought free brings_it.numbered;
      stood = subst (λ versions. IfSome brought (IsAmong versions)) (sym after) (last_among left entry.number brought free brings_it.numbered);
      stands = replaces_it.survives;
    }

-- ---- one entry more

-- its fill is kept first, under a number that no version has: the book shows what it showed
without-brought : (versions : List Version) (n : ℕ) (brought : Option Version) → IsUnused n versions → IfSome brought (λ v. v.number ≡ n) → without (number_of brought) versions ≡ versions
without-brought versions n None free numbered = without-none versions
without-brought versions n (Some version) free numbered = without-unused version.number versions (subst (λ k. IsUnused k versions) (sym numbered) free)

held_beside :
    (versions : List Version) (n : ℕ) (fills : Fills) (brought : Option Version) → All (λ v. v.number < n) versions → IfSome brought (λ v. v.number ≡ n) → All (IsHeld fills) versions
    → All (IsHeld (with_kept brought fills)) versions
held_beside versions n fills None below numbered held = held
held_beside versions n fills (Some version) below numbered held =
    λ k d less.
    let here = held k d less in
    let under = below k d less in
    held_at-with_kept_other version.number _ version.fill fills (λ same. absurd (omega (arith, under, same, numbered))) ∙ here

-- versions of entries that a number is above
below-by : (entry : Entry) (n : ℕ) (brought : Option Version) → version_of entry ≡ brought → entry.number < n → IfSome brought (λ v. v.number < n)
below-by entry n None is less = tt
below-by entry n (Some version) is less = let own = version-number entry version is in omega (arith, own, less)

each-below : (n : ℕ) (entries : List Entry) → is_above_entries n entries ≡ true → All (λ entry. IfSome (version_of entry) (λ v. v.number < n)) entries
each-below n [] above = All-nil (λ entry. IfSome (version_of entry) (λ v. v.number < n))
each-below n (entry ∷ entries) above =
    let parts : (nat_lt entry.number n ≡ true) × (is_above_entries n entries ≡ true) = and_parts _ _ above in
    All-cons (λ e. IfSome (version_of e) (λ v. v.number < n)) entry entries (below-by entry n (version_of entry) refl (ltb-true _ _ parts.0)) (each-below n entries parts.1)

pub shows-held :
    (shown : Shown) (entry : Entry) (fills : Fills) (brought : Option Version) → IsNextEntry shown.list entry → is_above_entries entry.number shown.kept ≡ true → Shows shown fills → Brings entry brought
    → Shows shown (with_kept brought fills)
shows-held shown entry fills brought next above shows brings_it =
    let n = entry.number in
    let known = All-weaker (IsKnown n (links_of shown.list)) (λ v. v.number < n) (λ v seen. seen.below) (versions_of shown.list) (versions-known n shown.list next.above) in
    let below = all-brought version_of (λ v. v.number < n) shown.kept (each-below n shown.kept above) in
    record {
      book = shows.book;
      put = subst (Puts (with_kept brought fills)) (without-brought (survivors shown.list) n brought (unused shown.list entry next) brings_it.numbered) (puts_kept fills brought (survivors shown.list) shows.put);
      held = held_beside (versions_of shown.list) n fills brought known brings_it.numbered shows.held;
      held_kept = held_beside (versions_of shown.kept) n fills brought below brings_it.numbered shows.held_kept;
    }

held_own : (fills : Fills) (brought : Option Version) → All (IsHeld (with_kept brought fills)) (cons_option brought [])
held_own fills None = All-nil (IsHeld fills)
held_own fills (Some version) = All-cons (IsHeld (with_kept (Some version) fills)) version [] (held_at-with_kept_same version.number version.fill fills) (All-nil (IsHeld (with_kept (Some version) fills)))

versions-push : (list : List Entry) (entry : Entry) (brought : Option Version) → Brings entry brought → versions_of (list ++ entry ∷ []) ≡ versions_of list ++ cons_option brought []
versions-push list entry brought brings_it = filter_map-append version_of list (entry ∷ []) ∙ ap (λ o. versions_of list ++ cons_option o []) brings_it.is

-- then the version whose place it takes goes, and its own comes
pub records :
    (shown : Shown) (entry : Entry) (fills : Fills) (brought replaced : Option Version) → IsNextEntry shown.list entry → is_above_entries entry.number shown.kept ≡ true → Shows shown fills → Brings entry brought
    → replaced ≡ version_replaced shown.list entry → IsTraded (with_entry entry shown) replaced brought (with_kept brought fills)
records shown entry fills brought replaced next above shows brings_it read =
    let held = with_kept brought fills in
    let before = shows-held shown entry fills brought next above shows brings_it in
    traded shown.list (with_entry entry shown) replaced brought held (trades-back (shown.list ++ entry ∷ []) shown.list brought replaced (next-trades shown.list entry brought replaced next brings_it read)) next.whole
    before.put
    (subst (All (IsHeld held)) (sym (versions-push shown.list entry brought brings_it)) (All-append (IsHeld held) (versions_of shown.list) (cons_option brought []) before.held (held_own fills brought)))
    before.held_kept

-- ---- one entry less

pub takes_last :
    (old new : Shown) (entry : Entry) (fills : Fills) (brought replaced : Option Version) → old ≡ with_entry entry new → is_book old.list ≡ true → Shows old fills → Brings entry brought
    → replaced ≡ version_replaced new.list entry → IsTraded new brought replaced fills
takes_last old new entry fills brought replaced is book shows brings_it read =
    let list_is : old.list ≡ new.list ++ entry ∷ [] = ap (λ (shown : Shown). shown.list) is in
    let next = next-entry new.list entry (ap is_book (sym list_is) ∙ book) in
    let was : Shows (with_entry entry new) fills = subst (λ shown. Shows shown fills) is shows in
    traded (new.list ++ entry ∷ []) new brought replaced fills (next-trades new.list entry brought replaced next brings_it read) next.book was.put
    (all-front (IsHeld fills) (versions_of new.list) (cons_option brought []) (subst (All (IsHeld fills)) (versions-push new.list entry brought brings_it) was.held))
    was.held_kept

-- ---- the survivors' numbers rise

rise-later : (m n : ℕ) (versions : List Version) → m ≤ n → rise_from n versions ≡ true → rise_from m versions ≡ true
rise-later m n [] more rise = refl
rise-later m n (version ∷ later) more rise =
    let parts : (nat_le n version.number ≡ true) × (rise_from (version.number + 1) later ≡ true) = and_parts _ _ rise in
    and_from _ _ (le-leb _ _ (omega (arith, more, leb-true n version.number parts.0))) parts.1

rise-filter : (keep : Version → Bool) (from : ℕ) (versions : List Version) → rise_from from versions ≡ true → rise_from from (filter keep versions) ≡ true
rise-filter keep from [] rise = refl
rise-filter keep from (version ∷ later) rise =
    let parts : (nat_le from version.number ≡ true) × (rise_from (version.number + 1) later ≡ true) = and_parts _ _ rise in
    let rest : rise_from (version.number + 1) (filter keep later) ≡ true = rise-filter keep (version.number + 1) later parts.1 in
    elim (cases_Bool (keep version)) [
      | inl stays ↦ rw stays (and_from _ _ parts.0 rest)
      | inr goes ↦ rw goes (rise-later from (version.number + 1) (filter keep later) (omega (arith, leb-true from version.number parts.0)) rest)
    ]

-- versions that rise, with one of a greater number after them
rise-push :
    (from n : ℕ) (links : List Link) (versions : List Version) (brought : Option Version) → rise_from from versions ≡ true → All (IsKnown n links) versions → from ≤ n
    → IfSome brought (λ v. v.number ≡ n) → rise_from from (versions ++ cons_option brought []) ≡ true
rise-push from n links [] None rise known less numbered = refl
rise-push from n links [] (Some version) rise known less numbered = and_from _ _ (le-leb _ _ (omega (arith, less, numbered))) refl
rise-push from n links (version ∷ later) brought rise known less numbered =
    let parts : (nat_le from version.number ≡ true) × (rise_from (version.number + 1) later ≡ true) = and_parts _ _ rise in
    let below : version.number < n = (All-head (IsKnown n links) version later known).below in
    and_from _ _ parts.0 (rise-push (version.number + 1) n links later brought parts.1 (All-tail (IsKnown n links) version later known) (omega (arith, below)) numbered)

versions-rise : (entries : List Entry) → rises_in entries ≡ true → rise_from 0 (versions_of (reverse entries)) ≡ true
versions-rise [] rise = refl
versions-rise (entry ∷ earlier) rise =
    let parts : (is_above_entries entry.number earlier ≡ true) × (rises_in earlier ≡ true) = and_parts _ _ rise in
    let own = brings entry (version_of entry) refl in
    subst (λ versions. rise_from 0 versions ≡ true) (sym (versions-cons entry earlier))
    (rise-push 0 entry.number (links_in earlier) (versions_of (reverse earlier)) (version_of entry) (versions-rise earlier parts.1) (all_known entry.number earlier parts.0) (omega arith) own.numbered)

pub survivors-rise : (list : List Entry) → numbers_rise list ≡ true → rise_from 0 (survivors list) ≡ true
survivors-rise list rise =
    rise-filter (stands_in (links_of list)) 0 (versions_of list)
    (subst (λ l. rise_from 0 (versions_of l) ≡ true) (reverse-reverse list) (versions-rise (reverse list) rise))
