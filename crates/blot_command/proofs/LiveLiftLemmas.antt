-- What the live list keeps as the code takes an entry out, and puts it back.
use Rattle.std.proofs.Common.{◌≡◌, ℕ, ◌<◌, Bool, true, false, ◌&&◌, List, [], ◌∷◌, reverse, Option, Some, None, refl, sym, ap, subst, ◌∙◌, arith, inl, inr, find, nat_eq, nat_lt, not, IfSome, option_and_then, eqb-true, eq-eqb, le-ltb, ltb-true}
use Rattle.std.specs.List.{list_all}
use Rattle.std.specs.Option.{option_map_or}
use Rattle.std.proofs.lemmas.Bool.{cases_Bool, and_parts, and_from}
use Rattle.blot_types.specs.declared.{allocation.Instruction.Instruction, command.Command.Command, command.Entry.Entry, keys.ExecKey.ExecKey, link.Link.Link}
use Rattle.blot_types.specs.declared.command.Command.TheVariants.{Trade, Correct, Bust, AllocNew, AllocReplace, AllocCancel, Withdraw}
use Rattle.blot_types.specs.Chains.{taker_in, takes_up}
use Rattle.blot_types.specs.Keys.{same_exec}
use Rattle.blot_types.specs.Legal.{is_book, without}
use Rattle.blot_types.specs.Refusals.{exec_key}
use Rattle.blot_types.specs.Survivors.{link_of, links_in}
use Rattle.blot_types.proofs.ChainLemmas.{differing}
use Rattle.blot_types.proofs.KeyLemmas.{same_exec-sym}
use Rattle.blot_types.proofs.LawLemmas.{book_parts}
use Rattle.blot_types.proofs.WithdrawLemmas.{put-back}
use Rattle.blot_types.proofs.GeneralLemmas.{and-false}
use Rattle.blot_places.specs.declared.slots.Slot.{Slot}
use Rattle.blot_places.specs.Shown.{Shown, item_at, with_item}
use Rattle.blot_places.specs.Slots.{items, is_above, lifted, live, marked, numbers_fall}
use Rattle.blot_places.proofs.MarkLemmas.{above-side, falling-side, items-marked, reverse-marked, side_here, side_on}
use Rattle.blot_places.proofs.ShownLemmas.{none-at, at-on, falling-parts, with_item-here, with_item-on}
use Rattle.blot_chain.specs.Steps.{link_at, number_of as link_number}
use Rattle.blot_command.specs.Book.{Shown as SeenBook, entry_number, has_number}
use Rattle.blot_command.specs.Linking.{CanLift, CanUnLift, HoldsLive, lifted_allocs, lifted_chains, returned_allocs, returned_chains}
use Rattle.blot_command.specs.Law.{has_entry}
use Rattle.blot_command.specs.Withdrawing.{CanReturn, lifted as lifted_book, returned as returned_book, shares_exec, takes_exec}
use Rattle.blot_command.specs.Slots.{AreNumbered, NewestThere, entries_in, left_in}
use Rattle.blot_command.proofs.LeftLemmas.{exec-key}
use Rattle.blot_command.proofs.WithinLemmas.{at-with_own}
use Rattle.blot_command.proofs.TurnLemmas.{at-turned, kept-put, kept-taken, list-put, list-taken}
use Rattle.blot_command.proofs.HoldLemmas.{allocs-held, allocs_of, at-links, chains-held, chains_of, held-by}
use Rattle.blot_command.proofs.TakeOutLemmas.{taken}
use Rattle.blot_command.proofs.NewestThereLemmas.{Untaken, newest-taken, none-taken}
use Rattle.blot_command.proofs.PutBackLemmas.{put}

-- ---- as the code takes an entry out, and puts it back

-- what a contract sees of slots
abbrev pub seen_of : List (Slot Entry) → SeenBook
seen_of slots = record { list = entries_in slots; kept = left_in slots }

-- no entry that was taken out after one that is there takes up its execution
untaken-kept : (slots : List (Slot Entry)) (entry : Entry) → numbers_fall entry_number (items slots) ≡ true → NewestThere slots → item_at entry_number entry.number (live slots) ≡ Some entry → Untaken entry (lifted slots)
untaken-kept [] entry fall newest there = refl
untaken-kept (slot ∷ earlier) entry fall newest there =
    let n = entry.number in
    let falling = falling-parts entry_number slot.item (items earlier) fall in
    elim (cases_Bool slot.is_live) [
      | inl is ↦
          let lives = side_here true slot earlier is in
          ap (list_all (λ (o : Entry). not (nat_lt n o.number && shares_exec entry o))) (side_on false slot earlier (ap not is))
          ∙ elim (cases_Bool (nat_eq slot.item.number n)) [
            | inl here ↦ all-below earlier (subst (λ k. is_above entry_number k (items earlier) ≡ true) (eqb-true _ _ here) falling.0)
            | inr other ↦ untaken-kept earlier entry falling.1 newest.1 (sym (at-on entry_number n slot.item (live earlier) other) ∙ ap (item_at entry_number n) (sym lives) ∙ there)
          ]
      | inr taken ↦
          let on : item_at entry_number n (live earlier) ≡ Some entry = ap (item_at entry_number n) (sym (side_on true slot earlier taken)) ∙ there in
          ap (list_all (λ (o : Entry). not (nat_lt n o.number && shares_exec entry o))) (side_here false slot earlier (ap not taken))
          ∙ and_from _ _ (apart (shares_exec entry slot.item) refl (falling-side entry_number true earlier falling.1) newest.0 on) (untaken-kept earlier entry falling.1 newest.1 on)
    ]
  where
    all-below : (slots : List (Slot Entry)) → is_above entry_number entry.number (items slots) ≡ true → Untaken entry (lifted slots)
    all-below slots below = by (lifted slots) (above-side entry_number entry.number false slots below)
      where
        by : (entries : List Entry) → is_above entry_number entry.number entries ≡ true → Untaken entry entries
        by [] above = refl
        by (o ∷ entries) above =
            let parts : (nat_lt o.number entry.number ≡ true) × (is_above entry_number entry.number entries ≡ true) = and_parts _ _ above in
            let under : o.number < entry.number = ltb-true _ _ parts.0 in
            and_from _ _ (ap (λ b. not (b && shares_exec entry o)) (le-ltb entry.number o.number (omega (arith, under)))) (by entries parts.1)

    clashing : (key : ExecKey) (link : Link) → exec_key slot.item.command ≡ Some key → link_of entry ≡ Some link → shares_exec entry slot.item ≡ true → takes_up key link ≡ true
    clashing key link own linked shares =
        same_exec-sym link.key key
        ∙ sym ((λ i. option_map_or (λ (k : ExecKey). option_map_or (λ (mine : ExecKey). same_exec mine k) (own i) false) (exec-key entry link linked i) false)) ∙ shares

    shared : numbers_fall entry_number (live earlier) ≡ true → IfSome (exec_key slot.item.command) (λ key. taker_in (links_in (live earlier)) key ≡ None) → item_at entry_number entry.number (live earlier) ≡ Some entry
        → shares_exec entry slot.item ≡ true → (key : Option ExecKey) (found : Option Link) → exec_key slot.item.command ≡ key → link_of entry ≡ found → ⊥
    shared fall newest on shares None found own linked = absurd (differing shares (unshared-none own))
      where
        unshared-none : exec_key slot.item.command ≡ None → shares_exec entry slot.item ≡ false
        unshared-none own = by (exec_key entry.command)
          where
            by : (mine : Option ExecKey) → option_map_or (λ (k : ExecKey). takes_exec k slot.item) mine false ≡ false
            by None = refl
            by (Some k) = ap (λ o. option_map_or (λ (m : ExecKey). same_exec m k) o false) own
    shared fall newest on shares (Some key) None own linked = absurd (differing shares (unlinked-shares linked))
      where
        unlinked-shares : link_of entry ≡ None → shares_exec entry slot.item ≡ false
        unlinked-shares linked = by entry.command linked
          where
            by : (command : Command) → link_of (record { number = entry.number; command = command }) ≡ None → shares_exec (record { number = entry.number; command = command }) slot.item ≡ false
            by (Trade trade) none = cc
            by (Correct correct) none = cc
            by (Bust bust) none = cc
            by (AllocNew new) none = refl
            by (AllocReplace replace) none = refl
            by (AllocCancel cancel) none = refl
            by (Withdraw withdrawn) none = refl
    shared fall newest on shares (Some key) (Some link) own linked =
        let none = none-taken (links_in (live earlier)) key (subst (λ k. IfSome k (λ key. taker_in (links_in (live earlier)) key ≡ None)) own newest) in
        let at : link_at entry.number (links_in (live earlier)) ≡ Some link = at-links entry.number (live earlier) fall ∙ ap (option_and_then link_of) on ∙ linked in
        absurd (differing (clashing key link own linked shares) (none-at (takes_up key) link_number entry.number (links_in (live earlier)) link none at))

    apart : (shares : Bool) → shares_exec entry slot.item ≡ shares → numbers_fall entry_number (live earlier) ≡ true → IfSome (exec_key slot.item.command) (λ key. taker_in (links_in (live earlier)) key ≡ None)
        → item_at entry_number entry.number (live earlier) ≡ Some entry → not (nat_lt entry.number slot.item.number && shares_exec entry slot.item) ≡ true
    apart false is fall newest on = ap (λ b. not (nat_lt entry.number slot.item.number && b)) is ∙ ap not (and-false (nat_lt entry.number slot.item.number))
    apart true is fall newest on = absurd (shared fall newest on is (exec_key slot.item.command) (link_of entry) refl refl)

-- the entry of a number, taken out
pub record TakesOut (slots : List (Slot Entry)) (number : ℕ) (entry : Entry) (chains : Shown Link) (allocs : Shown Instruction) : Type 0 where
  pub can : CanLift entry chains allocs
  pub holds : (after : List (Slot Entry)) (chains' : Shown Link) (allocs' : Shown Instruction) → after ≡ marked entry_number number false slots
      → chains' ≡ lifted_chains entry chains
      → allocs' ≡ lifted_allocs entry allocs → HoldsLive after chains' allocs'
  pub seen : (after : List (Slot Entry)) → after ≡ marked entry_number number false slots → seen_of after ≡ lifted_book entry (seen_of slots)
  pub returns : (after : List (Slot Entry)) → after ≡ marked entry_number number false slots → CanReturn entry (seen_of after)

pub takes-out :
    (slots : List (Slot Entry)) (number : ℕ) (entry : Entry) (chains : Shown Link) (allocs : Shown Instruction) → HoldsLive slots chains allocs → find (has_number number) (entries_in slots) ≡ Some entry
    → is_book (without number (entries_in slots)) ≡ true → TakesOut slots number entry chains allocs
takes-out slots number entry chains allocs holds found rest_book =
    let list = entries_in slots in
    let has = has_entry list number entry found in
    let own : entry.number ≡ number = has.own in
    let found_own : find (has_number entry.number) list ≡ Some entry = ap (λ k. find (has_number k) list) own ∙ found in
    let rest_own : is_book (without entry.number list) ≡ true = ap (λ k. is_book (without k list)) own ∙ rest_book in
    let book = holds.holds.book in
    let it = taken slots entry holds.numbered found_own book rest_own holds.newest in
    let chains_are = chains-held slots chains allocs holds in
    let allocs_are = allocs-held slots chains allocs holds in
    let after_is : (after : List (Slot Entry)) → after ≡ marked entry_number number false slots → after ≡ marked entry_number entry.number false slots =
    λ after is. is ∙ ap (λ k. marked entry_number k false slots) (sym own) in
    let seen : (after : List (Slot Entry)) → after ≡ marked entry_number number false slots → seen_of after ≡ lifted_book entry (seen_of slots) =
    λ after is. ap seen_of (after_is after is)
    ∙ (λ i. record { list = list-taken slots entry.number i; kept = kept-taken slots entry entry.number holds.numbered found_own i }) in
    record {
      can = subst (λ c. CanLift entry c allocs) (sym chains_are) (subst (CanLift entry (chains_of slots)) (sym allocs_are) it.can);
      holds = λ after chains' allocs' is one two.
          (let marks = after_is after is in
          held-by after chains' allocs'
          (subst AreNumbered (sym marks) (ap (λ s. numbers_fall entry_number (items s)) (reverse-marked entry_number entry.number false slots)
          ∙ ap (numbers_fall entry_number) (items-marked entry_number entry.number false (reverse slots)) ∙ holds.numbered))
          (ap (λ s. is_book (entries_in s)) marks ∙ ap is_book (list-taken slots entry.number) ∙ rest_own)
          (one ∙ ap (lifted_chains entry) chains_are ∙ sym it.chains ∙ ap chains_of (sym marks))
          (two ∙ ap (lifted_allocs entry) allocs_are ∙ sym it.allocs ∙ ap allocs_of (sym marks))
          (subst (λ s. NewestThere (reverse s)) (sym marks) (subst NewestThere (sym (reverse-marked entry_number entry.number false slots)) (newest-taken (reverse slots) entry.number holds.newest))));
      seen = seen;
      returns = λ after is. subst (CanReturn entry) (sym (seen after is)) (record {
        kept = at-with_own entry_number entry.number entry (left_in slots) (eq-eqb entry.number entry.number refl);
        untaken = untaken-with entry (left_in slots)
            (untaken-kept (reverse slots) entry holds.numbered holds.newest (at-turned slots entry entry.number holds.numbered found_own).1);
        book = ap is_book (put-back list (book_parts list book).0 has.front has.back entry has.is) ∙ book;
      });
    }
  where
    own-untaken : (entry : Entry) → not (nat_lt entry.number entry.number && shares_exec entry entry) ≡ true
    own-untaken entry = ap (λ b. not (b && shares_exec entry entry)) (le-ltb entry.number entry.number (omega arith))

    untaken-with : (entry : Entry) (entries : List Entry) → Untaken entry entries → Untaken entry (with_item entry_number entry entries)
    untaken-with entry [] untaken = and_from _ _ (own-untaken entry) refl
    untaken-with entry (first ∷ entries) untaken =
        let parts : (not (nat_lt entry.number first.number && shares_exec entry first) ≡ true) × Untaken entry entries = and_parts _ _ untaken in
        elim (cases_Bool (nat_lt entry.number first.number)) [
          | inl less ↦
              ap (list_all (λ (o : Entry). not (nat_lt entry.number o.number && shares_exec entry o))) (with_item-on entry_number entry first entries less)
              ∙ and_from _ _ parts.0 (untaken-with entry entries parts.1)
          | inr more ↦
              ap (list_all (λ (o : Entry). not (nat_lt entry.number o.number && shares_exec entry o))) (with_item-here entry_number entry first entries more)
              ∙ and_from _ _ (own-untaken entry) untaken
        ]

-- an entry whose slot is kept, put back
pub record PutsBack (slots : List (Slot Entry)) (entry : Entry) (chains : Shown Link) (allocs : Shown Instruction) : Type 0 where
  pub can : CanUnLift entry chains allocs
  pub holds : (after : List (Slot Entry)) (chains' : Shown Link) (allocs' : Shown Instruction) → after ≡ marked entry_number entry.number true slots
      → chains' ≡ returned_chains entry chains
      → allocs' ≡ returned_allocs entry allocs → HoldsLive after chains' allocs'
  pub seen : (after : List (Slot Entry)) → after ≡ marked entry_number entry.number true slots → seen_of after ≡ returned_book entry (seen_of slots)

pub puts-back :
    (slots : List (Slot Entry)) (entry : Entry) (chains : Shown Link) (allocs : Shown Instruction) → HoldsLive slots chains allocs → CanReturn entry (seen_of slots) → PutsBack slots entry chains allocs
puts-back slots entry chains allocs holds can =
    let it = put slots entry holds.numbered can.kept can.untaken holds.holds.book can.book holds.newest in
    let chains_are = chains-held slots chains allocs holds in
    let allocs_are = allocs-held slots chains allocs holds in
    record {
      can = subst (λ c. CanUnLift entry c allocs) (sym chains_are) (subst (CanUnLift entry (chains_of slots)) (sym allocs_are) it.can);
      holds = λ after chains' allocs' is one two.
          held-by after chains' allocs' (subst AreNumbered (sym is) it.numbered)
          (ap (λ s. is_book (entries_in s)) is ∙ ap is_book (list-put slots entry holds.numbered can.kept) ∙ can.book)
          (one ∙ ap (returned_chains entry) chains_are ∙ it.chains ∙ ap chains_of (sym is))
          (two ∙ ap (returned_allocs entry) allocs_are ∙ it.allocs ∙ ap allocs_of (sym is))
          (subst (λ s. NewestThere (reverse s)) (sym is) it.newest);
      seen = λ after is. ap seen_of is ∙ (λ i. record { list = list-put slots entry holds.numbered can.kept i; kept = kept-put slots entry.number i });
    }
