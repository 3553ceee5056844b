-- A book with an entry in its middle, and without it: what holds of its entries, and the fills that are shown.
use Rattle.std.proofs.Common.{◌≡◌, ℕ, true, List, [], ◌∷◌, ◌++◌, reverse, Option, Some, None, refl, sym, ap, subst, ◌∙◌, append_assoc, inl, inr, find, not, nat_eq, nat_lt, is_none, All, IfSome, option_and_then}
use Rattle.std.proofs.lemmas.Bool.{cases_Bool, and_parts}
use Rattle.std.proofs.lemmas.List.{reverse-reverse, reverse-append}
use Rattle.std.proofs.lemmas.List.Elements.{All-cons, All-head, All-tail, All-append, All-filter}
use Rattle.blot_types.specs.declared.{command.Entry.Entry, keys.ExecKey.ExecKey, lines.Version.Version, link.Link.Link}
use Rattle.blot_types.specs.Legal.{is_legal, entry_refusal, is_book, without}
use Rattle.blot_types.specs.Refusals.{withdrawn_by}
use Rattle.blot_types.specs.StandingVersion.{standing, chain_by, chain_of, stood}
use Rattle.blot_types.specs.Survivors.{link_of, links_of, version_of}
use Rattle.blot_types.specs.Withdrawal.{put_back_in, put_back}
use Rattle.blot_types.proofs.AcceptLemmas.{enters}
use Rattle.blot_types.proofs.BustLemmas.{reverse-middle}
use Rattle.blot_types.proofs.ChainLemmas.{none_is}
use Rattle.blot_types.proofs.LawLemmas.{book_parts}
use Rattle.blot_types.proofs.LegalLemmas.{is_legal-front, is_legal-push}
use Rattle.blot_types.proofs.SurvivorLemmas.{without as without_version}
use Rattle.blot_types.proofs.GeneralLemmas.{all-front, all-back, found-All}
use Rattle.blot_places.specs.Shown.{item_at, with_item}
use Rattle.blot_order.specs.Fills.{Fills}
use Rattle.blot_command.specs.Book.{Shown, entry_number, has_number}
use Rattle.blot_command.specs.Law.{has_entry}
use Rattle.blot_command.specs.Shown.{Shows}
use Rattle.blot_command.specs.Withdrawing.{lifted, returned, CanReturn}
use Rattle.blot_command.proofs.ApartLemmas.{LinkApart, link-apart, InstructionApart, instruction-apart}
use Rattle.blot_command.proofs.EachLemmas.{each-brings, all-brought}
use Rattle.blot_command.proofs.ShowLemmas.{IsHeld, Trades, trades-back, IsTraded, traded}
use Rattle.blot_command.proofs.SplitLemmas.{without-split}

-- ---- around an entry

-- a list with an entry in its middle, and without it
pub record IsAround (list rest : List Entry) (entry : Entry) : Type 0 where
  pub front : List Entry
  pub back : List Entry
  pub list_is : list ≡ front ++ entry ∷ back
  pub rest_is : rest ≡ front ++ back

-- what holds of each entry of the one holds of each of the other
around-own : (P : Entry → Type 0) (list rest : List Entry) (entry : Entry) → IsAround list rest entry → All P list → P entry
around-own P list rest entry it all = All-head P entry it.back (all-back P it.front (entry ∷ it.back) (subst (All P) it.list_is all))

around-rest : (P : Entry → Type 0) (list rest : List Entry) (entry : Entry) → IsAround list rest entry → All P list → All P rest
around-rest P list rest entry it all =
    let whole = subst (All P) it.list_is all in
    subst (All P) (sym it.rest_is) (All-append P it.front it.back (all-front P it.front (entry ∷ it.back) whole) (All-tail P entry it.back (all-back P it.front (entry ∷ it.back) whole)))

around-list : (P : Entry → Type 0) (list rest : List Entry) (entry : Entry) → IsAround list rest entry → P entry → All P rest → All P list
around-list P list rest entry it own all =
    let parts = subst (All P) it.rest_is all in
    subst (All P) (sym it.list_is) (All-append P it.front (entry ∷ it.back) (all-front P it.front it.back parts) (All-cons P entry it.back own (all-back P it.front it.back parts)))

-- ---- an entry that is put back

-- its place, newest first
record HasPlace (entry : Entry) (entries : List Entry) : Type 0 where
  later : List Entry
  front : List Entry
  was : entries ≡ later ++ front
  is : put_back_in entry entries ≡ later ++ entry ∷ front

place_of : (entry : Entry) (entries : List Entry) → HasPlace entry entries
place_of entry [] = record { later = []; front = []; was = refl; is = refl }
place_of entry (other ∷ earlier) =
    elim (cases_Bool (nat_lt other.number entry.number)) [
      | inl below ↦ record { later = []; front = other ∷ earlier; was = refl; is = rw below refl }
      | inr above ↦
          let place = place_of entry earlier in record {
            later = other ∷ place.later;
            front = place.front;
            was = ap (λ l. other ∷ l) place.was;
            is = rw above (ap (λ l. other ∷ l) place.is);
          }
    ]

put-around : (list : List Entry) (entry : Entry) → IsAround (put_back entry list) list entry
put-around list entry =
    let place = place_of entry (reverse list) in record {
      front = reverse place.front;
      back = reverse place.later;
      list_is = ap reverse place.is ∙ reverse-middle place.later place.front entry;
      rest_is = sym (reverse-reverse list) ∙ ap reverse place.was ∙ reverse-append place.later place.front;
    }

-- ---- two books

-- a book with an entry in its middle, and the book without it
pub record IsWithout (list rest : List Entry) (entry : Entry) : Type 0 where
  pub around : IsAround list rest entry
  pub book : is_book list ≡ true
  pub rest_book : is_book rest ≡ true

-- an entry is taken out by its number
pub taken-out :
    (list : List Entry) (number : ℕ) (entry : Entry) → is_book list ≡ true → find (has_number number) list ≡ Some entry → is_book (without number list) ≡ true
    → IsWithout list (without entry.number list) entry
taken-out list number entry book found rest_book =
    let it = has_entry list number entry found in
    record {
      around = record { front = it.front; back = it.back; list_is = it.is; rest_is = without-split list it.front it.back entry it.is (book_parts list book).0 };
      book = book;
      rest_book = ap (λ n. is_book (without n list)) it.own ∙ rest_book;
    }

-- an entry is put back
pub put-in : (rest : List Entry) (entry : Entry) → is_book rest ≡ true → is_book (put_back entry rest) ≡ true → IsWithout (put_back entry rest) rest entry
put-in rest entry rest_book book = record { around = put-around rest entry; book = book; rest_book = rest_book }

-- an entry of a book is no Withdraw
entered : (list rest : List Entry) (entry : Entry) → IsWithout list rest entry → withdrawn_by entry.command ≡ None
entered list rest entry it =
    let front = it.around.front in
    let is : list ≡ (front ++ entry ∷ []) ++ it.around.back = it.around.list_is ∙ sym (append_assoc front (entry ∷ []) it.around.back) in
    let legal : is_legal (front ++ entry ∷ []) ≡ true = is_legal-front (front ++ entry ∷ []) it.around.back (ap is_legal (sym is) ∙ (book_parts list it.book).1) in
    let parts : (is_none (entry_refusal front entry.command) ≡ true) × (is_legal front ≡ true) = and_parts _ _ (sym (is_legal-push front entry) ∙ legal) in
    (enters front entry.command (none_is (entry_refusal front entry.command) parts.0)).stays

pub link-without : (list rest : List Entry) (entry : Entry) (link : Link) → link_of entry ≡ Some link → IsWithout list rest entry → LinkApart list rest entry
link-without list rest entry link is it =
    let front = it.around.front in
    let back = it.around.back in
    subst (λ l. LinkApart l rest entry) (sym it.around.list_is)
    (subst (λ l. LinkApart (front ++ entry ∷ back) l entry) (sym it.around.rest_is)
    (link-apart front back entry link is (ap is_book (sym it.around.list_is) ∙ it.book) (ap is_book (sym it.around.rest_is) ∙ it.rest_book)))

pub instruction-without : (list rest : List Entry) (entry : Entry) → link_of entry ≡ None → IsWithout list rest entry → InstructionApart list rest entry
instruction-without list rest entry unlinked it =
    let front = it.around.front in
    let back = it.around.back in
    subst (λ l. InstructionApart l rest entry) (sym it.around.list_is)
    (subst (λ l. InstructionApart (front ++ entry ∷ back) l entry) (sym it.around.rest_is)
    (instruction-apart front back entry unlinked (entered list rest entry it) (ap is_book (sym it.around.list_is) ∙ it.book) (ap is_book (sym it.around.rest_is) ∙ it.rest_book)))

-- ---- what holds of each entry that is shown

all-with : (P : Entry → Type 0) (entry : Entry) (entries : List Entry) → P entry → All P entries → All P (with_item entry_number entry entries)
all-with P entry [] own all = All-cons P entry [] own all
all-with P entry (other ∷ earlier) own all =
    elim (cases_Bool (nat_lt entry.number other.number)) [
      | inl less ↦ rw less (All-cons P other (with_item entry_number entry earlier) (All-head P other earlier all) (all-with P entry earlier own (All-tail P other earlier all)))
      | inr more ↦ rw more (All-cons P entry (other ∷ earlier) own all)
    ]

-- a fact of each entry in the list and of each that is kept
pub record EachShown (P : Entry → Type 0) (shown : Shown) : Type 0 where
  pub listed : All P shown.list
  pub kept : All P shown.kept

-- it holds once an entry is taken out of the list and kept
pub each-lifted : (P : Entry → Type 0) (shown : Shown) (entry : Entry) → IsWithout shown.list (without entry.number shown.list) entry → EachShown P shown → EachShown P (lifted entry shown)
each-lifted P shown entry it each = record {
  listed = around-rest P shown.list (without entry.number shown.list) entry it.around each.listed;
  kept = all-with P entry shown.kept (around-own P shown.list (without entry.number shown.list) entry it.around each.listed) each.kept;
}

-- and once it is put back
pub each-returned :
    (P : Entry → Type 0) (shown : Shown) (entry : Entry) → IsWithout (put_back entry shown.list) shown.list entry → item_at entry_number entry.number shown.kept ≡ Some entry → EachShown P shown
    → EachShown P (returned entry shown)
each-returned P shown entry it kept each = record {
  listed = around-list P (put_back entry shown.list) shown.list entry it.around (found-All P (λ (item : Entry). nat_eq item.number entry.number) shown.kept entry each.kept kept) each.listed;
  kept = All-filter (λ (item : Entry). not (nat_eq item.number entry.number)) P shown.kept each.kept;
}

-- ---- the version that stands

-- an instruction is of no chain
pub chainless : (list : List Entry) (entry : Entry) → link_of entry ≡ None → stood list entry ≡ None
chainless list entry unlinked = ap (λ link. option_and_then (standing list) (chain_by (links_of list) link)) unlinked

same-chain-by : (found : Option Link) (list rest : List Entry) (entry : Entry) → link_of entry ≡ found → IsWithout list rest entry → chain_of list entry ≡ chain_of rest entry
same-chain-by (Some link) list rest entry is it = (link-without list rest entry link is it).chain
same-chain-by None list rest entry is it = ap (chain_by (links_of list)) is ∙ sym (ap (chain_by (links_of rest)) is)

-- the entry is of the same chain with it and without it
pub same-chain : (list rest : List Entry) (entry : Entry) → IsWithout list rest entry → chain_of list entry ≡ chain_of rest entry
same-chain list rest entry it = same-chain-by (link_of entry) list rest entry refl it

middle-trades-by : (found : Option Link) (list rest : List Entry) (entry : Entry) → link_of entry ≡ found → IsWithout list rest entry → Trades list rest (stood list entry) (stood rest entry)
middle-trades-by (Some link) list rest entry is it =
    let apart = link-without list rest entry link is it in
    record { same = apart.survivors_are; stood = apart.gone; stands = apart.come }
middle-trades-by None list rest entry is it =
    subst (λ version. Trades list rest version (stood rest entry)) (sym (chainless list entry is))
    (subst (λ version. Trades list rest None version) (sym (chainless rest entry is))
    (record { same = ap (without_version None) (instruction-without list rest entry is it).survivors_are; stood = tt; stands = tt }))

middle-trades : (list rest : List Entry) (entry : Entry) → IsWithout list rest entry → Trades list rest (stood list entry) (stood rest entry)
middle-trades list rest entry it = middle-trades-by (link_of entry) list rest entry refl it

-- ---- the fills that are shown

-- the fill of what an entry brings is held
abbrev IsEntryHeld : Fills → Entry → Type 0
IsEntryHeld fills entry = IfSome (version_of entry) (IsHeld fills)

each-held : (shown : Shown) (fills : Fills) → Shows shown fills → EachShown (IsEntryHeld fills) shown
each-held shown fills shows = record { listed = each-brings version_of (IsHeld fills) shown.list shows.held; kept = each-brings version_of (IsHeld fills) shown.kept shows.held_kept }

trades-each :
    (old shown : Shown) (gone come : Option Version) (fills : Fills) → Trades old.list shown.list gone come → is_book shown.list ≡ true → Shows old fills → EachShown (IsEntryHeld fills) shown
    → IsTraded shown gone come fills
trades-each old shown lost gained fills trades book shows each =
    traded old.list shown lost gained fills trades book shows.put (all-brought version_of (IsHeld fills) shown.list each.listed) (all-brought version_of (IsHeld fills) shown.kept each.kept)

-- the entry of a number is taken out of the list: the version of its chain that stood goes, and the one that stands then comes
pub lifts :
    (old new : Shown) (number : ℕ) (entry : Entry) (chain : Option ExecKey) (gone come : Option Version) (fills : Fills) → find (has_number number) old.list ≡ Some entry → is_book (without number old.list) ≡ true
    → new ≡ lifted entry old → chain ≡ chain_of old.list entry → gone ≡ option_and_then (standing old.list) chain → come ≡ option_and_then (standing new.list) chain → Shows old fills
    → IsTraded new gone come fills
lifts old new number entry chain lost gained fills found rest_book is chain_is lost_is gained_is shows =
    let it = taken-out old.list number entry shows.book found rest_book in
    let rest = without entry.number old.list in
    let was : lost ≡ stood old.list entry = lost_is ∙ ap (option_and_then (standing old.list)) chain_is in
    let now : gained ≡ stood rest entry =
    gained_is ∙ (λ k. option_and_then (standing (is k).list) (chain_is k)) ∙ ap (option_and_then (standing rest)) (same-chain old.list rest entry it) in
    subst (λ shown. IsTraded shown lost gained fills) (sym is)
    (subst (λ version. IsTraded (lifted entry old) version gained fills) (sym was)
    (subst (λ version. IsTraded (lifted entry old) (stood old.list entry) version fills) (sym now)
    (trades-each old (lifted entry old) (stood old.list entry) (stood rest entry) fills (middle-trades old.list rest entry it) it.rest_book shows
    (each-lifted (IsEntryHeld fills) old entry it (each-held old fills shows)))))

-- and an entry that is kept is put back
pub returns :
    (old new : Shown) (entry : Entry) (chain : Option ExecKey) (gone come : Option Version) (fills : Fills) → CanReturn entry old → new ≡ returned entry old → chain ≡ chain_of old.list entry
    → gone ≡ option_and_then (standing old.list) chain → come ≡ option_and_then (standing new.list) chain → Shows old fills → IsTraded new gone come fills
returns old new entry chain lost gained fills can is chain_is lost_is gained_is shows =
    let list = put_back entry old.list in
    let it = put-in old.list entry shows.book can.book in
    let was : lost ≡ stood old.list entry = lost_is ∙ ap (option_and_then (standing old.list)) chain_is in
    let now : gained ≡ stood list entry =
    gained_is ∙ (λ k. option_and_then (standing (is k).list) (chain_is k)) ∙ ap (option_and_then (standing list)) (sym (same-chain list old.list entry it)) in
    subst (λ shown. IsTraded shown lost gained fills) (sym is)
    (subst (λ version. IsTraded (returned entry old) version gained fills) (sym was)
    (subst (λ version. IsTraded (returned entry old) (stood old.list entry) version fills) (sym now)
    (trades-each old (returned entry old) (stood old.list entry) (stood list entry) fills (trades-back list old.list (stood list entry) (stood old.list entry) (middle-trades list old.list entry it)) can.book shows
    (each-returned (IsEntryHeld fills) old entry it can.kept (each-held old fills shows)))))
