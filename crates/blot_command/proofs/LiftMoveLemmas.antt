-- What the cells carry once an entry is taken out of the middle of the book, and once it is put back.
use Rattle.std.proofs.Common.{◌≡◌, ℕ, ◌+◌, ◌≤◌, ◌==◌, ◌+ℤ◌, arith, true, List, [], ◌∷◌, Option, Some, None, refl, sym, ap, subst, ◌∙◌, inl, inr, ℤ, ◌⊎◌, nat_le, find, IfSome, Contains, option_map, option_and_then, leb-true, ne_eqb, eq-eqb, eqb-true}
use Rattle.std.specs.List.{cons_option}
use Rattle.std.proofs.lemmas.Bool.{cases_Bool, and_parts, eqb-false}
use Rattle.std.proofs.lemmas.Int.{ints}
use Rattle.std.proofs.lemmas.List.Elements.{All-weaker, All-filter, All-contains_itself}
use Rattle.blot_types.specs.declared.{command.Entry.Entry, keys.AllocKey.AllocKey, keys.ExecKey.ExecKey, lines.Version.Version, link.Link.Link, part.Part.Part}
use Rattle.blot_types.specs.Allocations.{live_allocations}
use Rattle.blot_types.specs.Legal.{is_book, without as without_number}
use Rattle.blot_types.specs.Order.{total}
use Rattle.blot_types.specs.Position.{part_of_fill, part_of, is_named}
use Rattle.blot_types.specs.Refusals.{alloc_reference}
use Rattle.blot_types.specs.StandingVersion.{standing, chain_of, stood}
use Rattle.blot_types.specs.Survivors.{link_of, links_of, versions_of, stands_in, survivors}
use Rattle.blot_types.proofs.BringLemmas.{lines_of}
use Rattle.blot_types.proofs.ChangeLemmas.{amount, total-parts}
use Rattle.blot_types.proofs.SumLemmas.{total-cons, total-map, total-agree}
use Rattle.blot_types.proofs.SurvivorLemmas.{without, without-none}
use Rattle.blot_types.proofs.ApartLemmas.{number_of}
use Rattle.blot_types.proofs.GeneralLemmas.{found-All}
use Rattle.blot_order.proofs.FillLemmas.{rise_from}
use Rattle.blot_position.specs.Positions.{Cells}
use Rattle.blot_command.specs.Book.{Shown, has_number}
use Rattle.blot_command.specs.Booking.{rebooked, allocated, released}
use Rattle.blot_command.specs.Carried.{IsReady, ShowsPositions}
use Rattle.blot_command.specs.Withdrawing.{lifted, returned, CanReturn}
use Rattle.blot_command.proofs.AccountLemmas.{Reads, goes-as, comes-as, LeadsTo}
use Rattle.blot_command.proofs.ApartLemmas.{LinkApart}
use Rattle.blot_command.proofs.EntryMoveLemmas.{own_key, Exchanges, rest_low, LinkChanges, InstructionChanges, AreApart, link-changes}
use Rattle.blot_command.proofs.LiftLemmas.{IsWithout, taken-out, put-in, link-without, instruction-without, chainless, same-chain, EachShown, each-lifted, each-returned}
use Rattle.blot_command.proofs.LiveLemmas.{rise-of_book}
use Rattle.blot_command.proofs.ReadyLemmas.{IsEntryReady, ready-each, each-ready, booked-live, stocked, whole_of}
use Rattle.blot_command.proofs.RecordLemmas.{without-unused, survivors-rise}
use Rattle.blot_command.proofs.ShowLemmas.{IsUnused, IsAmong}
use Rattle.blot_command.proofs.WeightLemmas.{AllBooked}

-- ---- a sum over versions, with one told apart

rise-unused : (n from : ℕ) (versions : List Version) → rise_from from versions ≡ true → n + 1 ≤ from → IsUnused n versions
rise-unused n from [] rise below = refl
rise-unused n from (version ∷ later) rise below =
    let parts : (nat_le from version.number ≡ true) × (rise_from (version.number + 1) later ≡ true) = and_parts _ _ rise in
    let least : from ≤ version.number = leb-true from version.number parts.0 in
    rw (ne_eqb version.number n (λ same. absurd (omega (arith, same, least, below)))) (rise-unused n (version.number + 1) later parts.1 (omega (arith, least, below)))

total-found :
    (g : Version → ℤ) (from : ℕ) (versions : List Version) (version : Version) → rise_from from versions ≡ true → IsAmong versions version
    → total g versions ≡ (g version +ℤ total g (without (Some version.number) versions))
total-found g from [] version rise found = cc
total-found g from (first ∷ later) version rise found =
    let parts : (nat_le from first.number ≡ true) × (rise_from (first.number + 1) later ≡ true) = and_parts _ _ rise in
    let whole = total-cons g first later in
    elim (cases_Bool (first.number == version.number)) [
      | inl here ↦
          let is : Some first ≡ Some version = rw here at found in
          let one : first ≡ version = cc in
          let same : first.number ≡ version.number = eqb-true first.number version.number here in
          let rest : without (Some version.number) later ≡ later = without-unused version.number later (rise-unused version.number (first.number + 1) later parts.1 (omega (arith, same))) in
          rw (eq-eqb version.number first.number (sym same)) (whole ∙ ap (λ v. g v +ℤ total g later) one ∙ ap (λ vs. g version +ℤ total g vs) (sym rest))
      | inr other ↦
          let rest = total-found g (first.number + 1) later version parts.1 (rw other at found) in
          let left = total-cons g first (without (Some version.number) later) in
          rw (ne_eqb version.number first.number (λ e. eqb-false first.number version.number other (sym e))) (omega (arith, ints, whole, rest, left))
    ]

total-apart :
    (g : Version → ℤ) (versions : List Version) (found : Option Version) → rise_from 0 versions ≡ true → IfSome found (IsAmong versions)
    → total g versions ≡ (total g (cons_option found []) +ℤ total g (without (number_of found) versions))
total-apart g versions None rise found = let is = ap (total g) (without-none versions) in omega (arith, ints, is)
total-apart g versions (Some version) rise found =
    let is = total-found g 0 versions version rise found in
    let one = total-cons g version [] in
    omega (arith, ints, is, one)

-- ---- a link in the middle

sums : (f : Part → ℤ) (list : List Entry) → whole_of list f ≡ (total (amount f list) (survivors list) +ℤ lines_of f (live_allocations list))
sums f list = total-parts f list ∙ ap (λ sum. sum +ℤ lines_of f (live_allocations list)) (total-map f (part_of list) (survivors list))

-- the parts of a list: that of one that stands, and the others
parts-apart :
    (f : Part → ℤ) (list : List Entry) (found : Option Version) → is_book list ≡ true → IfSome found (IsAmong (survivors list))
    → whole_of list f ≡ (total (amount f list) (cons_option found []) +ℤ (total (amount f list) (without (number_of found) (survivors list)) +ℤ lines_of f (live_allocations list)))
parts-apart f list found book among =
    let whole = sums f list in
    let apart = total-apart (amount f list) (survivors list) found (survivors-rise list (rise-of_book list book)) among in
    omega (arith, ints, whole, apart)

-- a version that stands is one of the list's
stands-among : (list : List Entry) (found : Option Version) → IfSome found (IsAmong (survivors list)) → IfSome found (Contains (versions_of list))
stands-among list None among = tt
stands-among list (Some version) among =
    found-All (Contains (versions_of list)) (λ v. v.number == version.number) (survivors list) version
    (All-filter (stands_in (links_of list)) (Contains (versions_of list)) (versions_of list) (All-contains_itself (versions_of list))) among

middle-exchanges :
    (list rest : List Entry) (entry : Entry) → IsWithout list rest entry → LinkApart list rest entry → AllBooked (live_allocations rest) → Exchanges list rest (stood list entry) (stood rest entry)
middle-exchanges list rest entry it apart booked =
    let others = without (number_of (stood rest entry)) (survivors rest) in
    let left = without (number_of (stood list entry)) (survivors list) in
    let stayed : (f : Part → ℤ) → total (amount f list) left ≡ total (amount f rest) others =
    λ f.
    total-agree (amount f list) (amount f rest) left
    (All-weaker (λ (v : Version). is_named list v.key ≡ is_named rest v.key) (λ v. amount f list v ≡ amount f rest v) (λ v same. ap (λ named. f (part_of_fill named v.fill)) same) left apart.named)
    ∙ ap (total (amount f rest)) apart.survivors_are in
    record {
      others = λ f. total (amount f rest) others +ℤ lines_of f (live_allocations rest);
      was = λ f.
          parts-apart f list (stood list entry) it.book apart.gone
          ∙ (λ k. total (amount f list) (cons_option (stood list entry) []) +ℤ (stayed f k +ℤ lines_of f (apart.live k)));
      is = λ f. parts-apart f rest (stood rest entry) it.rest_book apart.come;
      low = rest_low (λ f. total (amount f rest) others +ℤ lines_of f (live_allocations rest)) rest others booked (λ f. refl);
      gone_among = stands-among list (stood list entry) apart.gone;
      come_among = stands-among rest (stood rest entry) apart.come;
    }

-- ---- an entry of any kind in the middle

middle-changes :
    (found : Option Link) (list rest : List Entry) (entry : Entry) → link_of entry ≡ found → IsWithout list rest entry → AllBooked (live_allocations rest)
    → LinkChanges list rest entry (stood list entry) (stood rest entry) ⊎ InstructionChanges list rest entry (stood list entry) (stood rest entry)
middle-changes (Some link) list rest entry is it booked =
    inl (link-changes list rest entry link (stood list entry) (stood rest entry) is (middle-exchanges list rest entry it (link-without list rest entry link is it) booked))
middle-changes None list rest entry is it booked =
    inr (record { gone_none = chainless list entry is; come_none = chainless rest entry is; apart = instruction-without list rest entry is it })

middle-apart : (list rest : List Entry) (entry : Entry) (cells : Cells) → IsWithout list rest entry → IsReady list cells → IsReady rest cells → AreApart list rest entry (stood list entry) (stood rest entry) cells
middle-apart list rest entry cells it ready rest_ready = record {
  book = it.book;
  rest_book = it.rest_book;
  ready = ready;
  rest_ready = rest_ready;
  changes = middle-changes (link_of entry) list rest entry refl it (booked-live rest (stocked rest cells it.rest_book rest_ready).lines);
}

each-shown-ready : (shown : Shown) (cells : Cells) → ShowsPositions shown cells → EachShown (IsEntryReady cells) shown
each-shown-ready shown cells shows = record { listed = ready-each shown.list cells shows.ready; kept = ready-each shown.kept cells shows.ready_kept }

-- as the code reads it: the chain by the list before, and the parts of the versions that stand of it before and then
pub record ReadsChain (was now : List Entry) (entry : Entry) (chain : Option ExecKey) (gone come : Option Part) (ended brought : Option AllocKey) : Type 0 where
  pub chain_is : chain ≡ chain_of was entry
  pub gone_is : gone ≡ option_map (part_of was) (option_and_then (standing was) chain)
  pub come_is : come ≡ option_map (part_of now) (option_and_then (standing now) chain)
  pub ended_is : ended ≡ alloc_reference entry.command
  pub brought_is : brought ≡ own_key entry

-- the part of the version that stands of a chain
abbrev standing_part : List Entry → Option ExecKey → Option Part
standing_part list chain = option_map (part_of list) (option_and_then (standing list) chain)

-- the entry of a number is taken out
pub lift-leads :
    (old new : Shown) (number : ℕ) (entry : Entry) (chain : Option ExecKey) (lost gained : Option Part) (ended brought : Option AllocKey) (cells : Cells) → is_book old.list ≡ true → find (has_number number) old.list ≡ Some entry
    → is_book (without_number number old.list) ≡ true → new ≡ lifted entry old → ReadsChain old.list new.list entry chain lost gained ended brought → ShowsPositions old cells
    → LeadsTo (released old.list brought) (allocated old.list ended) (rebooked lost gained) cells new
lift-leads old new number entry chain lost gained ended brought cells book found rest_book is read shows =
    let it : IsWithout old.list new.list entry = subst (λ (shown : Shown). IsWithout old.list shown.list entry) (sym is) (taken-out old.list number entry book found rest_book) in
    let each : EachShown (IsEntryReady cells) new =
    subst (EachShown (IsEntryReady cells)) (sym is) (each-lifted (IsEntryReady cells) old entry (taken-out old.list number entry book found rest_book) (each-shown-ready old cells shows)) in
    let ready = each-ready new.list cells each.listed in
    let reads : Reads old.list new.list entry (stood old.list entry) (stood new.list entry) lost gained ended brought = record {
      lost_is = read.gone_is ∙ ap (standing_part old.list) read.chain_is;
      gained_is = read.come_is ∙ ap (standing_part new.list) (read.chain_is ∙ same-chain old.list new.list entry it);
      ended_is = read.ended_is;
      brought_is = read.brought_is;
    } in
    record {
      moves = goes-as old.list new.list entry (stood old.list entry) (stood new.list entry) lost gained ended brought cells (middle-apart old.list new.list entry cells it shows.ready ready) reads shows.carried;
      ready = ready;
      ready_kept = each-ready new.kept cells each.kept;
      housed = shows.housed;
    }

-- and an entry that is kept is put back
pub return-leads :
    (old new : Shown) (entry : Entry) (chain : Option ExecKey) (lost gained : Option Part) (ended brought : Option AllocKey) (cells : Cells) → is_book old.list ≡ true → CanReturn entry old → new ≡ returned entry old
    → ReadsChain old.list new.list entry chain lost gained ended brought → ShowsPositions old cells
    → LeadsTo (rebooked lost gained) (released new.list ended) (allocated new.list brought) cells new
return-leads old new entry chain lost gained ended brought cells book can is read shows =
    let back = put-in old.list entry book can.book in
    let it : IsWithout new.list old.list entry = subst (λ (shown : Shown). IsWithout shown.list old.list entry) (sym is) back in
    let each : EachShown (IsEntryReady cells) new =
    subst (EachShown (IsEntryReady cells)) (sym is) (each-returned (IsEntryReady cells) old entry back can.kept (each-shown-ready old cells shows)) in
    let ready = each-ready new.list cells each.listed in
    let reads : Reads new.list old.list entry (stood new.list entry) (stood old.list entry) gained lost ended brought = record {
      lost_is = read.come_is ∙ ap (standing_part new.list) (read.chain_is ∙ sym (same-chain new.list old.list entry it));
      gained_is = read.gone_is ∙ ap (standing_part old.list) read.chain_is;
      ended_is = read.ended_is;
      brought_is = read.brought_is;
    } in
    record {
      moves = comes-as new.list old.list entry (stood new.list entry) (stood old.list entry) gained lost ended brought cells (middle-apart new.list old.list entry cells it ready shows.ready) reads shows.carried;
      ready = ready;
      ready_kept = each-ready new.kept cells each.kept;
      housed = shows.housed;
    }
