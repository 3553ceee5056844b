-- What the cells carry with an entry, and without it: a link, and an instruction.
use Rattle.std.proofs.Common.{◌≡◌, ℕ, ◌+◌, ◌≤◌, ◌==◌, ◌+ℤ◌, arith, Bool, true, false, List, [], ◌∷◌, ◌++◌, length, reverse, Option, Some, None, refl, sym, ap, subst, ◌∙◌, inl, inr, ℤ, ◌⊎◌, filter, find, All, Contains, IfSome, option_map, option_and_then, append-nil}
use Rattle.std.specs.List.{cons_option}
use Rattle.std.specs.Option.{option_or}
use Rattle.std.proofs.lemmas.Bool.{cases_Bool}
use Rattle.std.proofs.lemmas.Int.{ints}
use Rattle.std.proofs.lemmas.List.Elements.{All-nil, All-cons, All-head, Contains-push, filter_map-append}
use Rattle.std.proofs.lemmas.List.Folds.{find-append}
use Rattle.blot_types.specs.declared.allocation.AllocRole.TheVariants.{Allocates, Replaces, Cancels}
use Rattle.blot_types.specs.declared.{allocation.Instruction.Instruction, command.Command.Command, command.Entry.Entry, fill.Fill.Fill, keys.AllocKey.AllocKey, keys.ExecKey.ExecKey, part.Part.Part, lines.Version.Version, link.Link.Link, TheConstants.EVENTS_MAX}
use Rattle.blot_types.specs.declared.command.Command.TheVariants.{Trade, Correct, Bust, AllocNew, AllocReplace, AllocCancel, Withdraw}
use Rattle.blot_types.specs.Bounds.{BOOK_PARTS, BOOK_QTY}
use Rattle.blot_types.specs.Allocations.{Allocation, allocation_of, roots_of_terms, instruction_by, instructions_of, live_allocations}
use Rattle.blot_types.specs.Chains.{replaced_by}
use Rattle.blot_types.specs.Instructions.{is_keyed, alloc_taker_in, reference_of}
use Rattle.blot_types.specs.Legal.{is_book}
use Rattle.blot_types.specs.Order.{total}
use Rattle.blot_types.specs.Position.{account_of, is_named, part_of, IsSmall, FillFits}
use Rattle.blot_types.specs.Refusals.{withdrawn_by, alloc_reference}
use Rattle.blot_types.specs.Survivors.{link_by, link_of, links_in, links_of, version_by, version_of, versions_of, stands_in, survivors}
use Rattle.blot_types.proofs.AcceptLemmas.{accepted-instruction, instructions_of-push, enters}
use Rattle.blot_types.proofs.BringLemmas.{BringsIf, named_beside, live_beside, ended-brings, brought-brings}
use Rattle.blot_types.proofs.ChainLemmas.{clash}
use Rattle.blot_types.proofs.ChangeLemmas.{is_named_root, allocations_in, allocations-push, replaced_version, amount, LinkMoves, link-moves, link_alone}
use Rattle.blot_types.proofs.EntryLemmas.{links_of-push}
use Rattle.blot_types.proofs.InstructionLemmas.{follows}
use Rattle.blot_types.proofs.KeyLemmas.{same_alloc-true}
use Rattle.blot_types.proofs.LiveLemmas.{has_alloc_key}
use Rattle.blot_types.proofs.PartLemmas.{parts_under}
use Rattle.blot_types.proofs.SurvivorLemmas.{without}
use Rattle.blot_position.specs.Positions.{Cells, has_cell}
use Rattle.blot_position.proofs.CarryLemmas.{Whole, SameWhole, IsCount, Carries-same, one_at}
use Rattle.blot_command.specs.Booking.{changed_all, rebooked, allocated, released}
use Rattle.blot_command.specs.Carried.{HasFillCells, IsReady}
use Rattle.blot_command.proofs.ApartLemmas.{InstructionApart}
use Rattle.blot_command.proofs.EachLemmas.{all-among, found-among}
use Rattle.blot_command.proofs.HouseLemmas.{beside, count-under}
use Rattle.blot_command.proofs.LiveLemmas.{IsNextEntry}
use Rattle.blot_command.proofs.MoveLemmas.{AreFew, stocked-stays, CarriesBeside, goes, comes}
use Rattle.blot_command.proofs.ReachLemmas.{Reaches, one_low}
use Rattle.blot_command.proofs.ReadyLemmas.{few-survivors, few-live, few-beside, booked-live, booked-beside, ready-less, stocked, whole_of, whole-beside, CarriesList, light-list, CanMove, swaps}
use Rattle.blot_command.proofs.WeightLemmas.{AllBooked, moves_whole, Light-moves}

-- ---- the parts of versions

total-part : (f : Part → ℤ) (list : List Entry) (found : Option Version) → total (amount f list) (cons_option found []) ≡ total f (cons_option (option_map (part_of list) found) [])
total-part f list None = refl
total-part f list (Some version) = refl

own-part : (P : Version → Type 0) (Q : Part → Type 0) (list : List Entry) (found : Option Version) → ((version : Version) → P version → Q (part_of list version)) → All P (cons_option found []) → All Q (cons_option (option_map (part_of list) found) [])
own-part P Q list None each all = All-nil Q
own-part P Q list (Some version) each all = All-cons Q (part_of list version) [] (each version (All-head P version [] all)) (All-nil Q)

small-part : (list : List Entry) (version : Version) → FillFits version.fill → IsSmall (part_of list version)
small-part list version fits = fits (is_named list version.key)

made-at : (named : Bool) (fill : Fill) (cells : Cells) → HasFillCells cells fill → has_cell cells (account_of named fill) fill.symbol ≡ true
made-at true fill cells made = made.housed
made-at false fill cells made = made.own

made-part : (list : List Entry) (version : Version) (cells : Cells) → HasFillCells cells version.fill → has_cell cells (part_of list version).account (part_of list version).symbol ≡ true
made-part list version cells made = made-at (is_named list version.key) version.fill cells made

-- ---- a version goes and another comes

-- lists that have all amounts in common but those of the version that goes and of the one that comes
pub record Exchanges (list rest : List Entry) (gone come : Option Version) : Type 0 where
  pub others : Whole
  pub was : (f : Part → ℤ) → whole_of list f ≡ (total (amount f list) (cons_option gone []) +ℤ others f)
  pub is : (f : Part → ℤ) → whole_of rest f ≡ (total (amount f rest) (cons_option come []) +ℤ others f)
  pub low : IsCount others
  pub gone_among : IfSome gone (Contains (versions_of list))
  pub come_among : IfSome come (Contains (versions_of rest))

exchange-back : (list rest : List Entry) (gone come : Option Version) → Exchanges list rest gone come → Exchanges rest list come gone
exchange-back list rest lost gained it = record { others = it.others; was = it.is; is = it.was; low = it.low; gone_among = it.come_among; come_among = it.gone_among }

-- the cells follow
exchange :
    (list rest : List Entry) (gone come : Option Version) (cells : Cells) → Exchanges list rest gone come → is_book list ≡ true → is_book rest ≡ true → IsReady list cells → IsReady rest cells → CarriesList list cells
    → Reaches (rebooked (option_map (part_of list) gone) (option_map (part_of rest) come)) cells BOOK_PARTS BOOK_QTY (whole_of rest)
exchange list rest gone come cells it book rest_book ready rest_ready carried =
    swaps (option_map (part_of list) gone) (option_map (part_of rest) come) cells it.others (whole_of list) (whole_of rest)
    (λ f. it.was f ∙ ap (λ sum. sum +ℤ it.others f) (total-part f list gone)) (λ f. it.is f ∙ ap (λ sum. sum +ℤ it.others f) (total-part f rest come))
    carried (light-list list cells book ready) (light-list rest cells rest_book rest_ready) it.low
    (own-part (λ version. FillFits version.fill) IsSmall list gone (small-part list) (all-among (λ version. FillFits version.fill) (versions_of list) gone ready.fills_fit it.gone_among))
    (own-part (λ version. FillFits version.fill) IsSmall rest come (small-part rest) (all-among (λ version. FillFits version.fill) (versions_of rest) come rest_ready.fills_fit it.come_among))
    (own-part (λ version. HasFillCells cells version.fill) (λ part. has_cell cells part.account part.symbol ≡ true) rest come (λ version made. made-part rest version cells made)
    (all-among (λ version. HasFillCells cells version.fill) (versions_of rest) come rest_ready.fill_cells it.come_among))

-- ---- a link after the others

-- without the version that goes or comes no count is below zero
pub rest_low : (f : (Part → ℤ) → ℤ) (list : List Entry) (stayed : List Version) → AllBooked (live_allocations list) → ((g : Part → ℤ) → f g ≡ (total (amount g list) stayed +ℤ moves_whole (live_allocations list) g)) → IsCount f
rest_low f list stayed booked is a s =
    let g : Part → ℤ = one_at a s in
    let sum = is g in
    let fills = count-under (amount g list) stayed (λ version. one_low a s (part_of list version)) in
    let lines = (Light-moves (live_allocations list) booked).some a s in
    omega (arith, ints, sum, fills, lines)

numbered-among : (list : List Entry) (number : Option ℕ) → IfSome (option_and_then (λ n. find (λ v. v.number == n) (versions_of list)) number) (Contains (versions_of list))
numbered-among list None = tt
numbered-among list (Some n) = found-among (λ v. v.number == n) (versions_of list)

last-among : (list : List Entry) (entry : Entry) (brought : Option Version) → versions_of (list ++ entry ∷ []) ≡ versions_of list ++ cons_option brought [] → IfSome brought (Contains (versions_of (list ++ entry ∷ [])))
last-among list entry None is = tt
last-among list entry (Some version) is = subst (λ versions. Contains versions version) (sym is) (Contains-push (versions_of list) version)

link-exchanges : (list : List Entry) (entry : Entry) (link : Link) → link_of entry ≡ Some link → IsNextEntry list entry → AllBooked (live_allocations list) → Exchanges (list ++ entry ∷ []) list (version_of entry) (replaced_version list entry)
link-exchanges list entry link is next booked =
    let moves : (f : Part → ℤ) → LinkMoves f list entry = λ f. link-moves f list entry link is next.legal next.rise next.above next.accepted in
    record {
      others = λ f. (moves f).rest;
      was = λ f. (moves f).is;
      is = λ f. (moves f).was;
      low = rest_low (λ f. (moves f).rest) list (without (replaced_by (links_of list) (link_of entry)) (survivors list)) booked (λ f. (moves f).rest_is);
      gone_among = last-among list entry (version_of entry) (filter_map-append version_of list (entry ∷ []));
      come_among = numbered-among list (replaced_by (links_of list) (link_of entry));
    }

-- ---- an entry that is an instruction

-- what an entry is that is no link
record IsInstruction (links : List Link) (number : ℕ) (command : Command) : Type 0 where
  instruction : Instruction
  is : instruction_by links number command ≡ Some instruction
  refers : reference_of instruction.role ≡ alloc_reference command
  unversioned : version_by number command ≡ None

is_instruction : (links : List Link) (number : ℕ) (command : Command) → withdrawn_by command ≡ None → link_by number command ≡ None → IsInstruction links number command
is_instruction links number (Trade trade) stays none = cc
is_instruction links number (Correct correct) stays none = cc
is_instruction links number (Bust bust) stays none = cc
is_instruction links number (AllocNew new) stays none = record {
  instruction = record { number = number; key = new.key; role = Allocates; roots = roots_of_terms links new.terms };
  is = refl;
  refers = refl;
  unversioned = refl;
}
is_instruction links number (AllocReplace replace) stays none = record {
  instruction = record { number = number; key = replace.key; role = Replaces replace.reference; roots = roots_of_terms links replace.terms };
  is = refl;
  refers = refl;
  unversioned = refl;
}
is_instruction links number (AllocCancel cancel) stays none = record {
  instruction = record { number = number; key = cancel.key; role = Cancels cancel.reference; roots = [] };
  is = refl;
  refers = refl;
  unversioned = refl;
}
is_instruction links number (Withdraw withdrawn) stays none = cc

listed-behind : (list : List Entry) (i : Instruction) (key : AllocKey) (t : Instruction) → alloc_taker_in (instructions_of list) i.key ≡ None → find (is_keyed key) (instructions_of list) ≡ Some t → find (is_keyed key) (i ∷ instructions_of list) ≡ Some t
listed-behind list i key t fresh listed =
    elim (cases_Bool (is_keyed key i)) [
      | inl here ↦
          let none : option_map (λ (j : Instruction). j.number) (find (is_keyed key) (instructions_of list)) ≡ None = ap (alloc_taker_in (instructions_of list)) (sym (same_alloc-true i.key key here)) ∙ fresh in
          absurd (clash (rw listed at none))
      | inr other ↦ rw other listed
    ]

-- the allocation of an older key is there after a newer instruction
brings-behind :
    (list after : List Entry) (i : Instruction) (last : List Allocation) (reference : Option AllocKey) (fewer more : ExecKey → Bool) (few many : List Allocation)
    → instructions_of after ≡ i ∷ instructions_of list → allocations_in after ≡ allocations_in list ++ last → alloc_taker_in (instructions_of list) i.key ≡ None
    → BringsIf list reference fewer more few many → BringsIf after reference fewer more few many
brings-behind list after i last None fewer more few many instructions allocations fresh brings = brings
brings-behind list after i last (Some key) fewer more few many instructions allocations fresh brings =
    let p = has_alloc_key key in
    record {
      allocation = brings.allocation;
      instruction = brings.instruction;
      found = ap (find p) allocations ∙ find-append p (allocations_in list) last ∙ ap (λ found. option_or found (find p last)) brings.found;
      listed = ap (find (is_keyed key)) instructions ∙ listed-behind list i key brings.instruction fresh brings.listed;
      free = brings.free;
      apart = brings.apart;
      named = brings.named;
      lines = brings.lines;
    }

between : (list : List Entry) (entry : Entry) → link_of entry ≡ None → IsInstruction (links_in (reverse list)) entry.number entry.command → IsNextEntry list entry → InstructionApart (list ++ entry ∷ []) list entry
between list entry unlinks instruction next =
    let after = list ++ entry ∷ [] in
    let i = instruction.instruction in
    let it = follows (instructions_of list) i.key i.role i.roots (accepted-instruction (reverse list) entry i next.accepted instruction.is) in
    let refers = instruction.refers in
    let links = links_of-push list entry ∙ ap (λ found. cons_option found (links_of list)) unlinks in
    let versions = filter_map-append version_of list (entry ∷ []) ∙ ap (λ found. versions_of list ++ cons_option found []) instruction.unversioned ∙ append-nil (versions_of list) in
    record {
      ended =
          subst (λ reference. BringsIf after reference (named_beside list reference) (is_named_root list) (live_beside list reference) (live_allocations list)) refers
          (brings-behind list after i (cons_option (allocation_of entry.command) []) (reference_of i.role) (named_beside list (reference_of i.role)) (is_named_root list) (live_beside list (reference_of i.role)) (live_allocations list)
          (instructions_of-push list entry ∙ ap (λ found. cons_option found (instructions_of list)) instruction.is) (allocations-push list entry) it.fresh
          (ended-brings list (reference_of i.role) next.legal it.refers));
      brought =
          subst (λ reference. BringsIf after (option_map (λ allocation. allocation.key) (allocation_of entry.command)) (named_beside list reference) (is_named_root after) (live_beside list reference) (live_allocations after)) refers
          (brought-brings list entry i next.legal next.accepted instruction.is);
      links = links;
      survivors_are = λ k. filter (stands_in (links k)) (versions k);
    }

-- ---- an instruction that goes, and one that comes

-- the key of the allocation that an entry brings
abbrev pub own_key : Entry → Option AllocKey
own_key entry = option_map (λ allocation. allocation.key) (allocation_of entry.command)

beside-same : (list rest : List Entry) (entry : Entry) (named : ExecKey → Bool) (others : Whole) → InstructionApart list rest entry → SameWhole (beside list named others) (beside rest named others)
beside-same list rest entry named others it f k = total f (parts_under named (it.links k) (it.survivors_are k)) +ℤ others f

-- the lists of allocations are few: with the entry, without it, and without what it ends
few-of : (list : List Entry) (allocations : List Allocation) → is_book list ≡ true → length allocations ≤ EVENTS_MAX + 1 → AllBooked allocations → AreFew list allocations
few-of list allocations book short booked = record { fills = few-survivors list book; blocks = short; booked = booked }

record AreFewApart (list rest : List Entry) (entry : Entry) : Type 0 where
  with_it : AreFew list (live_allocations list)
  without_it : AreFew list (live_allocations rest)
  without_both : AreFew list (live_beside rest (alloc_reference entry.command))

few-apart : (list rest : List Entry) (entry : Entry) → is_book list ≡ true → is_book rest ≡ true → AllBooked (allocations_in list) → AllBooked (allocations_in rest) → AreFewApart list rest entry
few-apart list rest entry book rest_book lines rest_lines =
    let reference = alloc_reference entry.command in
    record {
      with_it = few-of list (live_allocations list) book (few-live list book) (booked-live list lines);
      without_it = few-of list (live_allocations rest) book (few-live rest rest_book) (booked-live rest rest_lines);
      without_both = few-of list (live_beside rest reference) book (few-beside rest reference rest_book) (booked-beside rest reference rest_lines);
    }

instruction-comes :
    (list rest : List Entry) (entry : Entry) (cells : Cells) → InstructionApart list rest entry → is_book list ≡ true → is_book rest ≡ true → IsReady list cells → IsReady rest cells → CarriesList rest cells
    → CanMove [] (released list (alloc_reference entry.command)) (allocated list (own_key entry)) cells list
instruction-comes list rest entry cells it book rest_book ready rest_ready carried =
    let reference = alloc_reference entry.command in
    let key = own_key entry in
    let stock = stocked list cells book ready in
    let few = few-apart list rest entry book rest_book stock.lines (stocked rest cells rest_book rest_ready).lines in
    let begun : CarriesBeside list cells (is_named_root rest) (live_allocations rest) =
    Carries-same (whole_of rest) (beside list (is_named_root rest) (moves_whole (live_allocations rest))) cells
    (λ f. whole-beside rest f ∙ sym (beside-same list rest entry (is_named_root rest) (moves_whole (live_allocations rest)) it f)) carried in
    let first = goes list cells reference (named_beside rest reference) (is_named_root rest) (live_beside rest reference) (live_allocations rest) stock it.ended few.without_both few.without_it begun in
    let out = released list reference in
    let second =
    comes list (changed_all out cells) key (named_beside rest reference) (is_named_root list) (live_beside rest reference) (live_allocations list) (stocked-stays list out cells stock) it.brought few.without_both few.with_it first.carried in
    record {
      first = tt;
      second = first.can;
      third = second.can;
      carried = Carries-same (beside list (is_named_root list) (moves_whole (live_allocations list))) (whole_of list) (changed_all (allocated list key) (changed_all out cells)) (λ f. sym (whole-beside list f)) second.carried;
    }

instruction-goes :
    (list rest : List Entry) (entry : Entry) (cells : Cells) → InstructionApart list rest entry → is_book list ≡ true → is_book rest ≡ true → IsReady list cells → IsReady rest cells → CarriesList list cells
    → CanMove (released list (own_key entry)) (allocated list (alloc_reference entry.command)) [] cells rest
instruction-goes list rest entry cells it book rest_book ready rest_ready carried =
    let reference = alloc_reference entry.command in
    let key = own_key entry in
    let stock = stocked list cells book ready in
    let few = few-apart list rest entry book rest_book stock.lines (stocked rest cells rest_book rest_ready).lines in
    let begun : CarriesBeside list cells (is_named_root list) (live_allocations list) =
    Carries-same (whole_of list) (beside list (is_named_root list) (moves_whole (live_allocations list))) cells (whole-beside list) carried in
    let out = released list key in
    let first = goes list cells key (named_beside rest reference) (is_named_root list) (live_beside rest reference) (live_allocations list) stock it.brought few.without_both few.with_it begun in
    let second =
    comes list (changed_all out cells) reference (named_beside rest reference) (is_named_root rest) (live_beside rest reference) (live_allocations rest) (stocked-stays list out cells stock) it.ended few.without_both few.without_it first.carried in
    record {
      first = first.can;
      second = second.can;
      third = tt;
      carried = Carries-same (beside list (is_named_root rest) (moves_whole (live_allocations rest))) (whole_of rest) (changed_all (allocated list reference) (changed_all out cells))
          (λ f. beside-same list rest entry (is_named_root rest) (moves_whole (live_allocations rest)) it f ∙ sym (whole-beside rest f)) second.carried;
    }

-- ---- a book with an entry, and without it

-- a link ends no allocation and brings none; its version, or the one that it busted, goes, and another comes
pub record LinkChanges (list rest : List Entry) (entry : Entry) (gone come : Option Version) : Type 0 where
  pub unreferring : alloc_reference entry.command ≡ None
  pub unkeyed : own_key entry ≡ None
  pub exchanges : Exchanges list rest gone come

-- an instruction leaves the versions as they are
pub record InstructionChanges (list rest : List Entry) (entry : Entry) (gone come : Option Version) : Type 0 where
  pub gone_none : gone ≡ None
  pub come_none : come ≡ None
  pub apart : InstructionApart list rest entry

-- both are books, and the cells are ready for both
pub record AreApart (list rest : List Entry) (entry : Entry) (gone come : Option Version) (cells : Cells) : Type 0 where
  pub book : is_book list ≡ true
  pub rest_book : is_book rest ≡ true
  pub ready : IsReady list cells
  pub rest_ready : IsReady rest cells
  pub changes : LinkChanges list rest entry gone come ⊎ InstructionChanges list rest entry gone come

pub goes-apart :
    (list rest : List Entry) (entry : Entry) (gone come : Option Version) (cells : Cells) → AreApart list rest entry gone come cells → CarriesList list cells
    → CanMove (released list (own_key entry)) (allocated list (alloc_reference entry.command)) (rebooked (option_map (part_of list) gone) (option_map (part_of rest) come)) cells rest
goes-apart list rest entry gone come cells it carried =
    let reference = alloc_reference entry.command in
    let swapped = rebooked (option_map (part_of list) gone) (option_map (part_of rest) come) in
    elim it.changes [
      | inl link ↦
          let reached = exchange list rest gone come cells link.exchanges it.book it.rest_book it.ready it.rest_ready carried in
          subst (λ key. CanMove (released list key) (allocated list reference) swapped cells rest) (sym link.unkeyed)
          (subst (λ key. CanMove [] (allocated list key) swapped cells rest) (sym link.unreferring) (record { first = tt; second = tt; third = reached.can; carried = reached.carried }))
      | inr instruction ↦
          subst (λ version. CanMove (released list (own_key entry)) (allocated list reference) (rebooked (option_map (part_of list) version) (option_map (part_of rest) come)) cells rest) (sym instruction.gone_none)
          (subst (λ version. CanMove (released list (own_key entry)) (allocated list reference) (rebooked None (option_map (part_of rest) version)) cells rest) (sym instruction.come_none)
          (instruction-goes list rest entry cells instruction.apart it.book it.rest_book it.ready it.rest_ready carried))
    ]

pub comes-apart :
    (list rest : List Entry) (entry : Entry) (gone come : Option Version) (cells : Cells) → AreApart list rest entry gone come cells → CarriesList rest cells
    → CanMove (rebooked (option_map (part_of rest) come) (option_map (part_of list) gone)) (released list (alloc_reference entry.command)) (allocated list (own_key entry)) cells list
comes-apart list rest entry gone come cells it carried =
    let reference = alloc_reference entry.command in
    let swapped = rebooked (option_map (part_of rest) come) (option_map (part_of list) gone) in
    elim it.changes [
      | inl link ↦
          let reached = exchange rest list come gone cells (exchange-back list rest gone come link.exchanges) it.rest_book it.book it.rest_ready it.ready carried in
          subst (λ key. CanMove swapped (released list reference) (allocated list key) cells list) (sym link.unkeyed)
          (subst (λ key. CanMove swapped (released list key) [] cells list) (sym link.unreferring) (record { first = reached.can; second = tt; third = tt; carried = reached.carried }))
      | inr instruction ↦
          subst (λ version. CanMove (rebooked (option_map (part_of rest) come) (option_map (part_of list) version)) (released list reference) (allocated list (own_key entry)) cells list) (sym instruction.gone_none)
          (subst (λ version. CanMove (rebooked (option_map (part_of rest) version) None) (released list reference) (allocated list (own_key entry)) cells list) (sym instruction.come_none)
          (instruction-comes list rest entry cells instruction.apart it.book it.rest_book it.ready it.rest_ready carried))
    ]

-- a link refers to no allocation, and brings none
abbrev IsReferenceless : Option Link → Option AllocKey → Type 0
IsReferenceless None reference = Unit {0}
IsReferenceless (Some link) reference = reference ≡ None

referenceless : (number : ℕ) (command : Command) → IsReferenceless (link_by number command) (alloc_reference command)
referenceless number (Trade trade) = refl
referenceless number (Correct correct) = refl
referenceless number (Bust bust) = refl
referenceless number (AllocNew new) = tt
referenceless number (AllocReplace replace) = tt
referenceless number (AllocCancel cancel) = tt
referenceless number (Withdraw withdrawn) = tt

pub link-changes : (list rest : List Entry) (entry : Entry) (link : Link) (gone come : Option Version) → link_of entry ≡ Some link → Exchanges list rest gone come → LinkChanges list rest entry gone come
link-changes list rest entry link lost gained is exchanges = record {
  unreferring = subst (λ found. IsReferenceless found (alloc_reference entry.command)) is (referenceless entry.number entry.command);
  unkeyed = ap (option_map (λ allocation. allocation.key)) (link_alone [] entry link is).1;
  exchanges = exchanges;
}

-- ---- an entry after the others

next-changes :
    (found : Option Link) (list : List Entry) (entry : Entry) → link_of entry ≡ found → IsNextEntry list entry → AllBooked (live_allocations list)
    → LinkChanges (list ++ entry ∷ []) list entry (version_of entry) (replaced_version list entry) ⊎ InstructionChanges (list ++ entry ∷ []) list entry (version_of entry) (replaced_version list entry)
next-changes (Some link) list entry is next booked = inl (link-changes (list ++ entry ∷ []) list entry link (version_of entry) (replaced_version list entry) is (link-exchanges list entry link is next booked))
next-changes None list entry is next booked =
    let instruction = is_instruction (links_in (reverse list)) entry.number entry.command (enters list entry.command next.accepted).stays is in
    inr (record {
      gone_none = instruction.unversioned;
      come_none = ap (λ found. option_and_then (λ n. find (λ v. v.number == n) (versions_of list)) (replaced_by (links_of list) found)) is;
      apart = between list entry is instruction next;
    })

pub next-apart : (list : List Entry) (entry : Entry) (cells : Cells) → IsNextEntry list entry → IsReady (list ++ entry ∷ []) cells → AreApart (list ++ entry ∷ []) list entry (version_of entry) (replaced_version list entry) cells
next-apart list entry cells next ready =
    let rest_ready = ready-less list entry cells ready in
    record {
      book = next.whole;
      rest_book = next.book;
      ready = ready;
      rest_ready = rest_ready;
      changes = next-changes (link_of entry) list entry refl next (booked-live list (stocked list cells next.book rest_ready).lines);
    }
