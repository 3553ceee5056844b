-- What a list keeps of the cells: how few its entries are, the cells that they need, and what these carry for all of them.
use Rattle.std.proofs.Common.{◌≡◌, ℕ, ◌+◌, ◌^◌, ◌≤◌, ◌+ℤ◌, arith, true, false, List, [], ◌∷◌, ◌++◌, length, map, Option, Some, None, sym, is_none, not, All, IfSome}
use Rattle.std.specs.List.{cons_option}
use Rattle.std.proofs.lemmas.Bool.{and_parts}
use Rattle.std.proofs.lemmas.List.Elements.{All-head, All-push, All-weaker, All-filter}
use Rattle.blot_types.specs.declared.{command.Command.Command, command.Entry.Entry, fill.Fill.Fill, keys.AllocKey.AllocKey, part.Part.Part, TheConstants.EVENTS_MAX}
use Rattle.blot_types.specs.declared.command.Command.TheVariants.{Trade, Correct, Bust, AllocNew, AllocReplace, AllocCancel, Withdraw}
use Rattle.blot_types.specs.Bounds.{BOOK_PARTS, BOOK_QTY}
use Rattle.blot_types.specs.Allocations.{Allocation, allocation_of, instructions_of, live_allocations}
use Rattle.blot_types.specs.Instructions.{ended_in, is_reference}
use Rattle.blot_types.specs.Legal.{is_book}
use Rattle.blot_types.specs.Order.{total}
use Rattle.blot_types.specs.Position.{house, account_of, parts_of, IsSmall, FillFits, TermsFit}
use Rattle.blot_types.specs.Survivors.{links_of, version_by, version_of, versions_of, stands_in, survivors}
use Rattle.blot_types.proofs.BookedLemmas.{books_blocks}
use Rattle.blot_types.proofs.BringLemmas.{live_beside}
use Rattle.blot_types.proofs.ChangeLemmas.{is_named_root, allocations_in, total-parts}
use Rattle.blot_types.proofs.LegalLemmas.{length_numbered}
use Rattle.blot_types.proofs.GeneralLemmas.{all-front, length-filtered, length-found}
use Rattle.blot_position.specs.Positions.{Cells, has_cell}
use Rattle.blot_position.specs.Carried.{Carries}
use Rattle.blot_position.proofs.CarryLemmas.{Whole, SameWhole, IsCount, Carries-same, Carries-cells, Light, Light-same, IsLightEnough}
use Rattle.blot_command.specs.Booking.{Change, put_in, taken_out, changed_all, CanChangeAll, rebooked}
use Rattle.blot_command.specs.Carried.{Opens, HasFillCells, HasTermsCells, HasEntryCells, EntryFits, IsReady, ShowsPositions}
use Rattle.blot_command.specs.Book.{Shown}
use Rattle.blot_command.proofs.EachLemmas.{each-brings, all-brought}
use Rattle.blot_command.proofs.HouseLemmas.{beside, relight}
use Rattle.blot_command.proofs.MoveLemmas.{light_enough, always-light, IsStocked, IsNoneLost, terms-kept}
use Rattle.blot_command.proofs.ReachLemmas.{Reaches, reach-append, reach-same, reach-put, reach-take, sizes, stays, AreMade}
use Rattle.blot_command.proofs.WeightLemmas.{AllBooked, AreBooked, all_booked, moves_whole}

-- ---- lists

-- ---- how few entries, fills and allocations a book has

pub length-book : (list : List Entry) → is_book list ≡ true → length list ≤ EVENTS_MAX + 1
length-book list book = length_numbered list (and_parts _ _ book).0

pub few-survivors : (list : List Entry) → is_book list ≡ true → length (survivors list) ≤ EVENTS_MAX + 1
few-survivors list book =
    let one = length-filtered (stands_in (links_of list)) (versions_of list) in
    let two = length-found version_of list in
    let three = length-book list book in
    omega (arith, one, two, three)

few-allocations : (list : List Entry) → is_book list ≡ true → length (allocations_in list) ≤ EVENTS_MAX + 1
few-allocations list book = (let one = length-found (λ (e : Entry). allocation_of e.command) list in let two = length-book list book in omega (arith, one, two))

pub few-live : (list : List Entry) → is_book list ≡ true → length (live_allocations list) ≤ EVENTS_MAX + 1
few-live list book = (let one = length-filtered (λ a. is_none (ended_in (instructions_of list) a.key)) (allocations_in list) in let two = few-allocations list book in omega (arith, one, two))

pub few-beside : (list : List Entry) (reference : Option AllocKey) → is_book list ≡ true → length (live_beside list reference) ≤ EVENTS_MAX + 1
few-beside list reference book = (let one = length-filtered (λ (a : Allocation). not (is_reference reference a.key)) (live_allocations list) in let two = few-live list book in omega (arith, one, two))

pub booked-live : (list : List Entry) → AllBooked (allocations_in list) → AllBooked (live_allocations list)
booked-live list booked = All-filter (λ a. is_none (ended_in (instructions_of list) a.key)) (λ a. AreBooked a.terms) (allocations_in list) booked

pub booked-beside : (list : List Entry) (reference : Option AllocKey) → AllBooked (allocations_in list) → AllBooked (live_beside list reference)
booked-beside list reference booked = All-filter (λ (a : Allocation). not (is_reference reference a.key)) (λ a. AreBooked a.terms) (live_allocations list) (booked-live list booked)

-- ---- the cells of a list's entries

-- what cells have that lose none of them
ready-kept : (list : List Entry) (old new : Cells) → IsNoneLost old new → IsReady list old → IsReady list new
ready-kept list old new kept ready = record {
  fill_cells = All-weaker (λ version. HasFillCells old version.fill) (λ version. HasFillCells new version.fill)
      (λ version made. record {
        own = kept (account_of false version.fill) version.fill.symbol made.own;
        housed = kept house version.fill.symbol made.housed;
      }) (versions_of list) ready.fill_cells;
  terms_cells = All-weaker (λ a. HasTermsCells old a.terms) (λ a. HasTermsCells new a.terms) (λ a made. terms-kept old new a.terms kept made) (allocations_in list) ready.terms_cells;
  fills_fit = ready.fills_fit;
  terms_fit = ready.terms_fit;
}

pub ready-stays : (list : List Entry) (changes : List Change) (cells : Cells) → IsReady list cells → IsReady list (changed_all changes cells)
ready-stays list changes cells ready = ready-kept list cells (changed_all changes cells) (stays changes cells) ready

-- after more cells were made the positions are shown as before
pub shows-opened : (shown : Shown) (old new : Cells) → Opens old new → ShowsPositions shown old → ShowsPositions shown new
shows-opened shown old new opens shows = record {
  carried = Carries-cells (λ f. total f (parts_of shown.list)) old new opens.sums shows.carried;
  ready = ready-kept shown.list old new opens.made shows.ready;
  ready_kept = ready-kept shown.kept old new opens.made shows.ready_kept;
  housed = opens.housed shows.housed;
}

-- the cells of an entry's version and of its allocation are made, and their amounts are in range
pub record IsEntryReady (cells : Cells) (entry : Entry) : Type 0 where
  pub fill_cells : IfSome (version_of entry) (λ version. HasFillCells cells version.fill)
  pub terms_cells : IfSome (allocation_of entry.command) (λ allocation. HasTermsCells cells allocation.terms)
  pub fills_fit : IfSome (version_of entry) (λ version. FillFits version.fill)
  pub terms_fit : IfSome (allocation_of entry.command) (λ allocation. TermsFit allocation.terms)

-- the cells are ready for a list where they are for each of its entries
pub ready-each : (list : List Entry) (cells : Cells) → IsReady list cells → All (IsEntryReady cells) list
ready-each list cells ready =
    let brings = λ (entry : Entry). allocation_of entry.command in
    let fill_cells = each-brings version_of (λ version. HasFillCells cells version.fill) list ready.fill_cells in
    let terms_cells = each-brings brings (λ allocation. HasTermsCells cells allocation.terms) list ready.terms_cells in
    let fills_fit = each-brings version_of (λ version. FillFits version.fill) list ready.fills_fit in
    let terms_fit = each-brings brings (λ allocation. TermsFit allocation.terms) list ready.terms_fit in
    λ k d less. record { fill_cells = fill_cells k d less; terms_cells = terms_cells k d less; fills_fit = fills_fit k d less; terms_fit = terms_fit k d less }

pub each-ready : (list : List Entry) (cells : Cells) → All (IsEntryReady cells) list → IsReady list cells
each-ready list cells all = record {
  fill_cells = all-brought version_of (λ version. HasFillCells cells version.fill) list (λ k d less. (all k d less).fill_cells);
  terms_cells = all-brought (λ (entry : Entry). allocation_of entry.command) (λ allocation. HasTermsCells cells allocation.terms) list (λ k d less. (all k d less).terms_cells);
  fills_fit = all-brought version_of (λ version. FillFits version.fill) list (λ k d less. (all k d less).fills_fit);
  terms_fit = all-brought (λ (entry : Entry). allocation_of entry.command) (λ allocation. TermsFit allocation.terms) list (λ k d less. (all k d less).terms_fit);
}

-- a version has the same fill under any number
numbered-fill : (P : Fill → Type 0) (number : ℕ) (command : Command) → IfSome (version_by 0 command) (λ version. P version.fill) → IfSome (version_by number command) (λ version. P version.fill)
numbered-fill P number (Trade trade) is = is
numbered-fill P number (Correct correct) is = is
numbered-fill P number (Bust bust) is = is
numbered-fill P number (AllocNew new) is = is
numbered-fill P number (AllocReplace replace) is = is
numbered-fill P number (AllocCancel cancel) is = is
numbered-fill P number (Withdraw withdrawn) is = is

pub ready-more : (list : List Entry) (entry : Entry) (cells : Cells) → IsReady list cells → HasEntryCells cells entry.command → EntryFits entry.command → IsReady (list ++ entry ∷ []) cells
ready-more list entry cells ready made fits =
    each-ready (list ++ entry ∷ []) cells (All-push (IsEntryReady cells) list entry (ready-each list cells ready) (record {
      fill_cells = numbered-fill (HasFillCells cells) entry.number entry.command made.0;
      terms_cells = made.1;
      fills_fit = numbered-fill FillFits entry.number entry.command fits.0;
      terms_fit = fits.1;
    }))

pub ready-less : (list : List Entry) (entry : Entry) (cells : Cells) → IsReady (list ++ entry ∷ []) cells → IsReady list cells
ready-less list entry cells ready = each-ready list cells (all-front (IsEntryReady cells) list (entry ∷ []) (ready-each (list ++ entry ∷ []) cells ready))

pub stocked : (list : List Entry) (cells : Cells) → is_book list ≡ true → IsReady list cells → IsStocked list cells
stocked list cells book ready = record {
  booked = record { book = book; made = ready.fill_cells; fits = ready.fills_fit };
  made = ready.terms_cells;
  lines = all_booked (allocations_in list) ready.terms_fit (books_blocks list (and_parts _ _ book).1);
  fits = All-filter (stands_in (links_of list)) (λ version. FillFits version.fill) (versions_of list) ready.fills_fit;
}

-- ---- what the cells carry for a whole list

abbrev pub whole_of : List Entry → Whole
whole_of list f = total f (parts_of list)

pub whole-beside : (list : List Entry) → SameWhole (whole_of list) (beside list (is_named_root list) (moves_whole (live_allocations list)))
whole-beside list f = total-parts f list

abbrev pub CarriesList : List Entry → Cells → Type 0
CarriesList list cells = Carries (whole_of list) cells

pub light-list : (list : List Entry) (cells : Cells) → is_book list ≡ true → IsReady list cells → Light BOOK_PARTS BOOK_QTY (whole_of list)
light-list list cells book ready =
    let stock = stocked list cells book ready in
    Light-same (beside list (is_named_root list) (moves_whole (live_allocations list))) (whole_of list) BOOK_PARTS BOOK_QTY (λ f. sym (whole-beside list f))
    (always-light list (live_allocations list) stock.fits
    (record { fills = few-survivors list book; blocks = few-live list book; booked = booked-live list stock.lines }) (is_named_root list))

-- ---- three lists of changes, one after the other

-- they can be made, and lead to what the cells carry for a list
pub record CanMove (one two three : List Change) (cells : Cells) (list : List Entry) : Type 0 where
  pub first : CanChangeAll one cells
  pub second : CanChangeAll two (changed_all one cells)
  pub third : CanChangeAll three (changed_all two (changed_all one cells))
  pub carried : CarriesList list (changed_all three (changed_all two (changed_all one cells)))

-- ---- a part goes and another comes

few-sizes : (found : Option Part) → All IsSmall (cons_option found []) → (length (cons_option found []) ≤ 1) × (sizes (cons_option found []) ≤ 10 ^ 16)
few-sizes None small = (omega arith, omega arith)
few-sizes (Some part) small = let one : IsSmall part = All-head IsSmall part [] small in (omega arith, omega (arith, one.qty))

made-stays : (parts : List Part) (changes : List Change) (cells : Cells) → AreMade parts cells → AreMade parts (changed_all changes cells)
made-stays parts changes cells made =
    All-weaker (λ (part : Part). has_cell cells part.account part.symbol ≡ true) (λ (part : Part). has_cell (changed_all changes cells) part.account part.symbol ≡ true)
    (λ part here. stays changes cells part.account part.symbol here) parts made

pub swaps :
    (gone come : Option Part) (cells : Cells) (rest before after : Whole) → SameWhole before (λ f. total f (cons_option gone []) +ℤ rest f) → SameWhole after (λ f. total f (cons_option come []) +ℤ rest f)
    → Carries before cells → Light BOOK_PARTS BOOK_QTY before → Light BOOK_PARTS BOOK_QTY after → IsCount rest → All IsSmall (cons_option gone []) → All IsSmall (cons_option come []) → AreMade (cons_option come []) cells
    → Reaches (rebooked gone come) cells BOOK_PARTS BOOK_QTY after
swaps gone come cells rest before after was is carried light light_after some small_gone small_come made =
    let out = cons_option gone [] in
    let into = cons_option come [] in
    let one = few-sizes gone small_gone in
    let two = few-sizes come small_come in
    let first =
    reach-take out cells BOOK_PARTS BOOK_QTY rest (Carries-same before (λ f. total f out +ℤ rest f) cells was carried) (Light-same before (λ f. total f out +ℤ rest f) BOOK_PARTS BOOK_QTY was light) some small_gone
    (light_enough (length out) (sizes out) (omega (arith, one.0)) (omega (arith, one.1))) in
    let between = changed_all (map taken_out out) cells in
    let enough : IsLightEnough ((BOOK_PARTS + length out) + length into) ((BOOK_QTY + sizes out) + sizes into) = record {
      count_fits = omega (arith, one.0, two.0);
      qty_fits = omega (arith, one.1, two.1);
    } in
    let second =
    reach-put into between (BOOK_PARTS + length out) (BOOK_QTY + sizes out) rest first.carried first.light small_come (made-stays into (map taken_out out) cells made) enough in
    relight (rebooked gone come) cells ((BOOK_PARTS + length out) + length into) ((BOOK_QTY + sizes out) + sizes into) BOOK_PARTS BOOK_QTY after
    (reach-same (rebooked gone come) cells ((BOOK_PARTS + length out) + length into) ((BOOK_QTY + sizes out) + sizes into) (λ f. total f into +ℤ rest f) after (λ f. sym (is f))
    (reach-append (map taken_out out) (map put_in into) cells (BOOK_PARTS + length out) (BOOK_QTY + sizes out) ((BOOK_PARTS + length out) + length into) ((BOOK_QTY + sizes out) + sizes into) rest
    (λ f. total f into +ℤ rest f) first second)) light_after
