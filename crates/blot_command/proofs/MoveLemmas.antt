-- An allocation's changes to what the cells carry, as it comes and as it goes.
use Rattle.std.proofs.Common.{◌≡◌, ℕ, ◌+◌, ◌*◌, ◌^◌, ◌≤◌, ◌+ℤ◌, arith, Bool, true, false, List, [], ◌∷◌, ◌++◌, length, Option, Some, None, refl, sym, ap, subst, ◌∙◌, ℤ, ◌||◌, All, if◌then◌else◌, flat_map, option_map}
use Rattle.std.proofs.lemmas.Int.{ints}
use Rattle.std.proofs.lemmas.List.Elements.{All-nil, All-cons, All-head, All-tail, All-weaker}
use Rattle.std.proofs.lemmas.Bool.{or_left}
use Rattle.blot_types.specs.declared.{allocation.Line.Line, allocation.Terms.Terms, command.Entry.Entry, keys.AllocKey.AllocKey, keys.ExecKey.ExecKey, part.Part.Part, TheConstants.EVENTS_MAX}
use Rattle.blot_types.specs.Allocations.{Allocation}
use Rattle.blot_types.specs.Bounds.{BOOK_PARTS, BOOK_QTY}
use Rattle.blot_types.specs.Keys.{is_among}
use Rattle.blot_types.specs.Order.{total}
use Rattle.blot_types.specs.Position.{house, moves_of, moves_of_line, part_of_line, from_house, FillFits, IsSmall}
use Rattle.blot_types.specs.Survivors.{links_of, survivors}
use Rattle.blot_types.proofs.BringLemmas.{lines_of, BringsIf, among-root}
use Rattle.blot_types.proofs.ChangeLemmas.{allocations_in}
use Rattle.blot_types.proofs.LiveLemmas.{has_alloc_key}
use Rattle.blot_types.proofs.PartLemmas.{parts_under}
use Rattle.blot_types.proofs.SumLemmas.{total-cons}
use Rattle.blot_types.proofs.GeneralLemmas.{found-All}
use Rattle.blot_position.specs.Positions.{Cells, has_cell}
use Rattle.blot_position.specs.Carried.{Carries}
use Rattle.blot_position.proofs.CarryLemmas.{SameWhole, IsCount, Carries-same, Light-same, IsLightEnough}
use Rattle.blot_command.specs.Booking.{Change, changed_all, moved_in, lines_put, lines_taken, chains_moved, allocated, allocated_by, released, released_by}
use Rattle.blot_command.specs.Carried.{HasTermsCells}
use Rattle.blot_command.proofs.HouseLemmas.{beside, IsBooked, booked-stays, AlwaysLight, Light-weaker, relight, same-beside, reach-moved}
use Rattle.blot_command.proofs.ReachLemmas.{Reaches, reach-append, reach-same, reach-nothing, reach-put, reach-take, sizes, stays, AreMade}
use Rattle.blot_command.proofs.WeightLemmas.{AllBooked, AreBooked, moves_whole, Light-both, Light-moves, Light-under}

-- ---- how much the cells carry, whatever chains are named

-- what the book carries, with room for one more change
pub light_enough : (count qty : ℕ) → count ≤ 10 ^ 6 → qty ≤ 10 ^ 20 → IsLightEnough (BOOK_PARTS + count) (BOOK_QTY + qty)
light_enough count qty fewer smaller = record { count_fits = omega (arith, fewer); qty_fits = omega (arith, smaller) }

-- a list's survivors, and allocations of it, are few
pub record AreFew (list : List Entry) (allocations : List Allocation) : Type 0 where
  pub fills : length (survivors list) ≤ EVENTS_MAX + 1
  pub blocks : length allocations ≤ EVENTS_MAX + 1
  pub booked : AllBooked allocations

pub always-light : (list : List Entry) (allocations : List Allocation) → All (λ version. FillFits version.fill) (survivors list) → AreFew list allocations → AlwaysLight list (moves_whole allocations) BOOK_PARTS BOOK_QTY
always-light list allocations fits few named =
    let fills = length (survivors list) in
    let blocks = length allocations in
    let one = few.fills in
    let two = few.blocks in
    Light-weaker (beside list named (moves_whole allocations)) (fills + blocks * 400) BOOK_PARTS (fills * 10 ^ 16 + blocks * (2 * 10 ^ 16)) BOOK_QTY (omega (arith, one, two)) (omega (arith, one, two))
    (Light-both (λ f. total f (parts_under named (links_of list) (survivors list))) (moves_whole allocations) fills (fills * 10 ^ 16) (blocks * 400) (blocks * (2 * 10 ^ 16))
    (Light-under named (links_of list) (survivors list) fits) (Light-moves allocations few.booked))

lines_low : (allocations : List Allocation) → AllBooked allocations → IsCount (moves_whole allocations)
lines_low allocations booked = (Light-moves allocations booked).some

-- ---- the cells of lines

made-moves : (terms : Terms) (lines : List Line) (cells : Cells) → All (λ line. has_cell cells line.account terms.symbol ≡ true) lines → has_cell cells house terms.symbol ≡ true → AreMade (flat_map (moves_of_line terms) lines) cells
made-moves terms [] cells made housed = All-nil (λ (part : Part). has_cell cells part.account part.symbol ≡ true)
made-moves terms (line ∷ lines) cells made housed =
    let P : Part → Type 0 = λ part. has_cell cells part.account part.symbol ≡ true in
    let part = part_of_line terms line in
    let rest = flat_map (moves_of_line terms) lines in
    let one : P part = All-head (λ (l : Line). has_cell cells l.account terms.symbol ≡ true) line lines made in
    let later : All P rest = made-moves terms lines cells (All-tail (λ (l : Line). has_cell cells l.account terms.symbol ≡ true) line lines made) housed in
    All-cons P part (from_house part ∷ rest) one (All-cons P (from_house part) rest housed later)

-- ---- the moves of lines, as they are put

abbrev moved : Terms → List Line → List Part
moved terms lines = flat_map (moved_in terms) lines

moved-All : (P : Part → Type 0) (terms : Terms) (lines : List Line) → All P (flat_map (moves_of_line terms) lines) → All P (moved terms lines)
moved-All P terms [] all = All-nil P
moved-All P terms (line ∷ lines) all =
    let part = part_of_line terms line in
    let rest = flat_map (moves_of_line terms) lines in
    let behind : All P (from_house part ∷ rest) = All-tail P part (from_house part ∷ rest) all in
    All-cons P (from_house part) (part ∷ moved terms lines) (All-head P (from_house part) rest behind)
    (All-cons P part (moved terms lines) (All-head P part (from_house part ∷ rest) all) (moved-All P terms lines (All-tail P (from_house part) rest behind)))

moved-total : (f : Part → ℤ) (terms : Terms) (lines : List Line) → total f (moved terms lines) ≡ total f (flat_map (moves_of_line terms) lines)
moved-total f terms [] = refl
moved-total f terms (line ∷ lines) =
    let part = part_of_line terms line in
    let rest = flat_map (moves_of_line terms) lines in
    let put = total-cons f (from_house part) (part ∷ moved terms lines) in
    let put_rest = total-cons f part (moved terms lines) in
    let told = total-cons f part (from_house part ∷ rest) in
    let told_rest = total-cons f (from_house part) rest in
    let same = moved-total f terms lines in
    omega (arith, ints, put, put_rest, told, told_rest, same)

moved-length : (terms : Terms) (lines : List Line) → length (moved terms lines) ≡ length (flat_map (moves_of_line terms) lines)
moved-length terms [] = refl
moved-length terms (line ∷ lines) = let same = moved-length terms lines in omega (arith, same)

moved-sizes : (terms : Terms) (lines : List Line) → sizes (moved terms lines) ≡ sizes (flat_map (moves_of_line terms) lines)
moved-sizes terms [] = refl
moved-sizes terms (line ∷ lines) = let same = moved-sizes terms lines in omega (arith, same)

-- ---- what a book's entries have made and are known by

pub record IsStocked (list : List Entry) (cells : Cells) : Type 0 where
  pub booked : IsBooked list cells
  pub made : All (λ allocation. HasTermsCells cells allocation.terms) (allocations_in list)
  pub lines : AllBooked (allocations_in list)
  pub fits : All (λ version. FillFits version.fill) (survivors list)

-- no cell is lost
abbrev pub IsNoneLost : Cells → Cells → Type 0
IsNoneLost old new = (account symbol : List ℕ) → has_cell old account symbol ≡ true → has_cell new account symbol ≡ true

pub terms-kept : (old new : Cells) (terms : Terms) → IsNoneLost old new → HasTermsCells old terms → HasTermsCells new terms
terms-kept old new terms kept made = record {
  lines = All-weaker (λ (line : Line). has_cell old line.account terms.symbol ≡ true) (λ (line : Line). has_cell new line.account terms.symbol ≡ true)
      (λ line here. kept line.account terms.symbol here) terms.lines made.lines;
  housed = kept house terms.symbol made.housed;
}

terms-stay : (changes : List Change) (cells : Cells) (terms : Terms) → HasTermsCells cells terms → HasTermsCells (changed_all changes cells) terms
terms-stay changes cells terms made = terms-kept cells (changed_all changes cells) terms (stays changes cells) made

pub stocked-stays : (list : List Entry) (changes : List Change) (cells : Cells) → IsStocked list cells → IsStocked list (changed_all changes cells)
stocked-stays list changes cells stocked = record {
  booked = booked-stays list changes cells stocked.booked;
  made = All-weaker (λ a. HasTermsCells cells a.terms) (λ a. HasTermsCells (changed_all changes cells) a.terms) (λ a made. terms-stay changes cells a.terms made) (allocations_in list) stocked.made;
  lines = stocked.lines;
  fits = stocked.fits;
}

-- ---- an allocation goes

-- what is named with some roots, and what without them
with-roots : (among named : Bool) → (among || named) ≡ (if among then true else named)
with-roots true named = refl
with-roots false named = refl

without-roots : (among named : Bool) → (among ≡ true → named ≡ false) → named ≡ (if among then false else (among || named))
without-roots true named free = free refl
without-roots false named free = refl

lines-same : (list : List Entry) (named : ExecKey → Bool) (few many : List Allocation) (terms : Terms) → ((f : Part → ℤ) → lines_of f many ≡ (total f (moves_of terms) +ℤ lines_of f few))
    → SameWhole (beside list named (moves_whole many)) (λ f. total f (moves_of terms) +ℤ beside list named (moves_whole few) f)
lines-same list named few many terms lines f = let is = lines f in omega (arith, ints, is)

others-same : (list : List Entry) (named : ExecKey → Bool) (few many : List Allocation) → ((f : Part → ℤ) → lines_of f many ≡ lines_of f few) → SameWhole (beside list named (moves_whole many)) (beside list named (moves_whole few))
others-same list named few many lines f = let is = lines f in omega (arith, ints, is)

-- the cells carry the chains that are named, or not, and the lines of allocations
abbrev pub CarriesBeside : List Entry → Cells → (ExecKey → Bool) → List Allocation → Type 0
CarriesBeside list cells named allocations = Carries (beside list named (moves_whole allocations)) cells

abbrev pub ReachesBeside : List Change → List Entry → Cells → (ExecKey → Bool) → List Allocation → Type 0
ReachesBeside changes list cells named allocations = Reaches changes cells BOOK_PARTS BOOK_QTY (beside list named (moves_whole allocations))

pub goes :
    (list : List Entry) (cells : Cells) (key : Option AllocKey) (fewer more : ExecKey → Bool) (few many : List Allocation) → IsStocked list cells → BringsIf list key fewer more few many
    → AreFew list few → AreFew list many → CarriesBeside list cells more many → ReachesBeside (released list key) list cells fewer few
goes list cells None fewer more few many stocked brings little large carried =
    let same : SameWhole (beside list more (moves_whole many)) (beside list fewer (moves_whole few)) =
    λ f. same-beside list more fewer (moves_whole many) brings.named f ∙ others-same list fewer few many brings.lines f in
    reach-same [] cells BOOK_PARTS BOOK_QTY (beside list more (moves_whole many)) (beside list fewer (moves_whole few)) same
    (reach-nothing cells BOOK_PARTS BOOK_QTY (beside list more (moves_whole many)) carried (always-light list many stocked.fits large more))
goes list cells (Some key) fewer more few many stocked brings little large carried =
    let terms = brings.allocation.terms in
    let roots = brings.instruction.roots in
    let changes : released list (Some key) ≡ lines_taken terms terms.lines ++ chains_moved false list roots =
    λ k. released_by list (option_map (λ (a : Allocation). a.terms) (brings.found k)) (option_map (λ i. i.roots) (brings.listed k)) in
    let own : AreBooked terms = found-All (λ a. AreBooked a.terms) (has_alloc_key key) (allocations_in list) brings.allocation stocked.lines brings.found in
    let same = lines-same list more few many terms brings.lines in
    let light_few = always-light list few stocked.fits little in
    let enough : IsLightEnough (BOOK_PARTS + length (moves_of terms)) (BOOK_QTY + sizes (moves_of terms)) = light_enough (length (moves_of terms)) (sizes (moves_of terms)) (omega (arith, own.few)) (omega (arith, own.qty)) in
    let first =
    reach-take (moves_of terms) cells BOOK_PARTS BOOK_QTY (beside list more (moves_whole few))
    (Carries-same (beside list more (moves_whole many)) (λ f. total f (moves_of terms) +ℤ beside list more (moves_whole few) f) cells same carried)
    (Light-same (beside list more (moves_whole many)) (λ f. total f (moves_of terms) +ℤ beside list more (moves_whole few) f) BOOK_PARTS BOOK_QTY same (always-light list many stocked.fits large more))
    (light_few more).some own.small enough in
    let between = changed_all (lines_taken terms terms.lines) cells in
    let free : (root : ExecKey) → is_among roots root ≡ true → fewer root ≡ false = λ root among. among-root fewer false roots root brings.free among in
    let second =
    reach-moved false list roots between BOOK_PARTS BOOK_QTY more fewer (moves_whole few) (booked-stays list (lines_taken terms terms.lines) cells stocked.booked)
    (λ root among. brings.named root ∙ or_left (is_among roots root) (fewer root) among)
    (λ root. without-roots (is_among roots root) (fewer root) (free root) ∙ ap (λ b. if is_among roots root then false else b) (sym (brings.named root)))
    brings.apart first.carried light_few (lines_low few little.booked) (light_enough 2 (2 * 10 ^ 16) (omega arith) (omega arith)) in
    let whole =
    reach-append (lines_taken terms terms.lines) (chains_moved false list roots) cells (BOOK_PARTS + length (moves_of terms)) (BOOK_QTY + sizes (moves_of terms))
    BOOK_PARTS BOOK_QTY (beside list more (moves_whole few)) (beside list fewer (moves_whole few)) first second in
    subst (λ all. ReachesBeside all list cells fewer few) (sym changes) whole

-- ---- an allocation comes

pub comes :
    (list : List Entry) (cells : Cells) (key : Option AllocKey) (fewer more : ExecKey → Bool) (few many : List Allocation) → IsStocked list cells → BringsIf list key fewer more few many
    → AreFew list few → AreFew list many → CarriesBeside list cells fewer few → ReachesBeside (allocated list key) list cells more many
comes list cells None fewer more few many stocked brings little large carried =
    let same : SameWhole (beside list fewer (moves_whole few)) (beside list more (moves_whole many)) =
    λ f. sym (same-beside list more fewer (moves_whole many) brings.named f ∙ others-same list fewer few many brings.lines f) in
    reach-same [] cells BOOK_PARTS BOOK_QTY (beside list fewer (moves_whole few)) (beside list more (moves_whole many)) same
    (reach-nothing cells BOOK_PARTS BOOK_QTY (beside list fewer (moves_whole few)) carried (always-light list few stocked.fits little fewer))
comes list cells (Some key) fewer more few many stocked brings little large carried =
    let terms = brings.allocation.terms in
    let roots = brings.instruction.roots in
    let changes : allocated list (Some key) ≡ chains_moved true list roots ++ lines_put terms terms.lines =
    λ k. allocated_by list (option_map (λ (a : Allocation). a.terms) (brings.found k)) (option_map (λ i. i.roots) (brings.listed k)) in
    let own : AreBooked terms = found-All (λ a. AreBooked a.terms) (has_alloc_key key) (allocations_in list) brings.allocation stocked.lines brings.found in
    let cells_own : HasTermsCells cells terms = found-All (λ a. HasTermsCells cells a.terms) (has_alloc_key key) (allocations_in list) brings.allocation stocked.made brings.found in
    let light_few = always-light list few stocked.fits little in
    let first =
    reach-moved true list roots cells BOOK_PARTS BOOK_QTY fewer more (moves_whole few) stocked.booked
    (λ root among. among-root fewer false roots root brings.free among) (λ root. brings.named root ∙ with-roots (is_among roots root) (fewer root))
    brings.apart carried light_few (lines_low few little.booked) (light_enough 2 (2 * 10 ^ 16) (omega arith) (omega arith)) in
    let between = changed_all (chains_moved true list roots) cells in
    let there = terms-stay (chains_moved true list roots) cells terms cells_own in
    let put = moved terms terms.lines in
    let small = moved-All IsSmall terms terms.lines own.small in
    let made : AreMade put between = moved-All (λ part. has_cell between part.account part.symbol ≡ true) terms terms.lines (made-moves terms terms.lines between there.lines there.housed) in
    let enough : IsLightEnough (BOOK_PARTS + length put) (BOOK_QTY + sizes put) =
    light_enough (length put) (sizes put) (omega (arith, own.few, moved-length terms terms.lines)) (omega (arith, own.qty, moved-sizes terms terms.lines)) in
    let second = reach-put put between BOOK_PARTS BOOK_QTY (beside list more (moves_whole few)) first.carried (light_few more) small made enough in
    let same : SameWhole (λ f. total f put +ℤ beside list more (moves_whole few) f) (beside list more (moves_whole many)) =
    λ f. ap (λ sum. sum +ℤ beside list more (moves_whole few) f) (moved-total f terms terms.lines) ∙ sym (lines-same list more few many terms brings.lines f) in
    let whole =
    reach-append (chains_moved true list roots) (lines_put terms terms.lines) cells BOOK_PARTS BOOK_QTY (BOOK_PARTS + length put) (BOOK_QTY + sizes put) (beside list more (moves_whole few))
    (λ f. total f put +ℤ beside list more (moves_whole few) f) first second in
    subst (λ all. ReachesBeside all list cells more many) (sym changes)
    (relight (chains_moved true list roots ++ lines_put terms terms.lines) cells (BOOK_PARTS + length put) (BOOK_QTY + sizes put) BOOK_PARTS BOOK_QTY (beside list more (moves_whole many))
    (reach-same (chains_moved true list roots ++ lines_put terms terms.lines) cells (BOOK_PARTS + length put) (BOOK_QTY + sizes put)
    (λ f. total f put +ℤ beside list more (moves_whole few) f) (beside list more (moves_whole many)) same whole)
    (always-light list many stocked.fits large more))
