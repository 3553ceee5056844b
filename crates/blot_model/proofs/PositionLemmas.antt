-- The sums of the parts of a position, joined piece by piece.
use Rattle.std.proofs.Common.{◌≡◌, ℕ, ◌+◌, ◌*◌, ◌^◌, ◌<◌, ◌≤◌, pos, ◌+ℤ◌, arith, List, [], ◌∷◌, ◌++◌, take, get_or, length, Option, Some, None, refl, sym, ap, subst, ◌∙◌, filter, is_none, unsigned_abs, flat_map, filter_map, append-nil}
use Rattle.std.proofs.lemmas.Int.{ints}
use Rattle.std.proofs.lemmas.List.{take_more}
use Rattle.std.proofs.lemmas.List.Elements.{filter-append, filter_map-append}
use Rattle.std.proofs.lemmas.List.Sums.{sum_by-cons, sum_by_more}
use Rattle.std.proofs.lemmas.Grind.{flat_map-append}
use Rattle.blot_types.specs.declared.{allocation.Instruction.Instruction, allocation.Line.Line, allocation.Terms.Terms, command.Entry.Entry, part.Part.Part, lines.PositionLine.PositionLine}
use Rattle.blot_types.specs.Allocations.{Allocation, allocation_of}
use Rattle.blot_types.specs.Instructions.{ended_in}
use Rattle.blot_types.specs.Position.{IsSmall, from_house, part_of_line, moves_of_line, moves_of, is_at, position_by}
use Rattle.blot_types.specs.Refusals.{booked}
use Rattle.blot_types.proofs.PartLemmas.{neg-size, signed-size}
use Rattle.blot_types.proofs.SumLemmas.{total-append, total-cons}
use Rattle.blot_model.specs.Sums.{sums_at, joined, live_moves, moves_by, units_of, IsUpTo, AreUpTo}

-- ---- sums

line-append : (x y : Part) (xs ys : List Part) → position_by ((x ∷ xs) ++ y ∷ ys) ≡ joined (position_by (x ∷ xs)) (position_by (y ∷ ys))
line-append x y xs ys =
    let qty = total-append (λ (p : Part). p.qty) (x ∷ xs) (y ∷ ys) in
    let value = total-append (λ (p : Part). p.value) (x ∷ xs) (y ∷ ys) in
    λ i. Some (record { qty = qty i; value = value i })

position-append : (xs ys : List Part) → position_by (xs ++ ys) ≡ joined (position_by xs) (position_by ys)
position-append [] ys = refl
position-append (x ∷ xs) [] = ap position_by (append-nil (x ∷ xs))
position-append (x ∷ xs) (y ∷ ys) = line-append x y xs ys

-- the parts of two lists, one after the other
pub sums-append : (account symbol : List ℕ) (xs ys : List Part) → sums_at account symbol (xs ++ ys) ≡ joined (sums_at account symbol xs) (sums_at account symbol ys)
sums-append account symbol xs ys =
    ap position_by (filter-append (is_at account symbol) xs ys) ∙ position-append (filter (is_at account symbol) xs) (filter (is_at account symbol) ys)

-- the parts of some items, with those of one item more
pub sums-more :
    {A : Type 0} (parts : List A → List Part) → ((xs ys : List A) → parts (xs ++ ys) ≡ parts xs ++ parts ys)
    → (account symbol : List ℕ) (items : List A) (index : ℕ) (item : A) (before more : Option PositionLine) → index < length items → item ≡ get_or items index item
    → before ≡ sums_at account symbol (parts (take index items)) → more ≡ sums_at account symbol (parts (item ∷ []))
    → joined before more ≡ sums_at account symbol (parts (take (index + 1) items))
sums-more parts split account symbol items index item before more within is so_far one =
    let next : take (index + 1) items ≡ take index items ++ item ∷ [] = rw is (take_more items index item within) in
    ap (λ sums. joined sums more) so_far ∙ ap (joined (sums_at account symbol (parts (take index items)))) one
    ∙ sym (ap (sums_at account symbol) (ap parts next ∙ split (take index items) (item ∷ [])) ∙ sums-append account symbol (parts (take index items)) (parts (item ∷ [])))

-- the part of a line is of the line's quantity, and so is what it takes from the house account
line-size : (terms : Terms) (line : Line) (part : Part) → part ≡ part_of_line terms line → unsigned_abs part.qty ≡ line.qty
line-size terms line part is = ap (λ p. unsigned_abs p.qty) is ∙ signed-size terms.sign (pos line.qty)

pub line-range : (terms : Terms) (line : Line) (part : Part) → part ≡ part_of_line terms line → IsSmall part → line.qty ≤ 10 ^ 16
line-range terms line part is small = (let size = line-size terms line part is in let qty = small.qty in omega (arith, size, qty))

pub line-up_to : (terms : Terms) (line : Line) (part : Part) → part ≡ part_of_line terms line → IsSmall part → IsUpTo line.qty part.qty part.value
line-up_to terms line part is small =
    let size = line-size terms line part is in
    let value = small.value in
    record { qty = omega (arith, size); value = subst (λ units. unsigned_abs part.value ≤ units * 10 ^ 16) size value }

pub house-up_to : (units : ℕ) (part taken : Part) → taken ≡ from_house part → IsUpTo units part.qty part.value → IsUpTo units taken.qty taken.value
house-up_to units part taken is up =
    let qty = ap (λ p. unsigned_abs p.qty) is ∙ neg-size part.qty in
    let value = ap (λ p. unsigned_abs p.value) is ∙ neg-size part.value in
    let first = up.qty in
    let second = up.value in
    record { qty = omega (arith, qty, first); value = omega (arith, value, second) }

-- the amounts of any part are those of at most 10^16 units
pub small-up_to : (part : Part) → IsSmall part → IsUpTo (10 ^ 16) part.qty part.value
small-up_to part small = (let qty = small.qty in let value = small.value in record { qty = qty; value = omega (arith, qty, value) })

-- the moves of a line
pub sums-line :
    (account symbol : List ℕ) (terms : Terms) (line : Line) (part taken : Part) (first second : Option PositionLine) → part ≡ part_of_line terms line → taken ≡ from_house part
    → first ≡ sums_at account symbol (part ∷ []) → second ≡ sums_at account symbol (taken ∷ []) → joined first second ≡ sums_at account symbol (moves_of_line terms line)
sums-line account symbol terms line part taken first second is_part is_taken one two =
    ap (λ sums. joined sums second) one ∙ ap (joined (sums_at account symbol (part ∷ []))) two
    ∙ sym (sums-append account symbol (part ∷ []) (taken ∷ []))
    ∙ ap (λ p. sums_at account symbol (part ∷ p ∷ [])) is_taken ∙ ap (λ p. sums_at account symbol (p ∷ from_house p ∷ [])) is_part

-- the moves of the live ones of two lists of allocations
pub live_moves-append :
    (instructions : List Instruction) (xs ys : List Entry)
    → moves_by instructions (xs ++ ys) ≡ moves_by instructions xs ++ moves_by instructions ys
live_moves-append instructions xs ys =
    let brought = λ (entry : Entry). allocation_of entry.command in
    let live = λ (allocation : Allocation). is_none (ended_in instructions allocation.key) in
    ap (live_moves instructions) (filter_map-append brought xs ys)
    ∙ ap (flat_map (λ a. moves_of a.terms)) (filter-append live (filter_map brought xs) (filter_map brought ys))
    ∙ flat_map-append (λ a. moves_of a.terms) (filter live (filter_map brought xs)) (filter live (filter_map brought ys))

-- ---- how large they are

pub up_to-weaker : (m n : ℕ) (sums : Option PositionLine) → m ≤ n → AreUpTo m sums → AreUpTo n sums
up_to-weaker m n sums more within = record { qty = omega (arith, within.qty); value = omega (arith, within.value) }

-- the sums of two amounts are up to the sum of what each is up to
pub up_to-sum :
    (m n : ℕ) (first second : PositionLine) → AreUpTo m (Some first) → AreUpTo n (Some second)
    → AreUpTo (m + n) (Some (record { qty = first.qty +ℤ second.qty; value = first.value +ℤ second.value }))
up_to-sum m n first second one two = record {
  qty = omega (arith, ints, one.qty, two.qty);
  value = omega (arith, ints, one.value, two.value);
}

up_to-both : (m n : ℕ) (first second : Option PositionLine) → AreUpTo m first → AreUpTo n second → AreUpTo (m + n) (joined first second)
up_to-both m n None second one two = record { qty = omega (arith, two.qty); value = omega (arith, two.value) }
up_to-both m n (Some first) None one two = record { qty = omega (arith, one.qty); value = omega (arith, one.value) }
up_to-both m n (Some first) (Some second) one two = up_to-sum m n first second one two

pub up_to-joined :
    (m n most : ℕ) (first second sums : Option PositionLine) → sums ≡ joined first second → AreUpTo m first → AreUpTo n second → m + n ≤ most → AreUpTo most sums
up_to-joined m n most first second sums is one two within =
    subst (AreUpTo most) (sym is) (up_to-weaker (m + n) most (joined first second) within (up_to-both m n first second one two))

-- what lines book, as a sum and in units
pub booked-units : (lines : List Line) → booked lines ≡ pos (units_of lines)
booked-units [] = refl
booked-units (line ∷ lines) =
    let both : (pos line.qty +ℤ pos (units_of lines)) ≡ pos (line.qty + units_of lines) = omega (arith, ints) in
    total-cons (λ (l : Line). pos l.qty) line lines ∙ ap (λ sum. pos line.qty +ℤ sum) (booked-units lines) ∙ both
    ∙ ap pos (sym (sum_by-cons (λ (l : Line). l.qty) line lines))

-- what lines book with one line more
pub units-more : (lines : List Line) (index : ℕ) (line : Line) → index < length lines → line ≡ get_or lines index line → units_of (take (index + 1) lines) ≡ units_of (take index lines) + line.qty
units-more lines index line within is =
    sum_by_more (λ (l : Line). l.qty) lines index line within ∙ ap (λ (l : Line). units_of (take index lines) + l.qty) (sym is)
