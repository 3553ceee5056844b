-- How large the amounts are that the positions of a list carry.
use Rattle.std.proofs.Common.{◌≡◌, ℕ, ◌+◌, ◌*◌, ◌^◌, ◌≤◌, pos, ◌+ℤ◌, arith, Bool, List, [], ◌∷◌, length, refl, sym, unsigned_abs, All, flat_map}
use Rattle.std.proofs.lemmas.Int.{ints}
use Rattle.std.proofs.lemmas.List.Elements.{All-nil, All-cons, All-head, All-tail}
use Rattle.blot_types.specs.declared.{allocation.Line.Line, allocation.Terms.Terms, keys.ExecKey.ExecKey, part.Part.Part, lines.Version.Version, link.Link.Link}
use Rattle.blot_types.specs.Allocations.{Allocation}
use Rattle.blot_types.specs.Chains.{root_in}
use Rattle.blot_types.specs.Order.{total}
use Rattle.blot_types.specs.Position.{signed, part_of_line, from_house, moves_of_line, moves_of, IsSmall, FillFits, TermsFit}
use Rattle.blot_types.specs.Refusals.{booked}
use Rattle.blot_types.proofs.BookedLemmas.{BooksBlock}
use Rattle.blot_types.proofs.PartLemmas.{neg-size, signed-size, part_under, parts_under, named_at}
use Rattle.blot_types.proofs.SumLemmas.{total-cons}
use Rattle.blot_position.proofs.CarryLemmas.{Whole, more, SameWhole, Light, Light-put, Light-same}
use Rattle.blot_command.proofs.ReachLemmas.{sizes}
use Rattle.blot_command.proofs.HouseLemmas.{Light-weaker}

-- ---- a list of parts

Light-none : Light 0 0 (λ f. total f [])
Light-none = record {
  some = λ a s. omega (arith, ints);
  few = λ a s. omega (arith, ints);
  qtys = λ a s. omega (arith, ints);
  values = λ a s. omega (arith, ints);
}

pub Light-list : (parts : List Part) → All IsSmall parts → Light (length parts) (sizes parts) (λ f. total f parts)
Light-list [] small = Light-none
Light-list (part ∷ parts) small =
    let rest = Light-list parts (All-tail IsSmall part parts small) in
    let put = Light-put part (λ f. total f parts) (length parts) (sizes parts) (All-head IsSmall part parts small) rest in
    let same : SameWhole (more part (λ f. total f parts)) (λ f. total f (part ∷ parts)) = λ f. (let is = total-cons f part parts in omega (arith, ints, is)) in
    Light-weaker (λ f. total f (part ∷ parts)) (length parts + 1) (length (part ∷ parts)) (sizes parts + unsigned_abs part.qty) (sizes (part ∷ parts)) (omega arith) (omega arith)
    (Light-same (more part (λ f. total f parts)) (λ f. total f (part ∷ parts)) (length parts + 1) (sizes parts + unsigned_abs part.qty) same put)

pub Light-both : (a b : Whole) (count qty count' qty' : ℕ) → Light count qty a → Light count' qty' b → Light (count + count') (qty + qty') (λ f. a f +ℤ b f)
Light-both a b count qty count' qty' first second = record {
  some = λ x s. (let one = first.some x s in let two = second.some x s in omega (arith, ints, one, two));
  few = λ x s. (let one = first.few x s in let two = second.few x s in omega (arith, ints, one, two));
  qtys = λ x s. (let one = first.qtys x s in let two = second.qtys x s in omega (arith, ints, one, two));
  values = λ x s. (let one = first.values x s in let two = second.values x s in omega (arith, ints, one, two));
}

-- ---- the moves of lines

small-from_house : (part : Part) → IsSmall part → IsSmall (from_house part)
small-from_house part small = record {
  qty = omega (arith, small.qty, neg-size part.qty);
  value = omega (arith, small.value, neg-size part.qty, neg-size part.value);
}

pub small-moves : (terms : Terms) (lines : List Line) → All (λ line. IsSmall (part_of_line terms line)) lines → All IsSmall (flat_map (moves_of_line terms) lines)
small-moves terms [] small = All-nil IsSmall
small-moves terms (line ∷ lines) small =
    let part = part_of_line terms line in
    let one : IsSmall part = All-head (λ l. IsSmall (part_of_line terms l)) line lines small in
    All-cons IsSmall part (from_house part ∷ flat_map (moves_of_line terms) lines) one
    (All-cons IsSmall (from_house part) (flat_map (moves_of_line terms) lines) (small-from_house part one)
    (small-moves terms lines (All-tail (λ l. IsSmall (part_of_line terms l)) line lines small)))

length-moves : (terms : Terms) (lines : List Line) → length (flat_map (moves_of_line terms) lines) ≡ 2 * length lines
length-moves terms [] = refl
length-moves terms (line ∷ lines) = let rest = length-moves terms lines in omega (arith, rest)

sizes-moves : (terms : Terms) (lines : List Line) → pos (sizes (flat_map (moves_of_line terms) lines)) ≡ (booked lines +ℤ booked lines)
sizes-moves terms [] = omega (arith, ints)
sizes-moves terms (line ∷ lines) =
    let rest = sizes-moves terms lines in
    let sum = total-cons (λ (l : Line). pos l.qty) line lines in
    let one = signed-size terms.sign (pos line.qty) in
    let other = neg-size (signed terms.sign (pos line.qty)) in
    omega (arith, ints, rest, sum, one, other)

-- the lines of terms that book their block are few, and of a bounded quantity
pub record AreBooked (terms : Terms) : Type 0 where
  pub small : All IsSmall (moves_of terms)
  pub few : length (moves_of terms) ≤ 400
  pub qty : sizes (moves_of terms) ≤ 2 * 10 ^ 16

pub are_booked : (terms : Terms) → TermsFit terms → booked terms.lines ≡ pos terms.block → AreBooked terms
are_booked terms fit books =
    let lines = length-moves terms terms.lines in
    let size = sizes-moves terms terms.lines in
    let few = fit.few in
    let block = fit.block in
    record {
      small = small-moves terms terms.lines fit.lines;
      few = omega (arith, lines, few);
      qty = omega (arith, ints, size, books, block);
    }

abbrev pub AllBooked : List Allocation → Type 0
AllBooked allocations = All (λ allocation. AreBooked allocation.terms) allocations

pub all_booked : (allocations : List Allocation) → All (λ a. TermsFit a.terms) allocations → All BooksBlock allocations → AllBooked allocations
all_booked [] fit books = All-nil (λ a. AreBooked a.terms)
all_booked (a ∷ allocations) fit books =
    All-cons (λ x. AreBooked x.terms) a allocations (are_booked a.terms (All-head (λ x. TermsFit x.terms) a allocations fit) (All-head BooksBlock a allocations books))
    (all_booked allocations (All-tail (λ x. TermsFit x.terms) a allocations fit) (All-tail BooksBlock a allocations books))

-- what the lines of allocations come to
abbrev pub moves_whole : List Allocation → Whole
moves_whole allocations f = total (λ a. total f (moves_of a.terms)) allocations

pub Light-moves : (allocations : List Allocation) → AllBooked allocations → Light (length allocations * 400) (length allocations * (2 * 10 ^ 16)) (moves_whole allocations)
Light-moves [] booked = record {
  some = λ a s. omega (arith, ints);
  few = λ a s. omega (arith, ints);
  qtys = λ a s. omega (arith, ints);
  values = λ a s. omega (arith, ints);
}
Light-moves (a ∷ allocations) booked =
    let one = All-head (λ x. AreBooked x.terms) a allocations booked in
    let first : Light 400 (2 * 10 ^ 16) (λ f. total f (moves_of a.terms)) =
    Light-weaker (λ f. total f (moves_of a.terms)) (length (moves_of a.terms)) 400 (sizes (moves_of a.terms)) (2 * 10 ^ 16) one.few one.qty (Light-list (moves_of a.terms) one.small) in
    let rest = Light-moves allocations (All-tail (λ x. AreBooked x.terms) a allocations booked) in
    let same : SameWhole (λ f. total f (moves_of a.terms) +ℤ moves_whole allocations f) (moves_whole (a ∷ allocations)) = λ f. sym (total-cons (λ x. total f (moves_of x.terms)) a allocations) in
    Light-weaker (moves_whole (a ∷ allocations)) (400 + length allocations * 400) (length (a ∷ allocations) * 400) (2 * 10 ^ 16 + length allocations * (2 * 10 ^ 16)) (length (a ∷ allocations) * (2 * 10 ^ 16)) (omega arith) (omega arith)
    (Light-same (λ f. total f (moves_of a.terms) +ℤ moves_whole allocations f) (moves_whole (a ∷ allocations)) (400 + length allocations * 400) (2 * 10 ^ 16 + length allocations * (2 * 10 ^ 16)) same
    (Light-both (λ f. total f (moves_of a.terms)) (moves_whole allocations) 400 (2 * 10 ^ 16) (length allocations * 400) (length allocations * (2 * 10 ^ 16)) first rest))

-- ---- the parts of survivors

sizes-under : (named : ExecKey → Bool) (links : List Link) (versions : List Version) → All (λ v. FillFits v.fill) versions → (All IsSmall (parts_under named links versions)) × (sizes (parts_under named links versions) ≤ length versions * 10 ^ 16)
sizes-under named links [] fit = (All-nil IsSmall, omega arith)
sizes-under named links (v ∷ versions) fit =
    let rest = sizes-under named links versions (All-tail (λ x. FillFits x.fill) v versions fit) in
    let one : IsSmall (part_under named links v) = All-head (λ x. FillFits x.fill) v versions fit (named_at named (root_in links v.key)) in
    (All-cons IsSmall (part_under named links v) (parts_under named links versions) one rest.0, omega (arith, one.qty, rest.1))

length-under : (named : ExecKey → Bool) (links : List Link) (versions : List Version) → length (parts_under named links versions) ≡ length versions
length-under named links [] = refl
length-under named links (v ∷ versions) = let rest = length-under named links versions in omega (arith, rest)

pub Light-under : (named : ExecKey → Bool) (links : List Link) (versions : List Version) → All (λ v. FillFits v.fill) versions → Light (length versions) (length versions * 10 ^ 16) (λ f. total f (parts_under named links versions))
Light-under named links versions fit =
    let both = sizes-under named links versions fit in
    let long = length-under named links versions in
    Light-weaker (λ f. total f (parts_under named links versions)) (length (parts_under named links versions)) (length versions) (sizes (parts_under named links versions)) (length versions * 10 ^ 16)
    (omega (arith, long)) both.1 (Light-list (parts_under named links versions) both.0)
