-- The parts of a day are light.
use Rattle.std.proofs.Common.{◌≡◌, ◌+◌, ◌*◌, ◌^◌, ◌≤◌, arith, true, ℤ, pos, Option, List, [], ◌∷◌, ◌++◌, length, is_none, All, flat_map, length-append}
use Rattle.std.proofs.lemmas.Bool.{and_parts}
use Rattle.std.proofs.lemmas.List.Elements.{All-nil, All-head, All-tail, All-append, All-filter}
use Rattle.blot_types.specs.declared.{allocation.Terms.Terms, command.Entry.Entry, part.Part.Part, TheConstants.EVENTS_MAX}
use Rattle.blot_types.specs.Bounds.{BOOK_PARTS, BOOK_QTY}
use Rattle.blot_types.specs.Allocations.{instructions_of, live_allocations}
use Rattle.blot_types.specs.Instructions.{ended_in}
use Rattle.blot_types.specs.Legal.{is_book}
use Rattle.blot_types.specs.Position.{moves_of, IsSmall, TermsFit}
use Rattle.blot_types.specs.Refusals.{booked}
use Rattle.blot_types.proofs.BookedLemmas.{BooksBlock, books_blocks}
use Rattle.blot_types.proofs.ChangeLemmas.{allocations_in}
use Rattle.blot_types.proofs.GeneralLemmas.{all-front}
use Rattle.blot_command.proofs.ReachLemmas.{sizes}
use Rattle.blot_command.proofs.WeightLemmas.{are_booked}
use Rattle.blot_report.specs.Day.{is_allocated_on, allocations_on}

-- parts are small, few, and of a bounded quantity in all, whatever its sign, so that no sum of theirs leaves an `i128`
pub record IsLight (parts : List Part) : Type 0 where
  pub small : All IsSmall parts
  pub few : length parts ≤ BOOK_PARTS
  pub light : sizes parts ≤ BOOK_QTY

sizes-append : (xs ys : List Part) → sizes (xs ++ ys) ≡ sizes xs + sizes ys
sizes-append [] ys = omega arith
sizes-append (x ∷ xs) ys = let rest = sizes-append xs ys in omega (arith, rest)

-- small parts are of at most 10^16 units each
sizes-small : (parts : List Part) → All IsSmall parts → sizes parts ≤ length parts * 10 ^ 16
sizes-small [] small = omega arith
sizes-small (part ∷ parts) small =
    let one : IsSmall part = All-head IsSmall part parts small in
    let rest = sizes-small parts (All-tail IsSmall part parts small) in
    omega (arith, one.qty, rest)

-- the lines of terms come to their block
abbrev pub Books : Terms → Type 0
Books terms = booked terms.lines ≡ pos terms.block

-- what the lines of some terms move
record AreMoved (terms : List Terms) : Type 0 where
  small : All IsSmall (flat_map moves_of terms)
  few : length (flat_map moves_of terms) ≤ length terms * 400
  light : sizes (flat_map moves_of terms) ≤ length terms * (2 * 10 ^ 16)

moved : (terms : List Terms) → All TermsFit terms → All Books terms → AreMoved terms
moved [] fit books = record { small = All-nil IsSmall; few = omega arith; light = omega arith }
moved (one ∷ others) fit books =
    let own = are_booked one (All-head TermsFit one others fit) (All-head Books one others books) in
    let rest = moved others (All-tail TermsFit one others fit) (All-tail Books one others books) in
    let long = length-append (moves_of one) (flat_map moves_of others) in
    let heavy = sizes-append (moves_of one) (flat_map moves_of others) in
    let few = own.few in
    let qty = own.qty in
    let few_rest = rest.few in
    let light_rest = rest.light in
    record {
      small = All-append IsSmall (moves_of one) (flat_map moves_of others) own.small rest.small;
      few = omega (arith, long, few, few_rest);
      light = omega (arith, heavy, qty, light_rest);
    }

-- few small parts are light, with what few terms move
pub light-with :
    (fills : List Part) (terms : List Terms) → All IsSmall fills → length fills ≤ EVENTS_MAX + 1 → All TermsFit terms → All Books terms → length terms ≤ EVENTS_MAX + 1
    → IsLight (fills ++ flat_map moves_of terms)
light-with fills terms small few fit books few_terms =
    let moves = moved terms fit books in
    let lines = flat_map moves_of terms in
    let long = length-append fills lines in
    let heavy = sizes-append fills lines in
    let own = sizes-small fills small in
    let few_moves = moves.few in
    let light_moves = moves.light in
    record {
      small = All-append IsSmall fills lines small moves.small;
      few = omega (arith, few, few_terms, long, few_moves);
      light = omega (arith, few, few_terms, heavy, own, light_moves);
    }

-- a front of light parts is light
pub light-front : (front back : List Part) → IsLight (front ++ back) → IsLight front
light-front front back light =
    let long = length-append front back in
    let heavy = sizes-append front back in
    let few = light.few in
    let limit = light.light in
    record { small = all-front IsSmall front back light.small; few = omega (arith, long, few); light = omega (arith, heavy, limit) }

-- the lines of a day's live allocations book their blocks
pub books-on : (list : List Entry) (day : Option ℤ) → is_book list ≡ true → All (λ a. Books a.terms) (allocations_on list day)
books-on list day book =
    All-filter (is_allocated_on day) BooksBlock (live_allocations list)
    (All-filter (λ a. is_none (ended_in (instructions_of list) a.key)) BooksBlock (allocations_in list) (books_blocks list (and_parts _ _ book).1))
