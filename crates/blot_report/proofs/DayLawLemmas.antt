-- Where all that stands is of one day, the lines of that day are the book's.
use Rattle.std.proofs.Common.{◌≡◌, ℤ, Bool, true, List, [], ◌∷◌, ◌++◌, map, Some, refl, ap, ◌∙◌, filter, All, flat_map}
use Rattle.std.proofs.lemmas.Bool.Decides.{Decides-int_eq}
use Rattle.std.proofs.lemmas.List.Elements.{All-head, All-tail, All-weaker}
use Rattle.blot_types.specs.declared.{command.Entry.Entry, lines.Version.Version}
use Rattle.blot_types.specs.Allocations.{Allocation, live_allocations}
use Rattle.blot_types.specs.Order.{line_of, fills_of}
use Rattle.blot_types.specs.Position.{is_at, moves_of, part_of, position_by}
use Rattle.blot_types.specs.Survivors.{survivors}
use Rattle.blot_report.specs.declared.lines.DayLines.{DayLines}
use Rattle.blot_report.specs.Day.{is_on, survivors_on, is_allocated_on, allocations_on}
use Rattle.blot_report.specs.Laws.{IsOfOneDay, ShowsDay, ShowsBook}

-- a test that each item passes keeps them all
filter-all : {X : Type 0} (p : X → Bool) (xs : List X) → All (λ x. p x ≡ true) xs → filter p xs ≡ xs
filter-all p [] passes = refl
filter-all p (x ∷ xs) passes =
    let here : p x ≡ true = All-head (λ y. p y ≡ true) x xs passes in
    rw here (ap (λ rest. x ∷ rest) (filter-all p xs (All-tail (λ y. p y ≡ true) x xs passes)))

all-survivors : (list : List Entry) (day : ℤ) → IsOfOneDay list day → survivors_on list (Some day) ≡ survivors list
all-survivors list day one =
    filter-all (is_on (Some day)) (survivors list)
    (All-weaker (λ (v : Version). v.fill.day ≡ day) (λ v. is_on (Some day) v ≡ true) (λ v is. (Decides-int_eq v.fill.day day).1 is) (survivors list) one.fills)

all-allocations : (list : List Entry) (day : ℤ) → IsOfOneDay list day → allocations_on list (Some day) ≡ live_allocations list
all-allocations list day one =
    filter-all (is_allocated_on (Some day)) (live_allocations list)
    (All-weaker (λ (a : Allocation). a.terms.day ≡ day) (λ a. is_allocated_on (Some day) a ≡ true) (λ a is. (Decides-int_eq a.terms.day day).1 is) (live_allocations list) one.allocations)

-- lines that show such a day show the book
pub shows-book : (list : List Entry) (day : ℤ) (lines : DayLines) → ShowsDay list day lines → IsOfOneDay list day → ShowsBook list lines
shows-book list day lines shows one =
    let fills = all-survivors list day one in
    let allocations = all-allocations list day one in
    record {
      orders = λ order. shows.orders order ∙ ap (λ versions. line_of (fills_of (map (λ (v : Version). v.fill) versions) order)) fills;
      positions = λ account symbol. shows.positions account symbol
          ∙ (λ i. position_by (filter (is_at account symbol) (map (part_of list) (fills i) ++ flat_map (λ (a : Allocation). moves_of a.terms) (allocations i))));
    }
