-- The line of a position is that of the sums that its cell holds.
use Rattle.std.proofs.Common.{◌≡◌, ℕ, ◌==◌, pos, arith, false, List, [], ◌∷◌, length, Some, refl, sym, ap, subst, ◌∙◌, filter, ne_eqb, eq-eqb}
use Rattle.std.proofs.lemmas.Int.{ints}
use Rattle.std.proofs.lemmas.List.Elements.{All-nil}
use Rattle.std.specs.FinMap as finite
use Rattle.blot_types.specs.declared.{part.Part.Part, lines.Version.Version}
use Rattle.blot_types.specs.Allocations.{Allocation}
use Rattle.blot_types.specs.Order.{total}
use Rattle.blot_types.specs.Position.{is_at, position_by, position_of, parts_of, FillFits, TermsFit}
use Rattle.blot_types.proofs.SumLemmas.{total-cons, total-where}
use Rattle.blot_position.specs.declared.sums.Sums.{Sums}
use Rattle.blot_position.specs.Positions.{Cells, sums_at}
use Rattle.blot_position.specs.Sums.{line_by}
use Rattle.blot_position.proofs.PositionLemmas.{sums_at-empty}
use Rattle.blot_position.specs.Carried.{Carries}
use Rattle.blot_command.specs.Book.{Shown}
use Rattle.blot_command.specs.Carried.{HasFillCells, HasTermsCells, IsReady, ShowsPositions}
use Rattle.blot_command.proofs.HouseCellLemmas.{housed-empty}

pub ones : (parts : List Part) → total (λ part. pos 1) parts ≡ pos (length parts)
ones [] = refl
ones (part ∷ parts) = let sum = total-cons (λ (p : Part). pos 1) part parts in let rest = ones parts in omega (arith, ints, sum, rest)

pub line-of : (parts : List Part) (sums : Sums) → pos sums.parts ≡ pos (length parts) → sums.qty ≡ total (λ p. p.qty) parts → sums.value ≡ total (λ p. p.value) parts → line_by sums ≡ position_by parts
line-of [] sums count qty value = let none : sums.parts ≡ 0 = omega (arith, ints, count) in rw (eq-eqb sums.parts 0 none) refl
line-of (part ∷ parts) sums count qty value =
    let some : (sums.parts == 0) ≡ false = ne_eqb sums.parts 0 (λ none. omega (arith, ints, count, none)) in
    rw some (λ k. Some (record { qty = qty k; value = value k }))

-- the cells that carry parts show the sums of those at each position
pub line-carried : (parts : List Part) (cells : Cells) (a s : List ℕ) → Carries (λ f. total f parts) cells → line_by (sums_at cells a s) ≡ position_by (filter (is_at a s) parts)
line-carried parts cells a s carried =
    let here = filter (is_at a s) parts in
    line-of here (sums_at cells a s) (carried.parts a s ∙ sym (total-where (λ part. pos 1) (is_at a s) parts) ∙ ones here)
    (carried.qty a s ∙ sym (total-where (λ part. part.qty) (is_at a s) parts))
    (carried.value a s ∙ sym (total-where (λ part. part.value) (is_at a s) parts))

pub position-shown : (shown : Shown) (cells : Cells) (a s : List ℕ) → ShowsPositions shown cells → line_by (sums_at cells a s) ≡ position_of shown.list a s
position-shown shown cells a s shows = line-carried (parts_of shown.list) cells a s shows.carried

-- empty cells carry no parts
pub carries-nothing : Carries (λ f. total f []) finite.empty
carries-nothing = record {
  parts = λ a s. ap (λ (sums : Sums). pos sums.parts) (sums_at-empty a s);
  qty = λ a s. ap (λ (sums : Sums). sums.qty) (sums_at-empty a s);
  value = λ a s. ap (λ (sums : Sums). sums.value) (sums_at-empty a s);
}

-- without an entry there is no part, and no cell is needed
ready-nothing : IsReady [] finite.empty
ready-nothing = record {
  fill_cells = All-nil (λ (version : Version). HasFillCells finite.empty version.fill);
  terms_cells = All-nil (λ (allocation : Allocation). HasTermsCells finite.empty allocation.terms);
  fills_fit = All-nil (λ (version : Version). FillFits version.fill);
  terms_fit = All-nil (λ (allocation : Allocation). TermsFit allocation.terms);
}

shows-nothing : ShowsPositions (record { list = []; kept = [] }) finite.empty
shows-nothing = record { carried = carries-nothing; ready = ready-nothing; ready_kept = ready-nothing; housed = housed-empty }

pub shows-none : (shown : Shown) (cells : Cells) → shown ≡ record { list = []; kept = [] } → cells ≡ finite.empty → ShowsPositions shown cells
shows-none shown cells none empty = subst (λ s. ShowsPositions s cells) (sym none) (subst (ShowsPositions (record { list = []; kept = [] })) (sym empty) shows-nothing)
