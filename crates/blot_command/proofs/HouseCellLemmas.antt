-- The cells of the house account: there is one in each symbol in which an account has one, whatever is opened, put and taken.
use Rattle.std.proofs.Common.{◌≡◌, ℕ, ◌<◌, arith, Bool, true, false, ◌||◌, List, [], ◌∷◌, Option, Some, None, refl, sym, ap, subst, ◌∙◌, inl, inr, is_some, unwrap_or}
use Rattle.std.specs.FinMap as finite
use Rattle.std.proofs.lemmas.Bool.{cases_Bool, or_right}
use Rattle.blot_types.specs.declared.part.Part.{Part}
use Rattle.blot_types.specs.Keys.{position_at}
use Rattle.blot_types.specs.Position.{house}
use Rattle.blot_position.specs.declared.sums.Sums.{Sums}
use Rattle.blot_position.specs.Positions.{Cells, same_position, sums_at, has_cell}
use Rattle.blot_position.specs.Sums.{no_parts}
use Rattle.blot_position.proofs.PositionLemmas.{same_position-true, has_cell-with_part, has_cell-without_part, has_cell-stays_with_part, has_cell-stays_without_part, has_cell-empty}
use Rattle.blot_command.specs.Booking.{Change, changed, changed_by, changed_all, CanChangeBy, CanChangeAll}
use Rattle.blot_command.specs.Carried.{IsHoused}

-- cells with that of one position more, in whose symbol the house account has one
pub housed-more :
    (a s : List ℕ) (old new : Cells) → ((a' s' : List ℕ) → has_cell new a' s' ≡ (same_position a s a' s' || has_cell old a' s')) → has_cell new house s ≡ true → IsHoused old
    → IsHoused new
housed-more a s old new more here before a' s' has = elim (cases_Bool (same_position a s a' s')) [
  | inl same ↦ subst (λ t. has_cell new house t ≡ true) (same_position-true a s a' s' same).1 here
  | inr other ↦
      let was : has_cell old a' s' ≡ true = sym (more a' s' ∙ ap (λ test. test || has_cell old a' s') other) ∙ has in
      more house s' ∙ or_right (same_position a s house s') (has_cell old house s') (before a' s' was)
]

pub housed-empty : IsHoused finite.empty
housed-empty a s has = let clash : true ≡ false = sym has ∙ has_cell-empty a s in cc

-- ---- parts put and taken

some-part : (found : Option Sums) → 0 < (unwrap_or found no_parts).parts → is_some found ≡ true
some-part None more = absurd (omega (arith, more))
some-part (Some sums) more = refl

-- a position with a part has a cell
has-part : (a s : List ℕ) (cells : Cells) → 0 < (sums_at cells a s).parts → has_cell cells a s ≡ true
has-part a s cells more = some-part (finite.get cells (position_at a s)) more

housed_by : (is_put : Bool) (part : Part) (cells : Cells) → CanChangeBy is_put part cells → IsHoused cells → IsHoused (changed_by is_put part cells)
housed_by true part cells can before =
    housed-more part.account part.symbol cells (changed_by true part cells)
    (λ a s. has_cell-with_part part.account part.symbol a s part.qty part.value cells)
    (has_cell-stays_with_part part.account part.symbol house part.symbol part.qty part.value cells (before part.account part.symbol can.0)) before
housed_by false part cells can before =
    housed-more part.account part.symbol cells (changed_by false part cells)
    (λ a s. has_cell-without_part part.account part.symbol a s part.qty part.value cells)
    (has_cell-stays_without_part part.account part.symbol house part.symbol part.qty part.value cells
    (before part.account part.symbol (has-part part.account part.symbol cells can.some))) before

pub housed-stays : (changes : List Change) (cells : Cells) → CanChangeAll changes cells → IsHoused cells → IsHoused (changed_all changes cells)
housed-stays [] cells can before = before
housed-stays (change ∷ later) cells can before =
    housed-stays later (changed change cells) can.1 (housed_by change.is_put change.part cells can.0 before)
