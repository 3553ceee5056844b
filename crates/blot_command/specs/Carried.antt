-- The cells that the entries of a list need, and what these carry.
use Rattle.std.specs.Prelude.{◌≡◌, ℕ, false, true, List, All, IfSome, filter_map}
use Rattle.blot_types.specs.declared.{allocation.Terms.Terms, command.Command.Command, command.Entry.Entry, fill.Fill.Fill}
use Rattle.blot_types.specs.Allocations.{allocation_of}
use Rattle.blot_types.specs.Order.{total}
use Rattle.blot_types.specs.Position.{house, account_of, parts_of, FillFits, TermsFit}
use Rattle.blot_types.specs.Survivors.{version_by, versions_of}
use Rattle.blot_position.specs.Carried.{Carries}
use Rattle.blot_position.specs.Positions.{Cells, sums_at, has_cell}
use Rattle.blot_command.specs.Book.{Shown}

-- the cells of a fill are made: that of its own account, and that of the house account
pub record HasFillCells (cells : Cells) (fill : Fill) : Type 0 where
  pub own : has_cell cells (account_of false fill) fill.symbol ≡ true
  pub housed : has_cell cells house fill.symbol ≡ true

-- the cells of terms are made: those of its lines, and that of the house account
pub record HasTermsCells (cells : Cells) (terms : Terms) : Type 0 where
  pub lines : All (λ line. has_cell cells line.account terms.symbol ≡ true) terms.lines
  pub housed : has_cell cells house terms.symbol ≡ true

-- the cells of what a command brings are made, and its amounts are in range
abbrev pub HasEntryCells : Cells → Command → Type 0
HasEntryCells cells command =
    IfSome (version_by 0 command) (λ version. HasFillCells cells version.fill)
    × IfSome (allocation_of command) (λ allocation. HasTermsCells cells allocation.terms)

abbrev pub EntryFits : Command → Type 0
EntryFits command =
    IfSome (version_by 0 command) (λ version. FillFits version.fill) × IfSome (allocation_of command) (λ allocation. TermsFit allocation.terms)

-- where an account has a cell in a symbol, the house account has one too
abbrev pub IsHoused : Cells → Type 0
IsHoused cells = (account symbol : List ℕ) → has_cell cells account symbol ≡ true → has_cell cells house symbol ≡ true

-- cells were made, those of the house account too, and no sums changed
pub record Opens (old new : Cells) : Type 0 where
  pub sums : (account symbol : List ℕ) → sums_at new account symbol ≡ sums_at old account symbol
  pub made : (account symbol : List ℕ) → has_cell old account symbol ≡ true → has_cell new account symbol ≡ true
  pub housed : IsHoused old → IsHoused new

-- the cells of a list's fills and allocations are made, so that their parts come and go without memory; and all
-- amounts are in range
pub record IsReady (list : List Entry) (cells : Cells) : Type 0 where
  pub fill_cells : All (λ version. HasFillCells cells version.fill) (versions_of list)
  pub terms_cells : All (λ allocation. HasTermsCells cells allocation.terms) (filter_map (λ entry. allocation_of entry.command) list)
  pub fills_fit : All (λ version. FillFits version.fill) (versions_of list)
  pub terms_fit : All (λ allocation. TermsFit allocation.terms) (filter_map (λ entry. allocation_of entry.command) list)

-- the cells show the positions of a book: they carry the parts of its list, and are ready for its entries to come and go, and for
-- those that are kept to come back; and the house account has a cell in each symbol in which an account has one
pub record ShowsPositions (shown : Shown) (cells : Cells) : Type 0 where
  pub carried : Carries (λ amount. total amount (parts_of shown.list)) cells
  pub ready : IsReady shown.list cells
  pub ready_kept : IsReady shown.kept cells
  pub housed : IsHoused cells
