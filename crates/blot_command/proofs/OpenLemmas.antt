-- Cells that are made: no sums change, no cell is lost, and the house account has one in each symbol.
use Rattle.std.proofs.Common.{◌≡◌, ℕ, ◌+◌, ◌^◌, ◌<◌, ◌≤◌, true, false, List, length, take, get_or, Ok, Err, refl, sym, ap, subst, ◌∙◌, All, Result, OnOk, OnErr, take_all}
use Rattle.std.proofs.lemmas.List.Elements.{All-weaker}
use Rattle.blot_types.specs.declared.{allocation.Line.Line, allocation.Terms.Terms, fill.Fill.Fill, part.Part.Part, TheConstants.ITEMS_MAX}
use Rattle.blot_types.specs.Position.{house, part_of_fill, part_of_line, IsSmall, TermsFit}
use Rattle.blot_types.proofs.GeneralLemmas.{all-more}
use Rattle.blot_position.specs.Positions.{Cells, has_cell, with_cell}
use Rattle.blot_position.proofs.PositionLemmas.{sums_at-with_cell, has_cell-with_cell, has_cell-stays_with_cell, has_cell-own_with_cell}
use Rattle.blot_command.specs.Carried.{Opens, IsHoused, HasFillCells, HasTermsCells}
use Rattle.blot_command.proofs.HouseCellLemmas.{housed-more}

-- ---- one cell is made

pub opens-same : (cells : Cells) → Opens cells cells
opens-same cells = record { sums = λ account symbol. refl; made = λ account symbol has. has; housed = λ before. before }

opens-trans : (old between new : Cells) → Opens old between → Opens between new → Opens old new
opens-trans old between new first second = record {
  sums = λ account symbol. second.sums account symbol ∙ first.sums account symbol;
  made = λ account symbol has. second.made account symbol (first.made account symbol has);
  housed = λ before. second.housed (first.housed before);
}

opens-with_cell : (a s : List ℕ) (cells : Cells) → has_cell (with_cell a s cells) house s ≡ true → Opens cells (with_cell a s cells)
opens-with_cell a s cells here = record {
  sums = λ account symbol. sums_at-with_cell a s account symbol cells;
  made = λ account symbol has. has_cell-stays_with_cell a s account symbol cells has;
  housed = housed-more a s cells (with_cell a s cells) (λ account symbol. has_cell-with_cell a s account symbol cells) here;
}

-- a cell was made, unless memory ran out, and the house account has one in its symbol
pub opens-tried :
    {T E : Type 0} (result : Result T E) (a s : List ℕ) (old new : Cells) → has_cell (with_cell a s old) house s ≡ true → OnOk result (new ≡ with_cell a s old)
    → OnErr result (new ≡ old) → Opens old new
opens-tried (Ok done) a s old new here ok err = subst (Opens old) (sym ok) (opens-with_cell a s old here)
opens-tried (Err fault) a s old new here ok err = subst (Opens old) (sym err) (opens-same old)

pub opens-more :
    {T E : Type 0} (result : Result T E) (a s : List ℕ) (first old new : Cells) → has_cell (with_cell a s old) house s ≡ true → Opens first old
    → OnOk result (new ≡ with_cell a s old) → OnErr result (new ≡ old) → Opens first new
opens-more result a s first old new here before ok err = opens-trans first old new before (opens-tried result a s old new here ok err)

pub opens-then : (a s : List ℕ) (first old new : Cells) → has_cell (with_cell a s old) house s ≡ true → Opens first old → new ≡ with_cell a s old → Opens first new
opens-then a s first old new here before is = opens-trans first old new before (subst (Opens old) (sym is) (opens-with_cell a s old here))

own-made : (a s : List ℕ) (old new : Cells) → new ≡ with_cell a s old → has_cell new a s ≡ true
own-made a s old new is = ap (λ cells. has_cell cells a s) is ∙ has_cell-own_with_cell a s old

pub other-made : (a s a' s' : List ℕ) (old new : Cells) → new ≡ with_cell a s old → has_cell old a' s' ≡ true → has_cell new a' s' ≡ true
other-made a s a' s' old new is has = ap (λ cells. has_cell cells a' s') is ∙ has_cell-stays_with_cell a s a' s' old has

-- the house account's own
pub opens-house : (account s : List ℕ) (old new : Cells) → account ≡ house → new ≡ with_cell account s old → Opens old new
opens-house account s old new at is =
    opens-then account s old old new (subst (λ a. has_cell (with_cell account s old) a s ≡ true) at (has_cell-own_with_cell account s old)) (opens-same old) is

pub house-made : (account s : List ℕ) (old new : Cells) → account ≡ house → new ≡ with_cell account s old → has_cell new house s ≡ true
house-made account s old new at is = subst (λ a. has_cell new a s ≡ true) at (own-made account s old new is)

-- ---- the cells of a fill

-- they are there
pub fill-there :
    (fill : Fill) (part : Part) (cells : Cells) → part ≡ part_of_fill false fill → has_cell cells part.account part.symbol ≡ true → IsHoused cells → HasFillCells cells fill
fill-there fill part cells is has housed = record {
  own = subst (λ (p : Part). has_cell cells p.account p.symbol ≡ true) is has;
  housed = subst (λ (p : Part). has_cell cells house p.symbol ≡ true) is (housed part.account part.symbol has);
}

-- or they are made
pub fill-opens :
    {T E : Type 0} (result : Result T E) (part : Part) (account : List ℕ) (old between new : Cells) → account ≡ house → between ≡ with_cell account part.symbol old
    → OnOk result (new ≡ with_cell part.account part.symbol between) → OnErr result (new ≡ between) → Opens old new
fill-opens result part account old between new at first ok err =
    opens-more result part.account part.symbol old between new
    (has_cell-stays_with_cell part.account part.symbol house part.symbol between (house-made account part.symbol old between at first))
    (opens-house account part.symbol old between at first) ok err

pub fill-made :
    {T E : Type 0} (result : Result T E) (fill : Fill) (part : Part) (account : List ℕ) (old between new : Cells) → part ≡ part_of_fill false fill
    → account ≡ house → between ≡ with_cell account part.symbol old → OnOk result (new ≡ with_cell part.account part.symbol between)
    → OnOk result (HasFillCells new fill)
fill-made (Ok done) fill part account old between new is at first ok =
    let own : has_cell new part.account part.symbol ≡ true = own-made part.account part.symbol between new ok in
    let housed : has_cell new house part.symbol ≡ true =
    other-made part.account part.symbol house part.symbol between new ok (house-made account part.symbol old between at first) in
    record {
      own = subst (λ (p : Part). has_cell new p.account p.symbol ≡ true) is own;
      housed = subst (λ (p : Part). has_cell new house p.symbol ≡ true) is housed;
    }
fill-made (Err fault) fill part account old between new is at first ok = tt

-- ---- the cells of terms

abbrev pub LineMade : Cells → Terms → Line → Type 0
LineMade cells terms line = has_cell cells line.account terms.symbol ≡ true

abbrev pub LineFits : Terms → Line → Type 0
LineFits terms line = IsSmall (part_of_line terms line)

lines-kept : (a s : List ℕ) (terms : Terms) (lines : List Line) (old new : Cells) → new ≡ with_cell a s old → All (LineMade old terms) lines → All (LineMade new terms) lines
lines-kept a s terms lines old new is made =
    All-weaker (LineMade old terms) (LineMade new terms) (λ line has. other-made a s line.account terms.symbol old new is has) lines made

pub line-made :
    (terms : Terms) (lines : List Line) (index : ℕ) (line : Line) (part : Part) (old new : Cells) → index < length lines → line ≡ get_or lines index line
    → part ≡ part_of_line terms line → new ≡ with_cell part.account part.symbol old → All (LineMade old terms) (take index lines)
    → All (LineMade new terms) (take (index + 1) lines)
line-made terms lines index line part old new within at is made before =
    all-more (LineMade new terms) lines index line within at (lines-kept part.account part.symbol terms (take index lines) old new made before)
    (subst (λ (p : Part). has_cell new p.account p.symbol ≡ true) is (own-made part.account part.symbol old new made))

-- the house account's cell in their symbol is there, so each line's opens as it is to
pub line-opens :
    (terms : Terms) (line : Line) (part : Part) (first old new : Cells) → part ≡ part_of_line terms line → new ≡ with_cell part.account part.symbol old
    → has_cell old house terms.symbol ≡ true → Opens first old → Opens first new
line-opens terms line part first old new is made housed before =
    let symbol : terms.symbol ≡ part.symbol = sym (ap (λ (p : Part). p.symbol) is) in
    opens-then part.account part.symbol first old new
    (has_cell-stays_with_cell part.account part.symbol house part.symbol old (subst (λ s. has_cell old house s ≡ true) symbol housed)) before made

pub line-fits :
    (terms : Terms) (lines : List Line) (index : ℕ) (line : Line) (part : Part) → index < length lines → line ≡ get_or lines index line
    → part ≡ part_of_line terms line → IsSmall part → All (LineFits terms) (take index lines) → All (LineFits terms) (take (index + 1) lines)
line-fits terms lines index line part within at is small before = all-more (LineFits terms) lines index line within at before (subst IsSmall is small)

all-taken : {X : Type 0} (P : X → Type 0) (index : ℕ) (items all : List X) → length items ≤ index → items ≡ all → All P (take index items) → All P all
all-taken P index items all past is each = subst (All P) (take_all index items past ∙ is) each

pub terms-made :
    (terms : Terms) (lines : List Line) (index : ℕ) (cells : Cells) → length lines ≤ index → lines ≡ terms.lines → All (LineMade cells terms) (take index lines)
    → has_cell cells house terms.symbol ≡ true → HasTermsCells cells terms
terms-made terms lines index cells past is made housed = record { lines = all-taken (LineMade cells terms) index lines terms.lines past is made; housed = housed }

pub terms-fit :
    (terms : Terms) (lines : List Line) (index : ℕ) → length lines ≤ index → lines ≡ terms.lines → length terms.lines ≤ ITEMS_MAX
    → All (LineFits terms) (take index lines) → terms.block ≤ 10 ^ 16 → TermsFit terms
terms-fit terms lines index past is few fit block = record {
  lines = all-taken (LineFits terms) index lines terms.lines past is fit;
  few = few;
  block = block;
}
