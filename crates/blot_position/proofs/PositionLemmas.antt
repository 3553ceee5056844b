-- The positions after a change: the sums and the cell of the same position, and of another one.
use Rattle.std.proofs.Common.{◌≡◌, ℕ, ℤ, List, Option, Some, Bool, true, false, ◌||◌, refl, sym, ap, ◌∙◌, inl, inr, if◌then◌else◌, is_some, unwrap_or, nat_cmp}
use Rattle.std.specs.Cmp.{tied_then}
use Rattle.std.specs.Cmp.Lexicographic.{slice_cmp, nat_list_eq_equiv, texts_ties, same_text as text_told}
use Rattle.std.specs.FinMap as finite
use Rattle.std.specs.Ordering.{eq_by_cmp}
use Rattle.std.proofs.lemmas.Bool.{cases_Bool, and_from, and_parts, or_right}
use Rattle.blot_types.specs.Keys.{same_text, position_at, position_cmp}
use Rattle.blot_types.proofs.KeyLemmas.{position_cmp-total, position_cmp-exact}
use Rattle.blot_types.proofs.GeneralLemmas.{through}
use Rattle.blot_position.specs.declared.sums.Sums.{Sums}
use Rattle.blot_position.specs.Sums.{no_parts, with_one, without_one}
use Rattle.blot_position.specs.Positions.{Cells, same_position, sums_at, has_cell, with_cell, with_part, without_part}

-- ---- when two positions are one

pub same_position-refl : (account symbol : List ℕ) → same_position account symbol account symbol ≡ true
same_position-refl account symbol = and_from _ _ (nat_list_eq_equiv.refl account) (nat_list_eq_equiv.refl symbol)

pub same_position-sym : (a s a' s' : List ℕ) → same_position a s a' s' ≡ same_position a' s' a s
same_position-sym a s a' s' = rw (nat_list_eq_equiv.symm a a', nat_list_eq_equiv.symm s s') refl

pub same_position-true : (a s a' s' : List ℕ) → same_position a s a' s' ≡ true → (a ≡ a') × (s ≡ s')
same_position-true a s a' s' same =
    let parts : (same_text a a' ≡ true) × (same_text s s' ≡ true) = and_parts _ _ same in
    (text_told a a' (sym parts.0), text_told s s' (sym parts.1))

-- the order ties two positions where they are one
pub tied-same_position : (a s a' s' : List ℕ) → eq_by_cmp position_cmp (position_at a s) (position_at a' s') ≡ same_position a s a' s'
tied-same_position a s a' s' =
    sym (tied_then (slice_cmp nat_cmp a a') (slice_cmp nat_cmp s s'))
    ∙ sym (rw (texts_ties a a', texts_ties s s') refl)

-- ---- what a map with one more entry has for a position

pub get-insert : (cells : Cells) (a s a' s' : List ℕ) (sums : Sums) → finite.get (finite.insert cells (position_at a s) sums) (position_at a' s') ≡ (if same_position a s a' s' then Some sums else finite.get cells (position_at a' s'))
get-insert cells a s a' s' sums =
    finite.get-insert position_cmp-total cells (position_at a s) sums (position_at a' s')
    ∙ ap (λ test. if test then Some sums else finite.get cells (position_at a' s')) (tied-same_position a' s' a s ∙ same_position-sym a' s' a s)

sums_at-insert : (cells : Cells) (a s a' s' : List ℕ) (sums : Sums) → sums_at (finite.insert cells (position_at a s) sums) a' s' ≡ (if same_position a s a' s' then sums else sums_at cells a' s')
sums_at-insert cells a s a' s' sums =
    ap (λ found. unwrap_or found no_parts) (get-insert cells a s a' s' sums)
    ∙ through (λ found. unwrap_or found no_parts) (same_position a s a' s') (Some sums) (finite.get cells (position_at a' s'))

some_or : (test : Bool) (sums : Sums) (found : Option Sums) → is_some (if test then Some sums else found) ≡ (test || is_some found)
some_or true sums found = refl
some_or false sums found = refl

has_cell-insert : (cells : Cells) (a s a' s' : List ℕ) (sums : Sums) → has_cell (finite.insert cells (position_at a s) sums) a' s' ≡ (same_position a s a' s' || has_cell cells a' s')
has_cell-insert cells a s a' s' sums =
    ap is_some (get-insert cells a s a' s' sums) ∙ some_or (same_position a s a' s') sums (finite.get cells (position_at a' s'))

-- ---- no cells

pub sums_at-empty : (a s : List ℕ) → sums_at finite.empty a s ≡ no_parts
sums_at-empty a s = ap (λ found. unwrap_or found no_parts) (finite.get-empty {X = Sums} position_cmp (position_at a s))

pub has_cell-empty : (a s : List ℕ) → has_cell finite.empty a s ≡ false
has_cell-empty a s = ap is_some (finite.get-empty {X = Sums} position_cmp (position_at a s))

-- ---- the sums after a change

-- the sums of one position are the same under equal texts
alike : (cells : Cells) (a s a' s' : List ℕ) → same_position a s a' s' ≡ true → sums_at cells a s ≡ sums_at cells a' s'
alike cells a s a' s' same = let parts = same_position-true a s a' s' same in λ i. sums_at cells (parts.0 i) (parts.1 i)

-- a cell that is made changes no sums
pub sums_at-with_cell : (a s a' s' : List ℕ) (cells : Cells) → sums_at (with_cell a s cells) a' s' ≡ sums_at cells a' s'
sums_at-with_cell a s a' s' cells =
    sums_at-insert cells a s a' s' (sums_at cells a s)
    ∙ elim (cases_Bool (same_position a s a' s')) [
      | inl same ↦ rw same (alike cells a s a' s' same)
      | inr other ↦ rw other refl
    ]

pub sums_at-with_part :
    (a s a' s' : List ℕ) (qty value : ℤ) (cells : Cells)
    → sums_at (with_part a s qty value cells) a' s' ≡ (if same_position a s a' s' then with_one qty value (sums_at cells a' s') else sums_at cells a' s')
sums_at-with_part a s a' s' qty value cells =
    sums_at-insert cells a s a' s' (with_one qty value (sums_at cells a s))
    ∙ elim (cases_Bool (same_position a s a' s')) [
      | inl same ↦ rw same (ap (with_one qty value) (alike cells a s a' s' same))
      | inr other ↦ rw other refl
    ]

pub sums_at-without_part :
    (a s a' s' : List ℕ) (qty value : ℤ) (cells : Cells)
    → sums_at (without_part a s qty value cells) a' s' ≡ (if same_position a s a' s' then without_one qty value (sums_at cells a' s') else sums_at cells a' s')
sums_at-without_part a s a' s' qty value cells =
    sums_at-insert cells a s a' s' (without_one qty value (sums_at cells a s))
    ∙ elim (cases_Bool (same_position a s a' s')) [
      | inl same ↦ rw same (ap (without_one qty value) (alike cells a s a' s' same))
      | inr other ↦ rw other refl
    ]

-- ---- the cells after a change

pub has_cell-with_cell : (a s a' s' : List ℕ) (cells : Cells) → has_cell (with_cell a s cells) a' s' ≡ (same_position a s a' s' || has_cell cells a' s')
has_cell-with_cell a s a' s' cells = has_cell-insert cells a s a' s' (sums_at cells a s)

pub has_cell-with_part :
    (a s a' s' : List ℕ) (qty value : ℤ) (cells : Cells) → has_cell (with_part a s qty value cells) a' s' ≡ (same_position a s a' s' || has_cell cells a' s')
has_cell-with_part a s a' s' qty value cells = has_cell-insert cells a s a' s' (with_one qty value (sums_at cells a s))

pub has_cell-without_part :
    (a s a' s' : List ℕ) (qty value : ℤ) (cells : Cells) → has_cell (without_part a s qty value cells) a' s' ≡ (same_position a s a' s' || has_cell cells a' s')
has_cell-without_part a s a' s' qty value cells = has_cell-insert cells a s a' s' (without_one qty value (sums_at cells a s))

-- a cell that was made stays

pub has_cell-stays_with_cell : (a s a' s' : List ℕ) (cells : Cells) → has_cell cells a' s' ≡ true → has_cell (with_cell a s cells) a' s' ≡ true
has_cell-stays_with_cell a s a' s' cells has = has_cell-with_cell a s a' s' cells ∙ or_right (same_position a s a' s') (has_cell cells a' s') has

pub has_cell-stays_with_part :
    (a s a' s' : List ℕ) (qty value : ℤ) (cells : Cells) → has_cell cells a' s' ≡ true → has_cell (with_part a s qty value cells) a' s' ≡ true
has_cell-stays_with_part a s a' s' qty value cells has =
    has_cell-with_part a s a' s' qty value cells ∙ or_right (same_position a s a' s') (has_cell cells a' s') has

pub has_cell-stays_without_part :
    (a s a' s' : List ℕ) (qty value : ℤ) (cells : Cells) → has_cell cells a' s' ≡ true → has_cell (without_part a s qty value cells) a' s' ≡ true
has_cell-stays_without_part a s a' s' qty value cells has =
    has_cell-without_part a s a' s' qty value cells ∙ or_right (same_position a s a' s') (has_cell cells a' s') has

-- the position that was changed has a cell

pub has_cell-own_with_cell : (a s : List ℕ) (cells : Cells) → has_cell (with_cell a s cells) a s ≡ true
has_cell-own_with_cell a s cells = has_cell-with_cell a s a s cells ∙ ap (λ test. test || has_cell cells a s) (same_position-refl a s)

-- maps that answer alike are equal
pub same_cells : (one two : Cells) → ((a s : List ℕ) → finite.get one (position_at a s) ≡ finite.get two (position_at a s)) → one ≡ two
same_cells one two same = finite.same_map position_cmp-total position_cmp-exact one two (λ key. same key.account key.symbol)
