-- The cells as they are stored, and the positions that they stand for.
use Rattle.std.proofs.Common.{◌≡◌, cond, List, [], ◌∷◌, Option, Some, None, false, refl, sym, ap, subst, ◌∙◌, inl, inr, if◌then◌else◌, is_some, is_none, unwrap_or}
use Rattle.std.specs.FinMap as finite
use Rattle.std.specs.List.{list_any, IsDistinct}
use Rattle.std.specs.Map.{keys_of, lookup}
use Rattle.std.proofs.lemmas.Bool.{cases_Bool}
use Rattle.std.proofs.lemmas.Map.Made.{is_some-lookup}
use Rattle.blot_types.specs.declared.keys.PositionKey.{PositionKey}
use Rattle.blot_types.specs.Keys.{position_at, position_cmp}
use Rattle.blot_types.proofs.KeyLemmas.{position_cmp-total}
use Rattle.blot_position.specs.declared.sums.Sums.{Sums}
use Rattle.blot_position.specs.Cells.{cells_in, sums_in}
use Rattle.blot_position.specs.Positions.{same_key, same_position, sums_at, has_cell, with_cell, AreKeysOf}
use Rattle.blot_position.specs.Sums.{no_parts}
use Rattle.blot_position.proofs.PositionLemmas.{same_position-true, tied-same_position, get-insert, same_cells}

-- the order finds what the test of keys finds
found : (entries : List (PositionKey × Sums)) (key : PositionKey) → finite.find position_cmp key entries ≡ lookup (same_key key) entries
found [] key = refl
found (entry ∷ later) key =
    ap (λ test. cond test (Some entry.1) (finite.find position_cmp key later)) (tied-same_position key.account key.symbol (entry.0).account (entry.0).symbol)
    ∙ ap (cond (same_key key entry.0) (Some entry.1)) (found later key)

pub get-cells_in : (entries : List (PositionKey × Sums)) (key : PositionKey) → finite.get (cells_in entries) key ≡ lookup (same_key key) entries
unfolding cells_in
get-cells_in entries key = finite.get-from_entries position_cmp-total entries key ∙ found entries key

-- ---- what cells answer

pub sums_at-found : (entries : List (PositionKey × Sums)) (key : PositionKey) (found : Option Sums) → lookup (same_key key) entries ≡ found
    → sums_at (cells_in entries) key.account key.symbol ≡ unwrap_or found no_parts
sums_at-found entries key found is = ap (λ o. unwrap_or o no_parts) (get-cells_in entries key ∙ is)

pub has_cell-found : (entries : List (PositionKey × Sums)) (key : PositionKey) → has_cell (cells_in entries) key.account key.symbol ≡ is_some (lookup (same_key key) entries)
has_cell-found entries key = ap is_some (get-cells_in entries key)

pub cells_in-empty : cells_in [] ≡ finite.empty
unfolding cells_in
cells_in-empty = refl

-- ---- one entry written

pub cells-written :
    (old new : List (PositionKey × Sums)) (key : PositionKey) (sums : Sums)
    → ((other : PositionKey) → lookup (same_key other) new ≡ cond (same_key key other) (Some sums) (lookup (same_key other) old))
    → cells_in new ≡ finite.insert (cells_in old) key sums
cells-written old new key sums written =
    same_cells (cells_in new) (finite.insert (cells_in old) key sums) (λ a s.
    let other = position_at a s in
    get-cells_in new other ∙ written other
    ∙ ap (cond (same_key key other) (Some sums)) (sym (get-cells_in old other))
    ∙ sym (get-insert (cells_in old) key.account key.symbol a s sums))

-- the sums of an entry that is there changed
pub cells-changed :
    (old new : List (PositionKey × Sums)) (key : PositionKey) (was now : Sums) (change : Sums → Sums) → lookup (same_key key) old ≡ Some was → now ≡ change was
    → ((other : PositionKey) → lookup (same_key other) new ≡ cond (same_key key other) (Some now) (lookup (same_key other) old))
    → cells_in new ≡ finite.insert (cells_in old) key (change (sums_in old key))
cells-changed old new key was now change found is written =
    cells-written old new key now written ∙ ap (finite.insert (cells_in old) key) (is ∙ ap change (sym (sums_at-found old key (Some was) found)))

held : (found : Option Sums) → is_none found ≡ false → found ≡ Some (unwrap_or found no_parts)
held None there = cc
held (Some sums) there = refl

-- a cell that is there is made already
pub cells-there : (entries : List (PositionKey × Sums)) (key : PositionKey) → is_none (lookup (same_key key) entries) ≡ false → cells_in entries ≡ with_cell key.account key.symbol (cells_in entries)
cells-there entries key there =
    let sums = sums_at (cells_in entries) key.account key.symbol in
    same_cells (cells_in entries) (with_cell key.account key.symbol (cells_in entries)) (λ a s.
    elim (cases_Bool (same_position key.account key.symbol a s)) [
      | inl same ↦
          let parts = same_position-true key.account key.symbol a s same in
          (λ i. finite.get (cells_in entries) (position_at (sym parts.0 i) (sym parts.1 i))) ∙ get-cells_in entries key ∙ held (lookup (same_key key) entries) there
          ∙ ap Some (sym (sums_at-found entries key (lookup (same_key key) entries) refl))
          ∙ sym (get-insert (cells_in entries) key.account key.symbol a s sums ∙ ap (λ test. if test then Some sums else finite.get (cells_in entries) (position_at a s)) same)
      | inr other ↦ sym (get-insert (cells_in entries) key.account key.symbol a s sums ∙ ap (λ test. if test then Some sums else finite.get (cells_in entries) (position_at a s)) other)
    ])

-- ---- the keys of the cells

pub keys-are : (entries : List (PositionKey × Sums)) (keys : List PositionKey) → keys ≡ keys_of entries → IsDistinct same_key (keys_of entries) → AreKeysOf (cells_in entries) keys
keys-are entries keys are once = record {
  all = λ key. ap (list_any (same_key key)) are ∙ sym (is_some-lookup (same_key key) entries) ∙ sym (has_cell-found entries key);
  once = subst (IsDistinct same_key) (sym are) once;
}

-- what a cell has that was found, or made with the sums of no parts
pub sums-found : (entries : List (PositionKey × Sums)) (key : PositionKey) (found : Option Sums) (fresh was : Sums) → found ≡ lookup (same_key key) entries → fresh ≡ no_parts → was ≡ unwrap_or found fresh
    → was ≡ sums_in entries key
sums-found entries key found fresh was at_key none is = is ∙ ap (unwrap_or found) none ∙ sym (sums_at-found entries key found (sym at_key))

-- a part is put into such a cell
pub cells-put :
    (old new : List (PositionKey × Sums)) (key : PositionKey) (was now : Sums) (change : Sums → Sums) → was ≡ sums_in old key → now ≡ change was
    → ((other : PositionKey) → lookup (same_key other) new ≡ cond (same_key key other) (Some now) (lookup (same_key other) old))
    → cells_in new ≡ finite.insert (cells_in old) key (change (sums_in old key))
cells-put old new key was now change was_is is written =
    cells-written old new key now written ∙ ap (finite.insert (cells_in old) key) (is ∙ ap change was_is)
